-- Half degrees as floating degrees (paper 02, M-103): "a reading in half degrees, exactly", and "minus nought reads as
-- plain nought".
use Rattle.std.specs.Prelude.{ℕ, suc, ◌<◌, Bool, true, false, ℤ, pos, negsuc, neg_ℤ, Float}
use Rattle.std.specs.Float.Ieee.Exact.{HasValue}

-- A whole number by its sign and its size: minus nought is nought.
abbrev pub signed : Bool → ℕ → ℤ
signed true n = neg_ℤ (pos n)
signed false n = pos n

-- The float is h half degrees, exactly: `HasValue f s a c` says, of the logic's own IEEE numbers, that f is finite, has
-- the sign s, and is a / c in size. Nought is plus nought.
abbrev pub InHalves : Float → ℤ → Type 0
InHalves f (pos n) = HasValue f false n 2
InHalves f (negsuc n) = HasValue f true (suc n) 2

-- The float is some number of half degrees, of which there are fewer than 256.
pub record Halved (f : Float) : Type 0 where
  pub negative : Bool
  pub halves : ℕ
  pub few : halves < 256
  pub exact : InHalves f (signed negative halves)

-- The same, of a float that is not below nought.
pub record Counted (f : Float) : Type 0 where
  pub halves : ℕ
  pub few : halves < 256
  pub exact : HasValue f false halves 2
