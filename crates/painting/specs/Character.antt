-- The painting of PT6302, and the chip that it leads to (paper 01, "Painting").
use Rattle.std.specs.Prelude.{ℕ, ◌+◌, ◌^◌, ◌<◌, List, [], ◌∷◌, ◌++◌, get_or, ltb}
use Rattle.rules.specs.Choice.{whether}
use Rattle.rules.specs.Digit.{digit}
use Rattle.terms.specs.declared.Event.{Event}
use Rattle.terms.specs.Event.{strobe}
use Rattle.character.specs.declared.Position.TheVariants.{Idle}
use Rattle.character.specs.Fact.{Fact, range, dcram, cgram, adram, dcram_at, cgram_at, adram_at, column, port, duty, digits, lights, position, text_bits, column_bits, pair_bits, port_bits}
use Rattle.character.specs.Value.{lit, at_position}
use Rattle.painting.specs.declared.CharacterPicture.{CharacterPicture}

-- The picture's values are in range: duty and digits as their facts have it, a column, a pair and the port as numbers of so many bits. A DCRAM cell is a
-- byte, and the lights a name of their own.
pub record InRanges (p : CharacterPicture) : Type 0 where
  pub columns_in : (i : ℕ) → get_or p.cgram i 0 < 2 ^ column_bits
  pub pairs_in : (i : ℕ) → get_or p.adram i 0 < 2 ^ pair_bits
  pub port_in : p.port < 2 ^ port_bits
  pub duty_in : p.duty < range duty
  pub digits_in : p.digits < range digits

-- Seven strobes: 10H and 16 bytes; 20H and 40 columns; 30H and 16 pairs; port; duty; digits; lights (0 normal, 1 off,
-- 2 on).
abbrev pub three_rams : List ℕ → List ℕ → List ℕ → List Event → List Event
three_rams ds gs pairs rest = strobe (0x10 ∷ ds) ++ (strobe (0x20 ∷ gs) ++ (strobe (0x30 ∷ pairs) ++ rest))

abbrev pub four_settings : ℕ → ℕ → ℕ → ℕ → List Event
four_settings p u n l =
    strobe ((0x40 + p) ∷ [])
    ++ (strobe ((0x50 + u) ∷ [])
    ++ (strobe ((0x60 + n) ∷ [])
    ++ strobe ((0x70 + l) ∷ [])))

abbrev pub painting : CharacterPicture → List Event
painting p = three_rams p.dcram p.cgram p.adram (four_settings p.port p.duty p.digits (lit p.lights))

-- The chip that was c, painted: memory and settings are the picture's, each bit that of its number. The addresses have gone round to 0, and the
-- transfer is over.
abbrev pub painted : CharacterPicture → (Fact → ℕ) → Fact → ℕ
painted p c (dcram i k) = whether (ltb i 16) (whether (ltb k text_bits) (digit k (get_or p.dcram i 0)) (c (dcram i k))) (c (dcram i k))
painted p c (cgram i k) = whether (ltb i 40) (whether (ltb k column_bits) (digit k (get_or p.cgram i 0)) (c (cgram i k))) (c (cgram i k))
painted p c (adram i k) = whether (ltb i 16) (whether (ltb k pair_bits) (digit k (get_or p.adram i 0)) (c (adram i k))) (c (adram i k))
painted p c dcram_at = 0
painted p c cgram_at = 0
painted p c adram_at = 0
painted p c column = 0
painted p c (port k) = whether (ltb k port_bits) (digit k p.port) (c (port k))
painted p c duty = p.duty
painted p c digits = p.digits
painted p c lights = lit p.lights
painted p c position = at_position Idle
