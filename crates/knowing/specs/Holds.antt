-- Known to be this, and known to hold this byte: tests of what is known.
use Rattle.std.specs.Prelude.{ℕ, zero, suc, ◌+◌, ◌*◌, ◌^◌, ◌≡◌, Bool, true, false, ◌&&◌, eqb}
use Rattle.std.proofs.Common.{sym, ap, true≢false, eqb-true}
use Rattle.rules.specs.Digit.{digit}
use Rattle.knowing.specs.Standing.{Standing, known, unknown}

-- The fact is known to be v.
abbrev pub is_known : Standing → ℕ → Bool
is_known (known w) v = eqb w v
is_known unknown v = false

pub is_known_lem : (s : Standing) (v : ℕ) → is_known s v ≡ true → s ≡ known v
is_known_lem (known w) v e = ap known (eqb-true w v e)
is_known_lem unknown v e = absurd (true≢false (sym e))

-- This cell of w bits is known to hold this byte: each bit is known to be the byte's (M-107). One definition for all that
-- asks this of a cell.
abbrev pub holds : ℕ → (ℕ → Standing) → ℕ → Bool
holds zero cell byte = true
holds (suc w) cell byte = is_known (cell w) (digit w byte) && holds w cell byte

-- A bit above w others.
abbrev pub above : ℕ → Standing → Standing → Standing
above w (known v) (known b) = known (v * 2 ^ w + b)
above w (known v) unknown = unknown
above w unknown s = unknown

-- The byte that this cell of w bits is known to hold, or unknown if one of its bits is: `holds` from the other side.
abbrev pub byte_in : ℕ → (ℕ → Standing) → Standing
byte_in zero cell = known 0
byte_in (suc w) cell = above w (cell w) (byte_in w cell)
