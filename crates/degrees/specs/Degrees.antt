-- Degrees for people: half degrees as whole degrees, a point, and 0 or 5, with a minus where they are below nought. The argument: a float is one number
-- of half degrees, and below nought that number has a size of one or more.
use Rattle.std.specs.Prelude.{ℕ, suc, ◌+◌, ◌*◌, ◌/◌, ◌%◌, ◌≤◌, true, List, [], ◌∷◌, ◌++◌, length, ℤ, pos, negsuc, Float}
use Prim.Native.Char.{code}
use Rattle.std.proofs.Common.{arith, subst, length-append}
use Rattle.std.specs.Float.Ieee.Exact.{HasValue}
use Rattle.writing.specs.Writes.{Writes}
use Rattle.text.specs.Text.{decimal}
use Rattle.text.specs.Decimal.{decimal_length}
use Rattle.half_degrees.specs.Half.{InHalves, Halved}
use Rattle.half_degrees.specs.Laws.{under_nought}

-- So many half degrees: whole degrees, a point, and 0 or 5.
abbrev pub sized : ℕ → List ℕ
sized n = decimal (n / 2) ++ (code "." ∷ (code "0" + 5 * (n % 2)) ∷ [])

-- The same with a minus, where they are below nought.
abbrev pub degrees : ℤ → List ℕ
degrees (pos n) = sized n
degrees (negsuc n) = (code "-" ∷ []) ++ sized (suc n)

-- The degrees of a float that is some half degrees stand at the front, as far as there is room.
pub record Degrees (f : Float) (out : List ℕ) (r : ℕ) (out' : List ℕ) : Type 0 where
  pub halves : ℤ
  pub exact : InHalves f halves
  pub written : Writes out 0 (degrees halves) r out'

-- A minus and the size of a float below nought are its degrees.
pub written_under : {out : List ℕ} {r : ℕ} {out' : List ℕ} (f : Float) (n : ℕ) → Halved f → HasValue f true n 2
    → Writes out 0 ((code "-" ∷ []) ++ sized n) r out' → Degrees f out r out'
written_under {out} {r} {out'} f n w v h =
    let u = under_nought f n w v in
    record {
      halves = negsuc u.0;
      exact = u.2;
      written = subst (λ (k : ℕ). Writes out 0 ((code "-" ∷ []) ++ sized k) r out') u.1 h;
    }

-- No number of them is long.
sized_length : (n : ℕ) → length (sized n) ≤ 22
sized_length n = omega (arith, length-append (decimal (n / 2)) (code "." ∷ (code "0" + 5 * (n % 2)) ∷ []), decimal_length (n / 2))

pub degrees_length : (h : ℤ) → length (degrees h) ≤ 23
degrees_length (pos n) = let x = sized_length n in omega arith
degrees_length (negsuc n) = omega (arith, sized_length (suc n), length-append (code "-" ∷ []) (sized (suc n)))
