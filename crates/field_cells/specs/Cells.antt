-- The code's own words: five cells as bytes, where all are known.
use Rattle.std.specs.Prelude.{ℕ, zero, suc, ◌+◌, ◌<◌, ◌≡◌, refl, List, get_or, Option, Some, None}
use Rattle.std.proofs.Common.{add-zero, arith, ap, subst}
use Rattle.knowing.specs.Standing as Of
use Rattle.knowing.specs.Standing.{Standing}
use Rattle.lamps.specs.Whole.{whole}
use Rattle.field.specs.declared.spelling.Five.{Five}
use Rattle.field.specs.Said.{Said, unknown}
use Rattle.field.specs.Field.{if_known, if_all}

-- The byte that number i of a row of codes is of; a cell with any bit unknown counts as unknown (M-107).
abbrev pub byte_at : List ℕ → ℕ → Standing
byte_at codes i = whole 8 (get_or codes i 0)

abbrev pub by_row : Option Five → (Five → Said) → Said
by_row (Some five) rest = rest five
by_row None rest = unknown

-- What was read of a cell: the byte that it is known to hold, or nothing.
abbrev pub read_as : Option ℕ → Standing
read_as (Some byte) = Of.known byte
read_as None = Of.unknown

-- Where one of the five cells is not known, nothing is told of them.
else_unknown : (x : Standing) (f : ℕ → Said) → ((v : ℕ) → f v ≡ unknown) → if_known x f ≡ unknown
else_unknown (Of.known v) f h = h v
else_unknown Of.unknown f h = refl

here_unknown : (x : Standing) (f : ℕ → Said) → x ≡ Of.unknown → if_known x f ≡ unknown
here_unknown x f u = ap (λ (y : Standing). if_known y f) u

module _ (cell : ℕ → Standing) (start : ℕ) (rest : Five → Said) where
  no_sign : cell start ≡ Of.unknown → if_all cell start rest ≡ unknown
  no_sign u = here_unknown (cell start) _ u

  no_tens : cell (start + 1) ≡ Of.unknown → if_all cell start rest ≡ unknown
  no_tens u = else_unknown (cell start) _ (λ _. here_unknown (cell (start + 1)) _ u)

  no_units : cell (start + 2) ≡ Of.unknown → if_all cell start rest ≡ unknown
  no_units u = else_unknown (cell start) _ (λ _. else_unknown (cell (start + 1)) _ (λ _. here_unknown (cell (start + 2)) _ u))

  no_point : cell (start + 3) ≡ Of.unknown → if_all cell start rest ≡ unknown
  no_point u =
      else_unknown (cell start) _
      (λ _. else_unknown (cell (start + 1)) _ (λ _. else_unknown (cell (start + 2)) _ (λ _. here_unknown (cell (start + 3)) _ u)))

  no_half : cell (start + 4) ≡ Of.unknown → if_all cell start rest ≡ unknown
  no_half u =
      else_unknown (cell start) _
      (λ _. else_unknown (cell (start + 1)) _
      (λ _. else_unknown (cell (start + 2)) _ (λ _. else_unknown (cell (start + 3)) _ (λ _. here_unknown (cell (start + 4)) _ u))))

  -- Whichever of the five is not known.
  pub no_cell : (i : ℕ) → i < 5 → cell (start + i) ≡ Of.unknown → if_all cell start rest ≡ unknown
  no_cell zero h u = no_sign (subst (λ (k : ℕ). cell k ≡ Of.unknown) (add-zero start) u)
  no_cell (suc zero) h u = no_tens u
  no_cell (suc (suc zero)) h u = no_units u
  no_cell (suc (suc (suc zero))) h u = no_point u
  no_cell (suc (suc (suc (suc zero)))) h u = no_half u
  no_cell (suc (suc (suc (suc (suc i))))) h u = absurd (omega arith)
