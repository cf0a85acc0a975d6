-- The cut_off start of a record: its kind is of the part, and at least one byte of its body is missing. The argument:
-- that is what number 7 says of the bytes, and it is told by the first of them and how many there are.
use Rattle.std.specs.Prelude.{ℕ, ◌<◌, ◌≤◌, ◌≡◌, refl, ◌||◌, List, [], ◌∷◌, length, get_or, eqb, Err}
use Rattle.std.proofs.Common.{arith, le-ltb}
use Rattle.rules.specs.Choice.{whether, whether_all}
use Rattle.terms.specs.declared.Part.{Part}
use Rattle.recording.specs.declared.Refusal.TheVariants.{CutShort}
use Rattle.recording.specs.Record.{body_of, front}
use Rattle.recording.specs.Tests.{Starts}

-- No bytes, or bytes that are refused by 7.
pub data CutOff (p : Part) : List ℕ → Type 0 where
  none : CutOff p []
  some : (b : ℕ) (l : List ℕ) → front p (b ∷ l) ≡ Err CutShort → CutOff p (b ∷ l)

pub started : (p : Part) (l : List ℕ) → Starts p l → front p l ≡ Err CutShort
started p l s = rw (s.kind, s.own, le-ltb (body_of (get_or l 0 0)) (length l) s.short) refl

-- No body has more than four bytes.
pub body_four : (k : ℕ) → body_of k ≤ 4
body_four k =
    whether_all (λ (n : ℕ). n ≤ 4) (eqb k 7) 4 (whether (eqb k 3 || eqb k 6 || eqb k 8) 1 0) (λ _. omega arith)
    (λ _. whether_all (λ (n : ℕ). n ≤ 4) (eqb k 3 || eqb k 6 || eqb k 8) 1 0 (λ _. omega arith) (λ _. omega arith))

pub cut_off : (p : Part) (l : List ℕ) → 0 < length l → front p l ≡ Err CutShort → CutOff p l
cut_off p [] h q = absurd (omega arith)
cut_off p (b ∷ l) h q = some b l q
