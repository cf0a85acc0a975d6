-- What it is to print a text into lent memory: whole, or, where there is less room than every such text may need, not at
-- all, so that a part never passes for the whole.
use Rattle.std.specs.Prelude.{ℕ, ◌<◌, ◌≤◌, Bool, true, false, ◌≡◌, refl, List, ◌++◌, ltb, length, drop}
use Rattle.std.proofs.Common.{arith, ap, length-append, ltb-true, ltb-false}
use Rattle.writing.specs.Writes.{Writes}
use Rattle.writing.specs.Laws.{writes_front}

-- The text stands at the front of the output, the rest is as it was, and the answer is the text's length. With less room
-- than that, nothing is written, and the answer is 0.
pub record Prints (room : ℕ) (text out : List ℕ) (r : ℕ) (out' : List ℕ) : Type 0 where
  pub roomy : room ≤ length out → (r ≡ length text) × (out' ≡ text ++ drop (length text) out)
  pub tight : length out < room → (r ≡ 0) × (out' ≡ out)

-- A text that was written with enough room is printed, and where there is less room nothing is.
pub prints : {room : ℕ} {text out : List ℕ} {r : ℕ} {out' : List ℕ} → room ≤ length out → length text ≤ room → Writes out 0 text r out' → Prints room text out r out'
prints h k w = record { roomy = λ _. writes_front (omega arith) w; tight = λ l. absurd (omega arith) }

pub prints_nothing : {room : ℕ} {text out : List ℕ} → length out < room → Prints room text out 0 out
prints_nothing h = record { roomy = λ l. absurd (omega arith); tight = λ _. (refl, refl) }

-- The answer is never more than the output has.
pub prints_within : {room : ℕ} {text out : List ℕ} {r : ℕ} {out' : List ℕ} → Prints room text out r out' → r ≤ length out'
prints_within {room} {text} {out} {r} {out'} p = go (ltb (length out) room) refl
  where
    go : (t : Bool) → ltb (length out) room ≡ t → r ≤ length out'
    go true e = omega (arith, (p.tight (ltb-true (length out) room e)).0)
    go false e =
        let q = p.roomy (ltb-false (length out) room e) in
        omega (arith, q.0, ap length q.1, length-append text (drop (length text) out))
