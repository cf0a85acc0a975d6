-- Laws of storing a row of bytes: two rows one behind the other are one, and a row at the front stands there with the
-- rest as it was.
use Rattle.std.specs.Prelude.{ℕ, suc, ◌+◌, ◌≤◌, ◌≡◌, refl, List, [], ◌∷◌, ◌++◌, length, drop, set}
use Rattle.std.proofs.Common.{arith, ap, ◌∙◌}
use Rattle.std.proofs.lemmas.List.Edits.{sets, sets-eq}
use Rattle.std.proofs.Math.Seq.{set_out}

pub sets_append : (xs ys l : List ℕ) (i : ℕ) → sets l i (xs ++ ys) ≡ sets (sets l i xs) (i + length xs) ys
sets_append [] ys l i =
    let e : i + 0 ≡ i = omega arith in
    rw e refl
sets_append (x ∷ xs) ys l i =
    let e : suc i + length xs ≡ i + suc (length xs) = omega arith in
    sets_append xs ys (set l i x) (suc i) ∙ ap (λ (k : ℕ). sets (sets (set l i x) (suc i) xs) k ys) e

-- What is written from the front on stands there, and the rest is as it was.
pub front : (vs out : List ℕ) → length vs ≤ length out → sets out 0 vs ≡ vs ++ drop (length vs) out
front vs out h =
    let z : 0 + length vs ≡ length vs = omega arith in
    sets-eq vs out 0 (omega arith) ∙ rw z refl

-- Where there is no room, nothing changes.
pub sets_out : (vs l : List ℕ) (i : ℕ) → length l ≤ i → sets l i vs ≡ l
sets_out [] l i h = refl
sets_out (v ∷ vs) l i h = rw (set_out l i v h) (sets_out vs l (suc i) (omega arith))
