-- What it is to write a text through a writer, as far as there is room, and its laws: texts written one behind the other are one
-- text, and so a loop over a row writes the text of the row.
use Rattle.std.specs.Prelude.{ℕ, zero, suc, ◌+◌, ◌<◌, ◌≡◌, refl, List, [], ◌∷◌, ◌++◌, length, get_or, take}
use Rattle.std.proofs.Common.{arith, sym, ap, ◌∙◌, append_assoc, append-nil}
use Rattle.writing.specs.Writes.{Writes}
use Rattle.writing.specs.Laws.{writes_none, writes_then}
use Rattle.writing.specs.declared.Writer.{Writer}

-- The text is written to the same memory from the writer's place on, and the place is the one behind it.
pub record Wrote (w : Writer) (text : List ℕ) (w' : Writer) : Type 0 where
  pub same : w'.out.ghost_name ≡ w.out.ghost_name
  pub written : Writes w.out.now w.at text w'.at w'.out.now

-- Nothing done is no text written.
pub wrote_none : (w : Writer) → Wrote w [] w
wrote_none w = record { same = refl; written = writes_none w.out.now w.at }

-- A text, and one behind it, are one text.
pub wrote_then : {u v w : Writer} {one other : List ℕ} → Wrote u one v → Wrote v other w → Wrote u (one ++ other) w
wrote_then p q = record { same = q.same ∙ p.same; written = writes_then p.written q.written }

-- A text with a piece for each number of a row, written by a loop over the row: its beginning, and one piece more.
module _ (text : List ℕ → List ℕ) (piece : ℕ → List ℕ) (ends : text [] ≡ []) (goes : (x : ℕ) (xs : List ℕ) → text (x ∷ xs) ≡ piece x ++ text xs) where
  text_more : (row : List ℕ) (i : ℕ) → i < length row → text (take (suc i) row) ≡ text (take i row) ++ piece (get_or row i 0)
  text_more [] i h = absurd (omega arith)
  text_more (x ∷ xs) zero h = rw (goes x [], ends) (append-nil (piece x))
  text_more (x ∷ xs) (suc i) h =
      goes x (take (suc i) xs) ∙ ap (λ (l : List ℕ). piece x ++ l) (text_more xs i (omega arith))
      ∙ sym (append_assoc (piece x) (text (take i xs)) (piece (get_or xs i 0))) ∙ ap (λ (l : List ℕ). l ++ piece (get_or xs i 0)) (sym (goes x (take i xs)))

  pub row_begun : (row : List ℕ) (w : Writer) → Wrote w (text (take 0 row)) w
  row_begun row w = rw ends (wrote_none w)

  pub row_more : {u v w : Writer} (row : List ℕ) (i : ℕ) → i < length row
      → Wrote u (text (take i row)) v → Wrote v (piece (get_or row i 0)) w → Wrote u (text (take (i + 1) row)) w
  row_more row i h p q =
      let e : i + 1 ≡ suc i = omega arith in
      rw (e, text_more row i h) (wrote_then p q)

-- What the lent memory is, once the writer gives it back.
pub wrote_back : {v w : Writer} {text out' : List ℕ} → Wrote v text w → out' ≡ w.out.now → Writes v.out.now v.at text w.at out'
wrote_back p e = rw e p.written
