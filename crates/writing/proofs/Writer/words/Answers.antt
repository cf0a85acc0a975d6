-- `Writer::words` meets its contract. The invariant: the bytes passed are written.
-- Assumes nothing.
use Prim.Native.Nat.{ℕ}
use mathlib.Core.Path.{refl}
use mathlib.Core.List.{List, [], ◌∷◌}
use Rattle.writing.specs.Wrote.{row_more}
use Rattle.writing.proofs.Writer.words.Goals as goal

pub loop-byte-preserved : goal.loop-byte-preserved
loop-byte-preserved c =
    row_more (λ (xs : List ℕ). xs) (λ (x : ℕ). x ∷ []) refl (λ x xs. refl) c.args.text.now c.loop-byte.byte-index c.loop-byte-test.true c.loop-byte.invariant c.put.ensures
