-- `strobes::bytes_in` meets its contract. The invariant: the bytes passed are recorded.
-- Assumes nothing.
use Prim.Native.Nat.{ℕ}
use mathlib.Core.Path.{refl}
use mathlib.Core.List.{List, [], ◌∷◌, map}
use Rattle.writing.specs.Wrote.{row_more}
use Rattle.terms.specs.declared.Event.TheVariants.{ByteIn}
use Rattle.terms.specs.Event.{recording}
use Rattle.strobes.proofs.bytes_in.Goals as goal

pub loop-byte-preserved : goal.loop-byte-preserved
loop-byte-preserved c =
    row_more (λ (bs : List ℕ). recording (map ByteIn bs)) (λ (b : ℕ). 3 ∷ b ∷ []) refl (λ b bs. refl) c.args.bytes.now c.loop-byte.byte-index c.loop-byte-test.true c.loop-byte.invariant c.byte_in.ensures
