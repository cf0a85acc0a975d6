-- `lines::rows::values` meets its contract. The invariant: the values of the codes passed are written.
-- Assumes nothing.
use Prim.Native.Nat.{ℕ}
use Prim.Native.Char.{code}
use mathlib.Core.Path.{refl}
use mathlib.Core.List.{◌∷◌}
use Rattle.writing.specs.Wrote.{row_more, wrote_then}
use Rattle.text.specs.Text.{shown}
use Rattle.lines.specs.Lines.{values}
use Rattle.lines.proofs.rows.values.Goals as goal

pub loop-code-preserved : goal.loop-code-preserved
loop-code-preserved c =
    let a = c.args in
    row_more (values a.full) (λ (x : ℕ). code " " ∷ shown a.full x) refl (λ x xs. refl) a.codes.now c.loop-code.code-index c.loop-code-test.true c.loop-code.invariant (wrote_then c.put.ensures c.shown.ensures)
