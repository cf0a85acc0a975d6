-- `lines::rows::values` meets its contract. The invariant: the values of the codes passed are written.
-- Assumes nothing.
use lib.ListN.{take}
use Rattle.writing.specs.Wrote.{Wrote}
use Rattle.lines.specs.Lines.{values}
use Rattle.lines.proofs.rows.values.Given as goal

abbrev pub invariant-loop-code : goal.invariant-loop-code
invariant-loop-code l = Wrote l.initial.w (values l.full (take l.code-index l.codes)) l.w
