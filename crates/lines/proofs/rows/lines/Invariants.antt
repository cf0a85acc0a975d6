-- `lines::rows::lines` meets its contract. The invariant: the lines before number i are written.
-- Assumes nothing.
use Rattle.writing.specs.Wrote.{Wrote}
use Rattle.lines.specs.Lines.{lines, named}
use Rattle.lines.proofs.rows.lines.Given as goal

abbrev pub invariant-loop-i : goal.invariant-loop-i
invariant-loop-i l = Wrote l.initial.w (lines l.full (named l.names l.width) l.width l.i 0 l.codes) l.w
