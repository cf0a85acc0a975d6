-- `lines::rows::lines` meets its contract. The invariant: the lines before number i are written.
-- Assumes nothing.
use Prim.Native.Nat.{◌+◌, ◌*◌, ◌-◌}
use native.Mathlib.Omega.{arith}
use mathlib.Core.Path.{◌≡◌}
use Rattle.lines.specs.Lines.{named}
use Rattle.lines.specs.Laws.{lines_more}
use Rattle.lines.proofs.rows.lines.Goals as goal

pub loop-i-preserved : goal.loop-i-preserved
loop-i-preserved c =
    let a = c.args in
    let i = c.loop-i.i in
    let wide : i * a.width + a.width - i * a.width ≡ a.width = omega arith in
    lines_more a.full (named a.names a.width) a.width i a.codes.now c.loop-i.invariant (rw (c.of.ensures, wide) at c.line.ensures)
