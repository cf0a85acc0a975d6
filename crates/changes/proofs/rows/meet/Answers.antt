-- `changes::rows::meet` meets its contract: the codes passed are met, and the others are as they were, at every step of the loop. Assumes nothing.
use native.Mathlib.Omega.{arith}
use Rattle.changes.specs.Laws.{met_more}
use Rattle.changes.proofs.rows.meet.Goals as goal

pub loop-i-preserved : goal.loop-i-preserved
loop-i-preserved c = let a = c.args in
    let l = c.loop-i in
    met_more _ _ a.codes.now l.codes a.from a.by l.i _ c.requires.0 l.invariant (omega (arith, c.requires.1 l.i c.loop-i-test.true, l.invariant.size)) c.meet_code.ensures
