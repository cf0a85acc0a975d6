-- A round behind i rounds makes i + 1, whichever way the size has it taken.
use Rattle.std.proofs.Common.{add-one}
use Rattle.bench.specs.Rounds.{Round, none, more}
use Rattle.bench.proofs.rounds.summed.Goals as goal
use Rattle.bench.proofs.rounds.summed.Goals.{then-size-eq0, else-size-eq0}

pub loop-round-init : goal.loop-round-init
loop-round-init c = none

pub loop-round-preserved : goal.loop-round-preserved
loop-round-preserved c =
    let a = c.args in
    let last = c.if-size-eq0.last in
    let round : Round a.size a.part a.start a.recording.now last =
    elim c.if-size-eq0.branch [
      | then-size-eq0 w ↦ rw w.last-is (record { whole = λ e. w.replay-last.ensures; cut = λ not. absurd (not w.if-size-eq0.true) })
      | else-size-eq0 w ↦ rw w.last-is (record { whole = λ e. absurd (w.if-size-eq0.false e); cut = λ not. w.in_packets-last.ensures })
    ] in
    rw (add-one, c.answer_in-sum.ensures) (more last c.loop-round.invariant round)
