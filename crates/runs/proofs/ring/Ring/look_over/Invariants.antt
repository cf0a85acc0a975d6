-- `runs::ring::Ring::look_over` meets its contract. The invariant: what is counted of the cells passed, and whether the last of them differs.
-- Assumes nothing.
use Rattle.runs.specs.Survey.{differ, Passed}
use Rattle.runs.proofs.ring.Ring.look_over.Given as goal

abbrev pub invariant-loop-i : goal.invariant-loop-i
invariant-loop-i l = Passed l.n (differ l.codes l.wanted) l.i l.cells l.runs l.lead l.last
