-- `changes::rows::meet` meets its contract: the codes passed are met, and the others are as they were, at every step of the loop. Assumes nothing.
use Rattle.changes.specs.Change.{Met}
use Rattle.changes.proofs.rows.meet.Given as goal

abbrev pub invariant-loop-i : goal.invariant-loop-i
invariant-loop-i l = Met l.wide l.c l.initial.codes l.from l.by l.i l.codes
