-- `segment_refreshed::spell` meets its contract: the codes passed say their wanted bytes, and the others are as they were, at every step of the loop.
-- Assumes nothing.
use Rattle.segment_refreshed.specs.Sent.{Spelt}
use Rattle.segment_refreshed.proofs.spell.Given as goal

abbrev pub invariant-loop-i : goal.invariant-loop-i
invariant-loop-i l = Spelt l.wanted l.i l.initial.cells l.cells
