-- `segment_everyday::still::still` meets its contract: the records so far are a run of bytes that change nothing, at every step of the loop, and none where the position is known. Assumes nothing.
use Prim.Native.Nat.{◌-◌}
use Rattle.segment_everyday.specs.Still.{Stills}
use Rattle.segment_everyday.proofs.still.still.Given as goal

abbrev pub invariant-loop-j : goal.invariant-loop-j
invariant-loop-j l = Stills l.family l.c l.cells l.bytes l.from l.j

abbrev pub decreases-loop-j : goal.decreases-loop-j
decreases-loop-j l = l.most - l.j
