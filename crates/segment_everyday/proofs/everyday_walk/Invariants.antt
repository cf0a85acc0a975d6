-- `everyday_walk` meets its contract: wherever a walk stood at the first place, it stands at the place that the loop has come to. Each arm takes it over a record, or a run of
-- them, to the next. Assumes nothing.
use Prim.Native.Nat.{◌-◌}
use lib.ListN.{length}
use Rattle.segment_everyday.specs.Arms.{GoesOn}
use Rattle.segment_everyday.proofs.everyday_walk.Given as goal

abbrev pub invariant-loop-i : goal.invariant-loop-i
invariant-loop-i l = GoesOn l.family l.bytes l.initial.i l.initial.cells l.initial.control l.i l.cells l.control

abbrev pub decreases-loop-i : goal.decreases-loop-i
decreases-loop-i l = length l.bytes - l.i
