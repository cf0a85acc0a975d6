-- `tail::gaps::walk_gaps` meets its contract: what is left of the walk, from the last gap so far, ends as the whole walk does.
-- Assumes nothing.
use Prim.Native.Nat.{◌≤◌, ◌-◌}
use lib.ListN.{length}
use Rattle.recording.specs.Steps.{rest}
use Rattle.recording.specs.Walk.{walked}
use Rattle.tail.specs.Laws.{Kept}
use Rattle.tail.proofs.gaps.walk_gaps.Given as goal

abbrev pub invariant-loop-i : goal.invariant-loop-i
invariant-loop-i l = (l.i ≤ length l.bytes) × Kept (walked l.part l.bytes) (rest l.part l.bytes l.i) l.start

abbrev pub decreases-loop-i : goal.decreases-loop-i
decreases-loop-i l = length l.bytes - l.i
