-- `segment_walk` meets its contract: what is left of the walk makes of the knowledge so far, which stands in the cells and beside them, what the whole walk makes of the first
-- one. The records of every day keep that, and so does each record that is not of every day. Assumes nothing.
use Prim.Native.Nat.{◌≤◌, ◌-◌}
use lib.ListN.{length}
use Rattle.segment_everyday.specs.Arms.{Here}
use Rattle.segment_walks.proofs.segment_walk.Given as goal

abbrev pub invariant-loop-i : goal.invariant-loop-i
invariant-loop-i l = (l.i ≤ length l.bytes) × Here l.part l.family l.bytes l.fn.k l.i l.cells l.control

abbrev pub decreases-loop-i : goal.decreases-loop-i
decreases-loop-i l = length l.bytes - l.i
