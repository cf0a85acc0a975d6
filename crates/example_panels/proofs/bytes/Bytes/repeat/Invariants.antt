-- `example_panels::bytes::Bytes::repeat` stays within the row. The invariant: the place is behind the mark, and not past the end.
-- Assumes nothing.
use Rattle.std.specs.Prelude.{◌<◌, ◌≤◌, ◌-◌}
use Rattle.example_panels.proofs.bytes.Bytes.repeat.Given as goal

abbrev pub invariant-loop-at : goal.invariant-loop-at
invariant-loop-at g l = (l.mark < l.at) × (l.at ≤ l.end)

abbrev pub decreases-loop-at : goal.decreases-loop-at
decreases-loop-at g l = l.end - l.at
