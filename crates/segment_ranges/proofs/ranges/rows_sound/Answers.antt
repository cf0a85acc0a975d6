-- `segment_ranges::ranges::rows_sound` meets its contract: each arm's numbers are the sizes of its part, and both tests together are both rows in range.
-- Assumes nothing.
use mathlib.Core.Path.{refl}
use Rattle.segment.specs.Family.{sizes}
use Rattle.rules.specs.Tests.{both_tell}
use Rattle.lamps.specs.Lamp.{wide8}
use Rattle.segment_ranges.proofs.ranges.rows_sound.Goals as goal

pub returns-in-Pt6312 : goal.returns-in-Pt6312
unfolding sizes
returns-in-Pt6312 c =
    rw c.in-Pt6312.is
    (both_tell refl (c.all_sound.ensures 8 wide8) c.all_within.ensures.0, c.all_within.ensures.1)

pub returns-in-Pt6315 : goal.returns-in-Pt6315
unfolding sizes
returns-in-Pt6315 c =
    rw c.in-Pt6315.is
    (both_tell refl (c.all_sound-in-Pt6315.ensures 8 wide8) c.all_within-in-Pt6315.ensures.0, c.all_within-in-Pt6315.ensures.1)
