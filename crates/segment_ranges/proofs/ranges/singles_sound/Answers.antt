-- `segment_ranges::ranges::singles_sound` meets its contract: the tests together.
-- Assumes nothing.
use mathlib.Core.Path.{refl}
use Rattle.rules.specs.Tests.{both_tell}
use Rattle.lamps.specs.Lamp.{wide4}
use Rattle.segment_ranges.proofs.ranges.singles_sound.Goals as goal

pub returns : goal.returns
returns c =
    both_tell refl
    (both_tell refl
    (both_tell refl c.own_sound-own.ensures
    (both_tell refl (both_tell refl c.within.ensures.0 c.within-2.ensures.0) c.within-3.ensures.0))
    (c.lamps_sound.ensures 4 wide4))
    (both_tell refl c.within-4.ensures.0 c.within-5.ensures.0)
