-- `character_ranges::ranges::singles_sound` meets its contract: the tests together.
-- Assumes nothing.
use mathlib.Core.Path.{refl}
use Rattle.rules.specs.Tests.{both_tell}
use Rattle.lamps.specs.Lamp.{wide2}
use Rattle.character_ranges.proofs.ranges.singles_sound.Goals as goal

pub returns : goal.returns
returns c =
    both_tell refl
    (both_tell refl
    (both_tell refl
    (both_tell refl c.within.ensures.0 c.within-2.ensures.0)
    (both_tell refl c.within-3.ensures.0 c.within-4.ensures.0))
    (both_tell refl
    (both_tell refl (both_tell refl (c.lamps_sound.ensures 2 wide2) c.within-5.ensures.0) c.within-6.ensures.0)
    c.within-7.ensures.0))
    c.within-8.ensures.0
