-- `segment_ranges::ranges::sound` meets its contract: the tests together are every fact in range.
-- Assumes nothing.
use mathlib.Core.Path.{refl}
use Rattle.segment.specs.Family.{sizes}
use Rattle.segment_ranges.specs.Ranges.{sound_whole, sound_parts}
use Rattle.rules.specs.Tests.{both_tell, tells_as}
use Rattle.segment_ranges.proofs.ranges.sound.Goals as goal

pub returns : goal.returns
returns c = let a = c.args in
    tells_as (sound_whole (sizes a.family) a.k c.rows_sound.ensures.1) (sound_parts (sizes a.family) a.k)
    (both_tell refl c.rows_sound.ensures.0 c.singles_sound.ensures)
