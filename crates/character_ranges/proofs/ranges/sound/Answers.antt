-- `character_ranges::ranges::sound` meets its contract: the tests together are every fact in range.
-- Assumes nothing.
use mathlib.Core.Path.{◌≡◌, refl}
use lib.ListN.{length}
use Rattle.character_ranges.specs.Ranges.{sound_whole, sound_parts}
use Rattle.lamps.specs.Lamp.{wide8, wide7, wide2}
use Rattle.rules.specs.Tests.{both_tell, tells_as}
use borrow.Author.Rules.{rules}
use Rattle.character_ranges.proofs.ranges.sound.Goals as goal

pub returns : goal.returns
returns c =
    let k = c.args.k in
    -- So many codes stand in each RAM.
    let shown : length k.dcram ≡ 16 = search rules in
    let marked : length k.adram ≡ 16 = search rules in
    let drawn : length k.cgram ≡ 40 = search rules in
    tells_as (sound_whole k shown marked drawn) (sound_parts k)
    (both_tell refl
    (both_tell refl (both_tell refl (c.all_sound.ensures 8 wide8) (c.all_sound-2.ensures 2 wide2)) (c.all_sound-3.ensures 7 wide7))
    c.singles_sound.ensures)
