-- What a replay gave, in the checksum: its answer, and every fact of the part.
use Rattle.std.specs.Prelude.{ℕ, ◌%◌, Ok, Err}
use Rattle.terms.specs.declared.Part.{Part}
use Rattle.terms.specs.declared.Part.TheVariants.{Pt6302, Pt6312, Pt6315}
use Rattle.terms.specs.Part.{PartRead}
use Rattle.segment.specs.declared.Family.TheVariants as OfFamily
use Rattle.panel.specs.declared.Panel.{Panel}
use Rattle.answers.specs.Answer.{Answer, number, place}
use Rattle.checksum.specs.Sum.{taken}
use Rattle.checksum.specs.Characters.{character_sum}
use Rattle.checksum.specs.Segments.{segment_sum}

-- Paper 01's number and the place.
abbrev pub answer_sum : ℕ → Answer → ℕ
answer_sum sum answer = taken (taken sum (number answer)) (place answer % 65536)

abbrev pub panel_sum : ℕ → Part → Panel → ℕ
panel_sum sum Pt6302 k = character_sum sum k.character
panel_sum sum Pt6312 k = segment_sum sum OfFamily.Pt6312 k.segment
panel_sum sum Pt6315 k = segment_sum sum OfFamily.Pt6315 k.segment

abbrev pub part_sum : ℕ → PartRead → Panel → ℕ
part_sum sum (Ok part) k = panel_sum sum part k
part_sum sum (Err e) k = sum
