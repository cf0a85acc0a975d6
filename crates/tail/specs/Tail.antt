-- The tail: the part of a recording behind its last gap record, the whole where there is no gap, the empty part at
-- the front where refused.
use Rattle.std.specs.Prelude.{ℕ, ◌-◌, List, length, drop, take, ltb, Ok, Err}
use Rattle.rules.specs.Choice.{whether}
use Rattle.terms.specs.declared.Place.{Place}
use Rattle.terms.specs.declared.Part.{Part}
use Rattle.terms.specs.Part.{PartRead}
use Rattle.recording.specs.Walk.{walked, end_of, behind_gap, Ending}
use Rattle.answers.specs.declared.Refused.TheVariants as Why
use Rattle.answers.specs.Answer.{refused_as, Answer}
use Rattle.tail.specs.declared.gaps.Found.{Found}

abbrev spot : ℕ → Place
spot n = record { 0 = n }

-- Refused: the empty part at the front.
abbrev pub none : Answer → Found
none a = record { answer = a; start = spot 0; end = spot 0 }

-- By how the records end: done at the recording's length, behind the last gap; else 5, 6, 7 or 8 at the place that the
-- refusal points at (`recording/Walk.walk`, by `recording/Record.place_within`).
abbrev pub found_by : Part → List ℕ → Ending → Found
found_by p l (Ok u) = record {
  answer = Ok (spot (length l));
  start = spot (behind_gap 0 (walked p l));
  end = spot (length l);
}
found_by p l (Err s) = none (refused_as s.refusal s.at)

abbrev pub found_in : Part → List ℕ → Found
found_in p l = found_by p l (end_of (walked p l))

-- Test 4 before the records.
abbrev pub found_part : Part → List ℕ → Found
found_part p l = whether (ltb 65535 (length l)) (none (Err (Why.TooLong (spot 0)))) (found_in p l)

-- Test 1 first.
abbrev pub found : PartRead → List ℕ → Found
found (Ok p) l = found_part p l
found (Err e) l = none (Err (Why.NoPart e.0))

-- The part of the recording that was found.
abbrev pub part_of_found : Found → List ℕ → List ℕ
part_of_found f l = take (f.end.0 - f.start.0) (drop f.start.0 l)

abbrev pub tail_of : PartRead → List ℕ → List ℕ
tail_of q l = part_of_found (found q l) l
