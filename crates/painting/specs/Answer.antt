-- The whole answer of the painter: the number and its place, and every byte of the output afterwards (paper 01,
-- "Numbers given back").
use Rattle.std.specs.Prelude.{ℕ, Bool, List, [], ◌++◌, length, drop, leb, Result, Ok, Err}
use Rattle.rules.specs.Choice.{whether}
use Rattle.terms.specs.declared.Place.{Place}
use Rattle.terms.specs.declared.Part.TheVariants.{Pt6302, Pt6312, Pt6315}
use Rattle.terms.specs.Part.{PartRead, part_of}
use Rattle.terms.specs.Event.{recording}
use Rattle.segment.specs.declared.Family.{Family}
use Rattle.segment.specs.declared.Family.TheVariants.{Pt6312 as Of6312, Pt6315 as Of6315}
use Rattle.segment.specs.Family.{sizes}
use Rattle.painting.specs.declared.Picture.{Picture}
use Rattle.painting.specs.declared.SegmentPicture.{SegmentPicture}
use Rattle.painting.specs.declared.CharacterPicture.{CharacterPicture}
use Rattle.painting.specs.Segment as OfSegment
use Rattle.painting.specs.Character as OfCharacter
use Rattle.painting.specs.declared.NotPainted.{NotPainted}
use Rattle.painting.specs.declared.NotPainted.TheVariants.{NoPart, OutOfRange, TooSmall}
use Rattle.painting.specs.Fits.{segment_fits, character_fits}

-- The length that was written, or why nothing was.
abbrev pub Painted : Type 0
Painted = Result Place NotPainted

-- Paper 01's number for each case, and its place.
abbrev pub number : Painted → ℕ
number (Ok at) = 0
number (Err (NoPart at)) = 1
number (Err (OutOfRange at)) = 9
number (Err (TooSmall at)) = 10

abbrev pub place : Painted → Place
place (Ok at) = at
place (Err (NoPart at)) = at
place (Err (OutOfRange at)) = at
place (Err (TooSmall at)) = at

-- The size of a painting in bytes.
abbrev pub segment_size : Family → ℕ
segment_size Of6312 = 66
segment_size Of6315 = 94

abbrev pub character_size : ℕ
character_size = 172

abbrev at : ℕ → Place
at n = record { 0 = n }

-- First 9, then 10, each at place 0; else done, with the length written.
abbrev pub judged : Bool → ℕ → ℕ → Painted
judged fits size room = whether fits (whether (leb size room) (Ok (at size)) (Err (TooSmall (at 0)))) (Err (OutOfRange (at 0)))

abbrev pub segment_answer : Family → SegmentPicture → ℕ → Painted
segment_answer q p room = judged (segment_fits (sizes q) p) (segment_size q) room

abbrev pub character_answer : CharacterPicture → ℕ → Painted
character_answer p room = judged (character_fits p) character_size room

abbrev pub answer_for : PartRead → Picture → ℕ → Painted
answer_for (Ok Pt6302) p room = character_answer p.character room
answer_for (Ok Pt6312) p room = segment_answer Of6312 p.segment room
answer_for (Ok Pt6315) p room = segment_answer Of6315 p.segment room
answer_for (Err e) p room = Err (NoPart e.0)

-- The answer, by the part byte, the picture and the length of the output.
abbrev pub answer : ℕ → Picture → ℕ → Painted
answer part p room = answer_for (part_of part) p room

-- The number and the place of that answer, as paper 01's table has them: 1 for no part; else 9 for a value out of
-- range; else 10 for too little room; else 0, whose place is the length written. The place of every refusal is 0.
abbrev pub judged_number : Bool → ℕ → ℕ → ℕ
judged_number fits size room = whether fits (whether (leb size room) 0 10) 9

abbrev pub judged_place : Bool → ℕ → ℕ → ℕ
judged_place fits size room = whether fits (whether (leb size room) size 0) 0

abbrev pub number_for : PartRead → Picture → ℕ → ℕ
number_for (Ok Pt6302) p room = judged_number (character_fits p.character) character_size room
number_for (Ok Pt6312) p room = judged_number (segment_fits (sizes Of6312) p.segment) (segment_size Of6312) room
number_for (Ok Pt6315) p room = judged_number (segment_fits (sizes Of6315) p.segment) (segment_size Of6315) room
number_for (Err e) p room = 1

abbrev pub place_for : PartRead → Picture → ℕ → ℕ
place_for (Ok Pt6302) p room = judged_place (character_fits p.character) character_size room
place_for (Ok Pt6312) p room = judged_place (segment_fits (sizes Of6312) p.segment) (segment_size Of6312) room
place_for (Ok Pt6315) p room = judged_place (segment_fits (sizes Of6315) p.segment) (segment_size Of6315) room
place_for (Err e) p room = e.0.0

-- The recording that paints a picture.
abbrev pub segment_stream : Family → SegmentPicture → List ℕ
segment_stream q p = recording (OfSegment.painting (sizes q) p)

abbrev pub character_stream : CharacterPicture → List ℕ
character_stream p = recording (OfCharacter.painting p)

abbrev pub stream_for : PartRead → Picture → List ℕ
stream_for (Ok Pt6302) p = character_stream p.character
stream_for (Ok Pt6312) p = segment_stream Of6312 p.segment
stream_for (Ok Pt6315) p = segment_stream Of6315 p.segment
stream_for (Err e) p = []

-- The stream stands at the front, and the rest is as it was.
abbrev pub in_front : List ℕ → List ℕ → List ℕ
in_front stream out = stream ++ drop (length stream) out

-- Done, the stream stands at the front; refused, all is as it was.
abbrev pub written : Painted → List ℕ → List ℕ → List ℕ
written (Ok a) stream out = in_front stream out
written (Err why) stream out = out

-- The output afterwards, by what it was.
abbrev pub output : ℕ → Picture → List ℕ → List ℕ
output part p out = written (answer part p (length out)) (stream_for (part_of part) p) out
