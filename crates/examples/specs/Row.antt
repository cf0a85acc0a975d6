-- A row of the table, and what it states. A row names its example by number. It is a recording, replayed from what is known before, with its number and place and
-- what is known afterwards; or a picture, painted over an output, with its number and place and the output afterwards.
use Rattle.std.specs.Prelude.{ℕ, ◌≡◌, List, [], ◌∷◌, map, length, Ok, Err}
use Rattle.knowing.specs.Standing.{Standing, unknown}
use Rattle.knowing.specs.Know.{know}
use Rattle.knowing.specs.Turn.{in_turn}
use Rattle.terms.specs.declared.Event.{Event}
use Rattle.terms.specs.declared.Part.{Part}
use Rattle.terms.specs.declared.Part.TheVariants.{Pt6302, Pt6312, Pt6315}
use Rattle.recording.specs.Walk.{walked, events, end_of, Ending, stop_of}
use Rattle.recording.specs.Record as Record
use Rattle.segment.specs.declared.Family.{Family}
use Rattle.segment.specs.declared.Family.TheVariants as OfFamily
use Rattle.segment.specs.Family.{sizes}
use Rattle.segment.specs.Fact as Segment
use Rattle.segment.specs.Move as SegmentMove
use Rattle.segment.specs.Sent.{sent}
use Rattle.character.specs.Fact as Character
use Rattle.character.specs.Move as CharacterMove
use Rattle.painting.specs.declared.Picture.{Picture}
use Rattle.painting.specs.Answer as Painter

-- What a row speaks of: a fact of PT6312 or PT6315, a fact of PT6302, or the byte to be sent next.
pub data What : Type 0 where
  fact : Segment.Fact → What
  ram : Character.Fact → What
  next : What
  deriving Discrete as What-discrete

infix 70 ◌is◌
-- What is known of it.
pub data Said : Type 0 where
  ◌is◌ : What → Standing → Said

pub data Row : Type 0 where
  replayed : (example : ℕ) (part : Part) (before : List Said) (bytes : List ℕ) (number place : ℕ) (after : List Said) → Row
  painted : (example part : ℕ) (picture : Picture) (before : List ℕ) (number place : ℕ) (after : List ℕ) → Row

abbrev pub example : Row → ℕ
example (replayed n p before l number place after) = n
example (painted n p picture before number place after) = n

-- The numbers by which a part's segment facts go; a row of PT6302 says nothing of them.
abbrev family : Part → Family
family Pt6302 = OfFamily.Pt6312
family Pt6312 = OfFamily.Pt6312
family Pt6315 = OfFamily.Pt6315

-- What nothing is said of is unknown.
abbrev given : List Said → What → Standing
given [] w = unknown
given ((v is s) ∷ before) w = elim (What-discrete Segment.same? Character.same? w v) [ yes e ↦ s | no n ↦ given before w ]

-- The events that count: a refused replay returns the knowledge it was given.
abbrev heard : Part → List ℕ → List Event
heard p l = elim (end_of (walked p l)) [ Ok u ↦ events (walked p l) | Err s ↦ [] ]

abbrev segment_after : Part → List Said → List ℕ → Segment.Fact → Standing
segment_after p before l = in_turn Segment.same? (Segment.range (sizes (family p))) (map (SegmentMove.move (sizes (family p))) (heard p l)) (λ f. given before (fact f))

abbrev character_after : Part → List Said → List ℕ → Character.Fact → Standing
character_after p before l = in_turn Character.same? Character.range (map CharacterMove.move (heard p l)) (λ f. given before (ram f))

-- What is known after a recording.
abbrev pub known_after : Part → List Said → List ℕ → What → Standing
known_after p before l (fact f) = segment_after p before l f
known_after p before l (ram f) = character_after p before l f
known_after p before l next = know Segment.same? (Segment.range (sizes (family p))) (sent (sizes (family p))) (segment_after p before l) tt

-- Paper 01's number and place for how the records end.
abbrev end_number : Ending → ℕ
end_number (Ok u) = 0
end_number (Err s) = Record.number s.refusal

abbrev end_place : ℕ → Ending → ℕ
end_place n (Ok u) = n
end_place n (Err s) = s.at.0

abbrev pub read_number : Part → List ℕ → ℕ
read_number p l = end_number (end_of (walked p l))

abbrev pub read_place : Part → List ℕ → ℕ
read_place p l = end_place (length l) (end_of (walked p l))

abbrev pub paint_number : ℕ → Picture → List ℕ → ℕ
paint_number part picture out = Painter.number (Painter.answer part picture (length out))

abbrev pub paint_place : ℕ → Picture → List ℕ → ℕ
paint_place part picture out = (Painter.place (Painter.answer part picture (length out))).0

-- All of it is as said.
abbrev pub AsSaid : (What → Standing) → List Said → Type 0
AsSaid k [] = Unit
AsSaid k ((w is s) ∷ rest) = (k w ≡ s) × AsSaid k rest

abbrev pub Holds : Row → Type 0
Holds (replayed n p before l number place after) = (read_number p l ≡ number) × (read_place p l ≡ place) × AsSaid (known_after p before l) after
Holds (painted n part picture before number place after) =
    (paint_number part picture before ≡ number) × (paint_place part picture before ≡ place) × (Painter.output part picture before ≡ after)

-- Every row holds.
abbrev pub AllHold : List Row → Type 0
AllHold [] = Unit
AllHold (r ∷ rs) = Holds r × AllHold rs
