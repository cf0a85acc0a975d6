-- What the walk promises for a panel of any part.
use Rattle.std.specs.Prelude.{ℕ, ◌≡◌, List}
use Rattle.terms.specs.declared.Part.{Part}
use Rattle.recording.specs.Walk.{walked, events, end_of}
use Rattle.walks.specs.Turn.{InTurn}
use Rattle.parts.specs.Facts.{same?, range, move}
use Rattle.parts.specs.Kind.{in_family}
use Rattle.segment.specs.declared.Family.{Family}
use Rattle.segment.specs.declared.Family.TheVariants.{Pt6312, Pt6315}
use Rattle.segment.specs.Family.{sizes}
use Rattle.segment.specs.Fact as SegmentFact
use Rattle.segment.specs.Move as SegmentMove
use Rattle.segment_knowledge.specs.View as OfSegment
use Rattle.panel.specs.declared.Panel.{Panel}
use Rattle.panel.specs.View.{known_of, OtherKept}
use Rattle.walks.specs.declared.Walked.{Walked}

-- The records from the front, each by 5, 6, 7, 8: how they end, what the events before that, in turn, make of the
-- knowledge, and that the half that speaks of the other parts is as it was.
pub record Walks (p : Part) (k : Panel) (l : List ℕ) (r : Walked Panel) : Type 0 where
  pub ended : r.ending ≡ end_of (walked p l)
  pub known : InTurn (known_of p) (same? p) (range p) (move p) (events (walked p l)) k r.k
  pub kept : OtherKept p k r.k

-- The same for PT6312 and PT6315, by the family's numbers.
pub record SegmentWalks (part : Part) (p : Family) (k : Panel) (l : List ℕ) (r : Walked Panel) : Type 0 where
  pub ended : r.ending ≡ end_of (walked part l)
  pub known : InTurn OfSegment.kview SegmentFact.same? (SegmentFact.range (sizes p)) (SegmentMove.move (sizes p))
      (events (walked part l)) k.segment r.k.segment
  pub kept : r.k.character ≡ k.character

-- By a part's own numbers the one is the other.
pub by_family : (q : Family) (k : Panel) (l : List ℕ) (r : Walked Panel) → SegmentWalks (in_family q) q k l r → Walks (in_family q) k l r
by_family Pt6312 k l r w = record { ended = w.ended; known = w.known; kept = w.kept }
by_family Pt6315 k l r w = record { ended = w.ended; known = w.known; kept = w.kept }
