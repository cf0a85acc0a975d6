-- What the walk promises for PT6312 and PT6315.
use Rattle.std.specs.Prelude.{ℕ, ◌≡◌, List}
use Rattle.terms.specs.declared.Part.{Part}
use Rattle.recording.specs.Walk.{walked, events, end_of}
use Rattle.segment.specs.declared.Family.{Family}
use Rattle.segment.specs.Family.{sizes}
use Rattle.segment.specs.Fact.{same?, range}
use Rattle.segment.specs.Move.{move}
use Rattle.segment_knowledge.specs.declared.Knowledge.{Knowledge}
use Rattle.segment_knowledge.specs.View.{kview}
use Rattle.walks.specs.declared.Walked.{Walked}
use Rattle.walks.specs.Turn.{InTurn}

-- The records from the front, each by 5, 6, 7, 8: how they end, and what the events before that, in turn, make of the
-- knowledge.
pub record Walks (part : Part) (p : Family) (k : Knowledge) (l : List ℕ) (r : Walked Knowledge) : Type 0 where
  pub ended : r.ending ≡ end_of (walked part l)
  pub known : InTurn kview same? (range (sizes p)) (move (sizes p)) (events (walked part l)) k r.k
