-- What the walk promises for PT6302.
use Rattle.std.specs.Prelude.{ℕ, ◌≡◌, List}
use Rattle.terms.specs.declared.Part.{Part}
use Rattle.recording.specs.Walk.{walked, events, end_of}
use Rattle.character.specs.Fact.{same?, range}
use Rattle.character.specs.Move.{move}
use Rattle.character_knowledge.specs.declared.Knowledge.{Knowledge}
use Rattle.character_knowledge.specs.View.{kview}
use Rattle.walks.specs.declared.Walked.{Walked}
use Rattle.walks.specs.Turn.{InTurn}

pub record Walks (part : Part) (k : Knowledge) (l : List ℕ) (r : Walked Knowledge) : Type 0 where
  pub ended : r.ending ≡ end_of (walked part l)
  pub known : InTurn kview same? range move (events (walked part l)) k r.k
