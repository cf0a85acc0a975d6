-- "The program reads the part byte and a recording, starts knowing nothing" (paper 01, the last paragraph of "Examples").
use Rattle.std.specs.Prelude.{ℕ, List}
use Rattle.terms.specs.Part.{part_of}
use Rattle.panel.specs.declared.Panel.{Panel}
use Rattle.panel.specs.View.{KnowsNothing}
use Rattle.replay.specs.declared.replays.Replayed.{Replayed}
use Rattle.replay.specs.Replay.{Replays}

-- The replay of the whole recording by one who knows nothing.
pub record FromNothing (part : ℕ) (recording : List ℕ) (r : Replayed) : Type 0 where
  pub before : Panel
  pub nothing : KnowsNothing before
  pub replays : Replays (part_of part) before recording 0 r
