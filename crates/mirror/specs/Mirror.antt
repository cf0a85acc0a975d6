-- What the program makes of its input (paper 01, the last paragraph of "Examples"): "The program reads the part byte
-- and a recording, starts knowing nothing, and prints."
use Rattle.std.specs.Prelude.{ℕ, List}
use Rattle.terms.specs.Part.{part_of}
use Rattle.replay.specs.declared.replays.Replayed.{Replayed}
use Rattle.replay.specs.FromNothing.{FromNothing}
use Rattle.writing.specs.Prints.{Prints}
use Rattle.page.specs.Page.{page, room}

-- The page of the replay by one who knows nothing is what is written, where the output has room.
pub record Shows (part : ℕ) (recording out : List ℕ) (r : ℕ) (out' : List ℕ) : Type 0 where
  pub after : Replayed
  pub replayed : FromNothing part recording after
  pub printed : Prints room (page (part_of part) after.answer after.panel) out r out'
