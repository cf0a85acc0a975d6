-- What the program makes of its input: the replay by one who knows nothing, and then the temperature of the field, as a
-- line.
use Rattle.std.specs.Prelude.{ℕ, ◌≤◌, ◌≡◌, List, length}
use Rattle.rules.specs.Where.{Where, good, bad}
use Rattle.terms.specs.Part.{PartRead, part_of}
use Rattle.panel.specs.declared.Panel.{Panel}
use Rattle.answers.specs.Answer.{number, place}
use Rattle.replay.specs.declared.replays.Replayed.{Replayed}
use Rattle.replay.specs.FromNothing.{FromNothing}
use Rattle.thermometer.specs.declared.temperatures.Answer.{Answer}
use Rattle.thermometer.specs.Answer.{Tells}
use Rattle.refusals.specs.Refusal.{refused_at}
use Rattle.writing.specs.Prints.{Prints, prints_within}
use Rattle.temperature_line.specs.Line.{room, PrintsLine}

-- The line of the temperature of a field is printed.
pub record Told (q : PartRead) (k : Panel) (start : ℕ) (out : List ℕ) (r : ℕ) (out' : List ℕ) : Type 0 where
  pub answer : Answer
  pub tells : Tells q k start answer
  pub prints : PrintsLine answer out r out'

-- What is printed of an input: a recording that is refused is told of first.
pub record Shows (part start : ℕ) (recording out : List ℕ) (r : ℕ) (out' : List ℕ) : Type 0 where
  pub after : Replayed
  pub replayed : FromNothing part recording after
  pub line :
      Where (number after.answer ≡ 0) (Told (part_of part) after.panel start out r out')
      (Prints room (refused_at (number after.answer) (place after.answer)) out r out')

-- The answer is never more than the output has.
pub shows_within : {part start : ℕ} {recording out : List ℕ} {r : ℕ} {out' : List ℕ} → Shows part start recording out r out' → r ≤ length out'
shows_within {r = r} {out' = out'} s = go s.line
  where
    go : {G : Type 0} {q : PartRead} {k : Panel} {start : ℕ} {out text : List ℕ} → Where G (Told q k start out r out') (Prints room text out r out') → r ≤ length out'
    go (good g t) = prints_within t.prints.printed
    go (bad n p) = prints_within p
