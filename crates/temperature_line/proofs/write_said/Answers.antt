-- `temperature_line::write_said` meets its contract: each answer has its words, and a reading its degrees. Assumes nothing.
use mathlib.Core.Path.{refl}
use mathlib.Core.List.{[], ◌∷◌, ◌++◌}
use borrow.Author.Rules.{rules}
use Rattle.text.specs.Text.{newline}
use Rattle.writing.specs.Wrote.{wrote_back}
use Rattle.writing.specs.Laws.{writes_then}
use Rattle.degrees.specs.Degrees.{degrees}
use Rattle.temperature_line.specs.Line.{lined_as}
use Rattle.temperature_line.proofs.write_said.Goals as goal
use Rattle.temperature_line.proofs.write_said.Goals.{in-Reading, in-NoReading, in-Dark, in-Unknown, in-NotAReading, in-NoPart, in-OutOfRange, in-NoField}

pub returns : goal.returns
returns c =
    elim c.match-answer.branch [
      | in-Reading w ↦
          let d = w.write_degrees.ensures in
          let p = rw (← w.w-is) at w.put.ensures in
          record { line = degrees d.halves ++ (newline ∷ []); lined = lined_as _ _ _ w.in-Reading.is (d.halves, d.exact, refl); written = writes_then d.written (wrote_back p (search rules)) }
      | in-NoReading w ↦
          let p = rw (← w.w-is) at w.words.ensures in
          record { line = _; lined = lined_as _ _ _ w.in-NoReading.is refl; written = wrote_back p (search rules) }
      | in-Dark w ↦
          let p = rw (← w.w-is) at w.words-in-Dark.ensures in
          record { line = _; lined = lined_as _ _ _ w.in-Dark.is refl; written = wrote_back p (search rules) }
      | in-Unknown w ↦
          let p = rw (← w.w-is) at w.words-in-Unknown.ensures in
          record { line = _; lined = lined_as _ _ _ w.in-Unknown.is refl; written = wrote_back p (search rules) }
      | in-NotAReading w ↦
          let p = rw (← w.w-is) at w.words-in-NotAReading.ensures in
          record { line = _; lined = lined_as _ _ _ w.in-NotAReading.is refl; written = wrote_back p (search rules) }
      | in-NoPart w ↦
          let p = rw (← w.w-is) at w.refused.ensures in
          record { line = _; lined = lined_as _ _ _ w.in-NoPart.is refl; written = wrote_back p (search rules) }
      | in-OutOfRange w ↦
          let p = rw (← w.w-is) at w.refused-in-OutOfRange.ensures in
          record { line = _; lined = lined_as _ _ _ w.in-OutOfRange.is refl; written = wrote_back p (search rules) }
      | in-NoField w ↦
          let p = rw (← w.w-is) at w.refused-in-NoField.ensures in
          record { line = _; lined = lined_as _ _ _ w.in-NoField.is refl; written = wrote_back p (search rules) }
    ]
