-- `run` is safe: what `temperature` answers is some half degrees where it is a reading. Assumes nothing.
use Rattle.terms.specs.Part.{part_of}
use Rattle.readings.specs.Reading.{answer_halved}
use Rattle.temperature_line.specs.Line.{printable_as}
use Rattle.example_temperatures.proofs.run.Goals as goal

pub tell-requires : goal.tell-requires
tell-requires g c =
    let t = c.temperature-answer in
    printable_as t.result (answer_halved (part_of c.args.example.now.part) c.with_character.result _ t.result t.ensures)
