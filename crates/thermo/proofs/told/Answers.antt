-- `told` meets its contract: what `temperature` answers is some half degrees where it is a reading, and so has its line. Assumes nothing.
use Rattle.terms.specs.Part.{part_of}
use Rattle.readings.specs.Reading.{answer_halved}
use Rattle.temperature_line.specs.Line.{printable_as}
use Rattle.thermo.proofs.told.Goals as goal

pub write_line-requires : goal.write_line-requires
write_line-requires c =
    let a = c.args in
    let t = c.temperature in
    printable_as t.result (answer_halved (part_of a.part) a.panel a.start.0 t.result t.ensures)
