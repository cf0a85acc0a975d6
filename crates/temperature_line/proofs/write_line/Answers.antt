-- `temperature_line::write_line` meets its contract: no line is longer than the room that was asked for. Assumes nothing.
use native.Mathlib.Omega.{arith}
use Rattle.writing.specs.Prints.{prints, prints_nothing}
use Rattle.temperature_line.specs.Line.{a_line}
use Rattle.temperature_line.specs.Lengths.{line_length}
use Rattle.temperature_line.proofs.write_line.Goals as goal

pub returns-then-out-lt-ROOM : goal.returns-then-out-lt-ROOM
returns-then-out-lt-ROOM c =
    let x = a_line c.args.answer c.requires in
    record { line = x.0; lined = x.1; printed = prints_nothing (omega (arith, c.if-out-lt-ROOM.true)) }

pub returns : goal.returns
returns c =
    let w = c.write_said.ensures in
    record {
      line = w.line;
      lined = w.lined;
      printed = prints (omega (arith, c.if-out-lt-ROOM.false)) (line_length c.args.answer w.line w.lined) w.written;
    }
