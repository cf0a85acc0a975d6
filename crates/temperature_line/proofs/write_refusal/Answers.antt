-- `temperature_line::write_refusal` meets its contract: no refusal is longer than the room that was asked for. Assumes nothing.
use native.Mathlib.Omega.{arith}
use borrow.Author.Rules.{rules}
use Rattle.writing.specs.Wrote.{wrote_back}
use Rattle.writing.specs.Prints.{prints}
use Rattle.refusals.specs.Refusal.{refused_length}
use Rattle.temperature_line.proofs.write_refusal.Goals as goal

pub returns : goal.returns
returns c =
    let a = c.args in
    prints (omega (arith, c.if-out-lt-ROOM.false)) (omega (arith, refused_length a.number a.place.0)) (wrote_back c.refused.ensures (search rules))
