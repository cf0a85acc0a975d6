-- `lamps::code::cut` meets its contract: the law `narrowed`. Assumes nothing.
use Rattle.lamps.specs.Lamp.{narrowed}
use Rattle.lamps.proofs.code.cut.Goals as goal

pub returns : goal.returns
returns c = λ w W k. narrowed w c.args.wide W c.args.code k
