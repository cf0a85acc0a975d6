-- `lamps::code::both_lamps` meets its contract: the law `both_shown`, of numbers of two bytes. Assumes nothing.
use Rattle.lamps.specs.Lamp.{both_shown}
use Rattle.lamps.proofs.code.both_lamps.Goals as goal

pub returns : goal.returns
returns c = λ w k. both_shown w c.args.a c.args.b k c.ranges.a.fits c.ranges.b.fits
