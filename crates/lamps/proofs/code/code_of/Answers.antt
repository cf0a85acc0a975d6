-- `lamps::code::code_of` meets its contract: the law `code_shown`, of a byte. Assumes nothing.
use Rattle.lamps.specs.Lamp.{code_shown}
use Rattle.lamps.proofs.code.code_of.Goals as goal

pub returns : goal.returns
returns c = λ w W. code_shown w c.args.wide W c.args.byte c.ranges.byte.fits
