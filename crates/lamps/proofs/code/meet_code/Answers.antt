-- `lamps::code::meet_code` meets its contract: the law `code_met`, of numbers of two bytes. Assumes nothing.
use Rattle.lamps.specs.Lamp.{code_met}
use Rattle.lamps.proofs.code.meet_code.Goals as goal

pub returns : goal.returns
returns c = λ w W h k. code_met w c.args.wide W c.args.c h c.args.code k c.ranges.code.fits c.ranges.c.fits
