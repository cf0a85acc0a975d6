-- `lamps::code::holds` meets its contract: the law `holds_code`, of the byte's code. Assumes nothing.
use Rattle.lamps.specs.Lamp.{wide8}
use Rattle.lamps.specs.Whole.{holds_code}
use Rattle.lamps.proofs.code.holds.Goals as goal

pub returns : goal.returns
returns c =
    let s = c in
    holds_code s.args.code s.args.byte _ s.ranges.code.fits (c.code_of.ensures 8 wide8)
