-- `segment_known::moves::taken` meets its contract: the step is the rule, and the cells are changed as it says.
-- Assumes nothing.
use Rattle.lamps.specs.Lamp.{wide8}
use Rattle.segment_known.specs.Moved.{step_done}
use Rattle.segment_known.proofs.moves.taken.Goals as goal

pub returns : goal.returns
returns c = step_done c.args.family (record { cells = c.args.cells.now; control = c.args.c }) c.args.event c.step-next.result c.apply.new.codes c.step-next.ensures (c.apply.ensures 8 wide8)
