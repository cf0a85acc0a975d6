-- `segment_steps::lost` meets its contract: nothing is known of the memory, and nothing beside it.
-- Assumes nothing.
use Rattle.segment_steps.specs.StepLaws.{forgotten_steps}
use Rattle.std.proofs.Common.{rules}
use Rattle.segment.specs.Family.{sizes}
use Rattle.segment_steps.proofs.lost.Goals as goal

pub returns : goal.returns
returns c = forgotten_steps (sizes c.args.family) {d = c.no_control-control.result} (search rules) (λ cells. c.no_control-control.ensures)
