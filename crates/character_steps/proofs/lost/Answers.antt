-- `character_steps::lost` meets its contract: nothing is known of the memory, and nothing beside it.
-- Assumes nothing.
use Rattle.character_steps.specs.Steps.{forgotten_steps}
use borrow.Author.Rules.{rules}
use Rattle.character_steps.proofs.lost.Goals as goal

pub returns : goal.returns
returns c = forgotten_steps {d = c.no_control-control.result} (search rules) (λ m. c.no_control-control.ensures)
