-- `character_known::moves::taken` meets its contract: the step is the rule, and each row is changed as it says, within it.
-- Assumes nothing.
use Rattle.lamps.specs.Lamp.{wide8, wide7, wide2}
use Rattle.character.specs.Move.{move}
use Rattle.character_steps.specs.Steps.{applied}
use Rattle.character_known.specs.Together.{together}
use Rattle.character_known.proofs.moves.taken.Goals as goal

pub returns-clause-knows : goal.returns-clause-knows
returns-clause-knows c = let a = c.args in
    applied (move a.event) (together a.rows.now a.c) c.step-next.result c.apply.new.codes c.apply-2.new.codes c.apply-3.new.codes c.step-next.ensures (c.apply.ensures 8 wide8) (c.apply-2.ensures 7 wide7) (c.apply-3.ensures 2 wide2)
