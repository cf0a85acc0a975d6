-- `character_known::everyday::rises` meets its contract: only the position changes.
-- Assumes nothing.
use Rattle.knowing.specs.Ways.{learnt}
use Rattle.character.specs.Fact.{same?, position}
use Rattle.character_knowledge.specs.View.{cview}
use Rattle.character_known.proofs.everyday.rises.Goals as goal

pub returns : goal.returns
returns c = λ m. learnt (cview m) same? c.args.c _ position 0 (c.at.ensures m)
