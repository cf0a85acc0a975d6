-- `character_known::commanded::ignoring_on` meets its contract: only the position changes.
-- Assumes nothing.
use Rattle.knowing.specs.Ways.{learnt}
use Rattle.character.specs.Fact.{same?, position}
use Rattle.character_knowledge.specs.View.{cview}
use Rattle.character_known.proofs.commanded.ignoring_on.Goals as goal

pub returns : goal.returns
returns c = λ m. learnt (cview m) same? c.args.c _ position 5 (c.at.ensures m)
