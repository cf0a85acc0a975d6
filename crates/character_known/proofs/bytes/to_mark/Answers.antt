-- `character_known::bytes::to_mark` meets its contract: at a known address the byte is put there, at an unknown one it may be in any cell.
-- Assumes nothing.
use mathlib.Core.Path.{refl, ap}
use Rattle.character.specs.Fact.{adram_at}
use Rattle.character.specs.Move.{marked}
use Rattle.character_knowledge.specs.View.{points}
use Rattle.character_steps.specs.Steps.{known_step}
use Rattle.character_known.specs.Ram.{pairs}
use Rattle.character_known.specs.Open.{open_step}
use Rattle.character_known.specs.Places.{as_changed, marked_at}
use Rattle.character_known.proofs.bytes.to_mark.Goals as goal

pub returns-in-Known : goal.returns-in-Known
returns-in-Known c = let a = c.args in
    as_changed pairs c.marked_by-c.ensures refl (known_step adram_at (marked a.byte) a.c _ _ (λ m. ap points c.in-Known.is) (marked_at a.byte a.c _))

pub returns-in-Unknown : goal.returns-in-Unknown
returns-in-Unknown c = open_step c.args.byte pairs (ap points c.in-Unknown.is)
