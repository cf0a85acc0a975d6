-- `character_known::bytes::to_show` meets its contract: at a known address the byte is put there, at an unknown one it may be in any cell.
-- Assumes nothing.
use mathlib.Core.Path.{refl, ap}
use Rattle.character.specs.Fact.{dcram_at}
use Rattle.character.specs.Move.{shown}
use Rattle.character_knowledge.specs.View.{points}
use Rattle.character_steps.specs.Steps.{known_step}
use Rattle.character_known.specs.Ram.{text}
use Rattle.character_known.specs.Open.{open_step}
use Rattle.character_known.specs.Places.{as_changed, shown_at}
use Rattle.character_known.proofs.bytes.to_show.Goals as goal

pub returns-in-Known : goal.returns-in-Known
returns-in-Known c = let a = c.args in
    as_changed text c.shown_by-c.ensures refl (known_step dcram_at (shown a.byte) a.c _ _ (λ m. ap points c.in-Known.is) (shown_at a.byte a.c _))

pub returns-in-Unknown : goal.returns-in-Unknown
returns-in-Unknown c = open_step c.args.byte text (ap points c.in-Unknown.is)
