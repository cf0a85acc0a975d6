-- `character_knowledge::no_control` meets its contract: no single fact is known.
-- Assumes nothing.
use Rattle.lamps.specs.Lamp.{none_shown}
use Rattle.character.specs.Laws.{every}
use mathlib.Core.Path.{refl}
use Rattle.character_knowledge.proofs.no_control.Goals as goal

pub returns : goal.returns
returns c = every _ (λ i k. refl) (λ i k. refl) (λ i k. refl) refl refl refl refl (λ k. none_shown 2 k) refl refl refl refl
