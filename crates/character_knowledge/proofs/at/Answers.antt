-- `character_knowledge::at` meets its contract: fact by fact, only the position changes.
-- Assumes nothing.
use Rattle.character.specs.Laws.{every}
use mathlib.Core.Path.{refl}
use Rattle.character_knowledge.proofs.at.Goals as goal

pub returns : goal.returns
returns c = λ m. every _ (λ i k. refl) (λ i k. refl) (λ i k. refl) refl refl refl refl (λ k. refl) refl refl refl refl
