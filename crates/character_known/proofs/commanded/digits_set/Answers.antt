-- `character_known::commanded::digits_set` meets its contract: only the number of digits and the position change.
-- Assumes nothing.
use mathlib.Core.Path.{refl}
use Rattle.character.specs.Laws.{every}
use Rattle.character_known.proofs.commanded.digits_set.Goals as goal

pub returns : goal.returns
returns c = λ m. every _ (λ i k. refl) (λ i k. refl) (λ i k. refl) refl refl refl refl (λ k. refl) refl refl refl refl
