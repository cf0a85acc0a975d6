-- `segment_knowledge::with_data` meets its contract: fact by fact, only the data mode changes.
-- Assumes nothing.
use mathlib.Core.Path.{refl}
use Rattle.segment.specs.Laws.{every}
use Rattle.segment_knowledge.proofs.with_data.Goals as goal

pub returns : goal.returns
returns c = λ cells. every _ (λ i k. refl) refl refl refl refl refl refl (λ k. refl) (λ i. refl) refl refl refl
