-- `segment_known::commanded::in_test` meets its contract: no cell and no setting is known, and the position is.
-- Assumes nothing.
use mathlib.Core.Path.{refl}
use Rattle.segment.specs.Laws.{every, led_tested}
use Rattle.lamps.specs.Lamp.{none_shown}
use Rattle.segment_known.proofs.commanded.in_test.Goals as goal

pub returns : goal.returns
returns c = λ cells. every _ (λ i k. refl) refl refl refl refl refl refl (λ k. rw (led_tested k) (none_shown 4 k)) (λ i. refl) refl refl refl
