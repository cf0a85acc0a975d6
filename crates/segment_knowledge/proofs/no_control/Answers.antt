-- `segment_knowledge::no_control` meets its contract: every key byte's code is 256, and no single fact is known.
-- Assumes nothing.
use mathlib.Core.Path.{refl, ap}
use Rattle.segment.specs.Laws.{every}
use Rattle.key_codes.specs.View.{coded}
use Rattle.rules.specs.Unique.{get_d_same}
use Rattle.lamps.specs.Lamp.{none_shown}
use Rattle.segment_knowledge.proofs.no_control.Goals as goal

pub returns : goal.returns
returns c = every _ (λ i k. refl) refl refl refl refl refl refl (λ k. none_shown 4 k) (λ i. ap coded (get_d_same 4 i 256)) refl refl refl
