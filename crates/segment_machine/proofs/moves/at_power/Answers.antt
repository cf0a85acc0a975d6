-- `segment_machine::moves::at_power` meets its contract: the part's own numbers come from its sizes, the LED is lit as `lit` says, the others stand in the rule.
-- Assumes nothing.
use mathlib.Core.Path.{refl}
use Rattle.segment.specs.Laws.{every, led_lit}
use Rattle.segment_machine.proofs.moves.at_power.Goals as goal

pub returns : goal.returns
returns c =
    let a = c.args in
    rw (← c.sizes-sizes.ensures)
    (every _ (λ i k. refl) refl refl refl refl refl refl (λ k. led_lit a.chip _ c.sizes-sizes.result.led k c.lit.ensures) (λ i. refl) refl refl refl)
