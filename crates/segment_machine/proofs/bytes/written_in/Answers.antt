-- `segment_machine::bytes::written_in` meets its contract: each arm knows its data mode; in the LED arm each bit of the LED is that of the byte, as `lit` says, and the others' callees do what the rule says.
-- Assumes nothing.
use mathlib.Core.Path.{ap}
use Rattle.rules.specs.Laws.{by_value}
use Rattle.rules.specs.Change.{set_bits}
use Rattle.segment.specs.Family.{sizes}
use Rattle.segment.specs.Value.{data_mode_of}
use Rattle.segment.specs.Move.{written}
use mathlib.Core.Path.{refl}
use Rattle.segment.specs.Laws.{every, led_lit}
use Rattle.segment_machine.proofs.bytes.written_in.Goals as goal

pub returns-in-WriteLed : goal.returns-in-WriteLed
unfolding set_bits
returns-in-WriteLed c =
    let a = c.args in
    by_value (written (sizes a.family) a.byte) _ _ _ _ _ (ap data_mode_of c.in-WriteLed.is)
    (every _ (λ i k. refl) refl refl refl refl refl refl (λ k. led_lit a.chip _ a.byte k c.lit.ensures) (λ i. refl) refl refl refl)
