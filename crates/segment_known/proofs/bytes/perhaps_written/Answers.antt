-- `segment_known::bytes::perhaps_written` meets its contract: the byte may have been stored, or gone to the LED, or been ignored. Assumes nothing.
use mathlib.Core.Path.{subst⁻¹}
use Rattle.rules.specs.Rule.{look}
use Rattle.lamps.specs.Lamp.{wide4}
use Rattle.changes.specs.declared.Change.{Change}
use Rattle.segment.specs.Fact.{data_mode}
use Rattle.segment.specs.Family.{sizes}
use Rattle.segment.specs.Move.{written}
use Rattle.segment_steps.specs.Step.{Steps}
use Rattle.segment_known.specs.Writes.{writing, placed, perhaps_written, met_led}
use Rattle.segment_known.proofs.bytes.perhaps_written.Goals as goal

pub returns : goal.returns
returns c = let a = c.args in
    let s = sizes a.family in
    λ q. subst⁻¹ (λ (x : Change). Steps s (look data_mode (written s a.byte)) (placed a.c q) (record { control = writing (placed a.c q) c.both.result c.meet_code.result; change = x })) c.loosened.ensures
    (perhaps_written a.family (placed a.c q) a.byte c.stored_by-stored.result _ _ c.stored_by-stored.ensures c.requires c.both.ensures
    (λ k. met_led a.byte _ _ _ (c.code_of.ensures 4 wide4) c.meet_code.ensures k))
