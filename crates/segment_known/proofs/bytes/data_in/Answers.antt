-- `segment_known::bytes::data_in` meets its contract: each arm knows the data mode, or that it is unknown. Assumes nothing.
use Rattle.std.proofs.Common.{arith}
use mathlib.Core.Path.{refl, ap, ◌∙◌}
use Rattle.knowing.specs.Standing.{known}
use Rattle.fact.specs.View.{stands}
use Rattle.segment.specs.Fact.{data_mode}
use Rattle.segment.specs.Family.{sizes}
use Rattle.segment.specs.Move.{written}
use Rattle.segment_steps.specs.StepWays.{step_known}
use Rattle.segment_known.specs.Writes.{placed, writes_led, writes_none}
use Rattle.segment_known.proofs.bytes.data_in.Goals as goal

pub perhaps_written-requires : goal.perhaps_written-requires
perhaps_written-requires c = ap stands c.in_default.is

pub returns-in-0 : goal.returns-in-0
returns-in-0 c = let a = c.args in
    let s = sizes a.family in
    λ q. step_known s data_mode (written s a.byte) (placed a.c q) 0 (λ cells. ap stands c.in-Known.is ∙ ap known c.in-0.is) (c.stored_by-stored.ensures (placed a.c q) refl refl)

pub returns-in-1 : goal.returns-in-1
returns-in-1 c = let a = c.args in
    writes_led (sizes a.family) a.c a.byte _ (ap stands c.in-Known.is ∙ ap known c.in-1.is) c.put_byte.ensures

pub returns-in_default-mode : goal.returns-in_default-mode
returns-in_default-mode c = let a = c.args in
    writes_none (sizes a.family) a.c a.byte _ (ap stands c.in-Known.is) (omega arith) (omega arith)
