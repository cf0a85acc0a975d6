-- `segment_known::bytes::byte_in` meets its contract: each arm knows the position, or that it is unknown. Assumes nothing.
use Rattle.std.proofs.Common.{arith}
use mathlib.Core.Path.{refl, ap, ◌∙◌}
use Rattle.knowing.specs.Standing.{known}
use Rattle.fact.specs.View.{stands}
use Rattle.segment.specs.Fact.{position}
use Rattle.segment.specs.Family.{sizes}
use Rattle.segment.specs.Move.{byte_in}
use Rattle.segment_steps.specs.StepLaws.{as_steps, kept_steps}
use Rattle.segment_steps.specs.StepWays.{step_known}
use Rattle.segment_known.specs.Ways.{other_in}
use Rattle.segment_known.proofs.bytes.byte_in.Goals as goal

pub perhaps_in-requires : goal.perhaps_in-requires
perhaps_in-requires c = ap stands c.in_default.is

pub returns-in-1 : goal.returns-in-1
returns-in-1 c = let a = c.args in
    let s = sizes a.family in
    step_known s position (byte_in s a.byte) a.c 1 (λ cells. ap stands c.in-Known.is ∙ ap known c.in-1.is) c.first_in.ensures

pub returns-in-2 : goal.returns-in-2
returns-in-2 c = let a = c.args in
    let s = sizes a.family in
    step_known s position (byte_in s a.byte) a.c 2 (λ cells. ap stands c.in-Known.is ∙ ap known c.in-2.is) (c.data_in-next.ensures a.c.position)

pub returns-in_default-place : goal.returns-in_default-place
returns-in_default-place c = let a = c.args in
    let s = sizes a.family in
    step_known s position (byte_in s a.byte) a.c _ (λ cells. ap stands c.in-Known.is) (as_steps s (other_in _ _ c.in-Known.place (omega arith) (omega arith)) (kept_steps s c.kept.ensures (λ cells f. refl)))
