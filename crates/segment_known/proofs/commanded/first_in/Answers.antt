-- `segment_known::commanded::first_in` meets its contract: each arm knows the command, and keeps the cells or forgets them.
-- Assumes nothing.
use mathlib.Core.Path.{sym, ap, ◌∙◌}
use Rattle.knowing.specs.Standing.{unknown}
use Rattle.knowing.specs.Ways.{as_rule}
use Rattle.segment.specs.Fact.{same?, range}
use Rattle.segment.specs.Family.{sizes}
use Rattle.segment.specs.Move.{commanded}
use Rattle.segment_knowledge.specs.View.{cview}
use Rattle.segment_steps.specs.Step.{kept_of}
use Rattle.segment_steps.specs.StepLaws.{kept_steps, forgotten_steps, as_steps}
use Rattle.segment_known.specs.Ways.{mode_small}
use Rattle.segment_known.proofs.commanded.first_in.Goals as goal
use Rattle.segment_known.proofs.commanded.first_in.Goals.{in-Mode, in-Setting, in-AnySetting, in-Control, in-Start}

pub returns-in-Test : goal.returns-in-Test
returns-in-Test c = let a = c.args in
    let s = sizes a.family in
    forgotten_steps s c.forgotten.ensures (λ cells. as_rule (cview cells) (cview (λ i k. unknown)) same? (range s) _ _ a.c _ (ap commanded (sym c.command_of-command.ensures ∙ c.in-Test.is)) (c.in_test-c.ensures cells))

pub to_mode-c-requires : goal.to_mode-c-requires
to_mode-c-requires c = let a = c.args in
    mode_small (sizes a.family) a.byte _ (sym c.in-Mode.is ∙ c.command_of-command.ensures)

pub returns : goal.returns
returns c =
    let a = c.args in
    let s = sizes a.family in
    let e = sym c.command_of-command.ensures in
    elim c.match-command.branch [
      | in-Mode w ↦ as_steps s (ap commanded (e ∙ w.in-Mode.is)) (kept_steps s (c.kept.ensures ∙ ap kept_of w.c-is) w.to_mode-c.ensures)
      | in-Setting w ↦ as_steps s (ap commanded (e ∙ w.in-Setting.is)) (kept_steps s (c.kept.ensures ∙ ap kept_of w.c-is) w.data_set-c.ensures)
      | in-AnySetting w ↦ as_steps s (ap commanded (e ∙ w.in-AnySetting.is)) (kept_steps s (c.kept.ensures ∙ ap kept_of w.c-is) w.stepping_set-c.ensures)
      | in-Control w ↦ as_steps s (ap commanded (e ∙ w.in-Control.is)) (kept_steps s (c.kept.ensures ∙ ap kept_of w.c-is) w.display_set-c.ensures)
      | in-Start w ↦ as_steps s (ap commanded (e ∙ w.in-Start.is)) (kept_steps s (c.kept.ensures ∙ ap kept_of w.c-is) w.address_set-c.ensures)
    ]
