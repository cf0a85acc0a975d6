-- `character_known::commanded::first_in` meets its contract: each command goes by its rule.
-- Assumes nothing.
use mathlib.Core.Path.{sym, ap, ◌∙◌}
use Rattle.rules.specs.Rule.{gives}
use Rattle.character.specs.Move.{commanded}
use Rattle.character_steps.specs.Step.{kept_of}
use Rattle.character_steps.specs.Steps.{kept_steps, forgotten_steps, same_rule}
use Rattle.character_known.proofs.commanded.first_in.Goals as goal
use Rattle.character_known.proofs.commanded.first_in.Goals.{in-Dcram, in-Cgram, in-Adram, in-Port, in-Duty, in-Digits, in-Light, in-Nothing}

pub returns-in-Undefined : goal.returns-in-Undefined
returns-in-Undefined c = same_rule (ap (λ x. gives (commanded x)) (sym c.command_of-command.ensures ∙ c.in-Undefined.is)) (forgotten_steps c.forgotten.ensures (c.undefined_in-c.ensures c.args.c))

pub returns : goal.returns
returns c = let e = sym c.command_of-command.ensures in
    elim c.match-command.branch [
      | in-Dcram w ↦ same_rule (ap (λ x. gives (commanded x)) (e ∙ w.in-Dcram.is)) (kept_steps (c.kept.ensures ∙ ap kept_of w.c-is) w.show_from-c.ensures)
      | in-Cgram w ↦ same_rule (ap (λ x. gives (commanded x)) (e ∙ w.in-Cgram.is)) (kept_steps (c.kept.ensures ∙ ap kept_of w.c-is) w.draw_from-c.ensures)
      | in-Adram w ↦ same_rule (ap (λ x. gives (commanded x)) (e ∙ w.in-Adram.is)) (kept_steps (c.kept.ensures ∙ ap kept_of w.c-is) w.mark_from-c.ensures)
      | in-Port w ↦ same_rule (ap (λ x. gives (commanded x)) (e ∙ w.in-Port.is)) (kept_steps (c.kept.ensures ∙ ap kept_of w.c-is) w.port_set-c.ensures)
      | in-Duty w ↦ same_rule (ap (λ x. gives (commanded x)) (e ∙ w.in-Duty.is)) (kept_steps (c.kept.ensures ∙ ap kept_of w.c-is) w.duty_set-c.ensures)
      | in-Digits w ↦ same_rule (ap (λ x. gives (commanded x)) (e ∙ w.in-Digits.is)) (kept_steps (c.kept.ensures ∙ ap kept_of w.c-is) w.digits_set-c.ensures)
      | in-Light w ↦ same_rule (ap (λ x. gives (commanded x)) (e ∙ w.in-Light.is)) (kept_steps (c.kept.ensures ∙ ap kept_of w.c-is) w.lights_set-c.ensures)
      | in-Nothing w ↦ same_rule (ap (λ x. gives (commanded x)) (e ∙ w.in-Nothing.is)) (kept_steps (c.kept.ensures ∙ ap kept_of w.c-is) w.ignoring_on-c.ensures)
    ]
