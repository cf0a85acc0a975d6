-- `character_known::moves::step` meets its contract: each arm knows the event.
-- Assumes nothing.
use mathlib.Core.Path.{refl, ap, ◌∙◌}
use Rattle.character.specs.Move.{move}
use Rattle.character_steps.specs.Step.{kept_of}
use Rattle.character_steps.specs.Steps.{kept_steps, same_rule}
use Rattle.character_known.proofs.moves.step.Goals as goal
use Rattle.character_known.proofs.moves.step.Goals.{in-Falls, in-Rises, in-Unfinished, in-Keys, in-Switches, in-ByteOut}

pub returns-in-Power : goal.returns-in-Power
returns-in-Power c = same_rule (ap move c.in-Power.is) c.at_power.ensures

pub returns-in-ByteIn : goal.returns-in-ByteIn
returns-in-ByteIn c = same_rule (ap move c.in-ByteIn.is) c.byte_in.ensures

pub returns-in-Gap : goal.returns-in-Gap
returns-in-Gap c = same_rule (ap move c.in-Gap.is) c.lost.ensures

pub returns : goal.returns
returns c =
    elim c.match-event.branch [
      | in-Falls w ↦ same_rule (ap move w.in-Falls.is) (kept_steps (c.kept.ensures ∙ ap kept_of w.c-is) w.falls-c.ensures)
      | in-Rises w ↦ same_rule (ap move w.in-Rises.is) (kept_steps (c.kept.ensures ∙ ap kept_of w.c-is) w.rises-c.ensures)
      | in-Unfinished w ↦ same_rule (ap move w.in-Unfinished.is) (kept_steps (c.kept.ensures ∙ ap kept_of w.c-is) w.rises-c-in-Unfinished.ensures)
      | in-Keys w ↦ same_rule (ap move w.in-Keys.is) (kept_steps (c.kept.ensures ∙ ap kept_of w.c-is) (λ m f. refl))
      | in-Switches w ↦ same_rule (ap move w.in-Switches.is) (kept_steps (c.kept.ensures ∙ ap kept_of w.c-is) (λ m f. refl))
      | in-ByteOut w ↦ same_rule (ap move w.in-ByteOut.is) (kept_steps (c.kept.ensures ∙ ap kept_of w.c-is) (λ m f. refl))
    ]
