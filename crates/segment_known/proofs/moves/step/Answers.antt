-- `segment_known::moves::step` meets its contract: each arm knows the event.
-- Assumes nothing.
use mathlib.Core.Path.{ap, ◌∙◌}
use Rattle.segment.specs.Family.{sizes}
use Rattle.segment.specs.Move.{move}
use Rattle.segment_steps.specs.Step.{kept_of}
use Rattle.segment_steps.specs.StepLaws.{kept_steps, forgotten_steps, as_steps}
use Rattle.segment_known.proofs.moves.step.Goals as goal
use Rattle.segment_known.proofs.moves.step.Goals.{in-Falls, in-Rises, in-Unfinished, in-Keys, in-Switches, in-ByteOut}

pub returns-in-Power : goal.returns-in-Power
returns-in-Power c = as_steps (sizes c.args.family) (ap (move (sizes c.args.family)) c.in-Power.is) (forgotten_steps (sizes c.args.family) c.forgotten.ensures c.at_power-c.ensures)

pub returns-in-ByteIn : goal.returns-in-ByteIn
returns-in-ByteIn c = as_steps (sizes c.args.family) (ap (move (sizes c.args.family)) c.in-ByteIn.is) c.byte_in.ensures

pub returns-in-Gap : goal.returns-in-Gap
returns-in-Gap c = as_steps (sizes c.args.family) (ap (move (sizes c.args.family)) c.in-Gap.is) c.lost.ensures

pub returns : goal.returns
returns c =
    let s = sizes c.args.family in
    elim c.match-event.branch [
      | in-Falls w ↦ as_steps s (ap (move s) w.in-Falls.is) (kept_steps s (c.kept.ensures ∙ ap kept_of w.c-is) (w.falls-c.ensures.0 s))
      | in-Rises w ↦ as_steps s (ap (move s) w.in-Rises.is) (kept_steps s (c.kept.ensures ∙ ap kept_of w.c-is) (w.rises-c.ensures s))
      | in-Unfinished w ↦ as_steps s (ap (move s) w.in-Unfinished.is) (kept_steps s (c.kept.ensures ∙ ap kept_of w.c-is) (w.rises-c-in-Unfinished.ensures s))
      | in-Keys w ↦ as_steps s (ap (move s) w.in-Keys.is) (kept_steps s (c.kept.ensures ∙ ap kept_of w.c-is) w.keys_latched-c.ensures)
      | in-Switches w ↦ as_steps s (ap (move s) w.in-Switches.is) (kept_steps s (c.kept.ensures ∙ ap kept_of w.c-is) w.switches_latched-c.ensures)
      | in-ByteOut w ↦ as_steps s (ap (move s) w.in-ByteOut.is) (kept_steps s (c.kept.ensures ∙ ap kept_of w.c-is) w.byte_out-c.ensures)
    ]
