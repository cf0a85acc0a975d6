-- `segment_known::perhaps::unmoved` meets its contract: each arm knows the command, and that each fact has in common with what it sets what it was. Assumes nothing.
use mathlib.Core.Path.{sym, ap, ◌∙◌}
use Rattle.knowing.specs.Standing.{known}
use Rattle.knowing.specs.Know.{join}
use Rattle.segment_knowledge.specs.View.{points}
use Rattle.segment_known.specs.Anywhere.{unmoved_mode, unmoved_control, unmoved_start}
use Rattle.segment_known.proofs.perhaps.unmoved.Goals as goal

pub returns-in-Mode : goal.returns-in-Mode
returns-in-Mode c = λ e. let a = c.args in
    unmoved_mode a.family a.byte a.c a.cells.now c.requires (c.quiet.ensures (c.if-not-quiet.false)) _ (sym c.in-Mode.is ∙ c.command_of-command.ensures) (c.stays_moded.ensures e)

pub returns-then-stays : goal.returns-then-stays
returns-then-stays c = λ e. let a = c.args in
    unmoved_control a.family a.byte a.c a.cells.now c.requires (c.quiet.ensures (c.if-not-quiet.false)) c.in-Control.level c.in-Control.shown (sym c.in-Control.is ∙ c.command_of-command.ensures) (c.stays.ensures c.if-stays.true) (c.stays-then-stays.ensures e ∙ ap (join _) (ap known c.from.ensures))

pub returns-in-Unknown : goal.returns-in-Unknown
returns-in-Unknown c = λ e. let a = c.args in
    unmoved_start a.family a.byte a.c a.cells.now c.requires (c.quiet.ensures (c.if-not-quiet.false)) _ (sym c.in-Start.is ∙ c.command_of-command.ensures) (ap points c.in-Unknown.is)
