-- `segment_known::perhaps::perhaps_in` meets its contract: each arm knows the command, and what each fact has in common with what it makes of it. Assumes nothing.
use mathlib.Core.Path.{sym, ap, ◌∙◌}
use Rattle.knowing.specs.Standing.{known}
use Rattle.knowing.specs.Know.{join}
use Rattle.segment_known.specs.Anywhere.{Perhaps, perhaps_as, perhaps_test, perhaps_start, perhaps_setting, perhaps_any, perhaps_control, perhaps_mode}
use Rattle.segment_known.proofs.perhaps.perhaps_in.Goals as goal
use Rattle.segment_known.proofs.perhaps.perhaps_in.Goals.{in-Mode, in-Test, in-Setting, in-AnySetting, in-Control, in-Start}

pub returns : goal.returns
returns c =
    let a = c.args in
    let is = c.command_of-command.ensures in
    let next = c.data_in-next in
    let perhaps = Perhaps a.family a.byte a.c c.requires next.result next.ensures in
    let change = c.loosened-change in
    let to = c.both-address in
    let light = c.both_lamps-led in
    let lit = light.ensures 4 in
    elim c.match-command.branch [
      | in-Mode w ↦ perhaps_as perhaps a.c w.address-is w.led-is w.change-is w.data-is w.stepping-is w.mode-is w.dimming-is w.display-is w.count-is
          (perhaps_mode a.family a.byte a.c c.requires next.result next.ensures change.result to.result light.result change.ensures to.ensures lit w.in-Mode.code w.display_in-off.result _ _ (sym w.in-Mode.is ∙ is) w.display_in-off.ensures w.perhaps-mode.ensures w.both-display.ensures)
      | in-Test w ↦ perhaps_as perhaps a.c w.address-is w.led-is w.change-is w.data-is w.stepping-is w.mode-is w.dimming-is w.display-is w.count-is
          (perhaps_test a.family a.byte a.c c.requires next.result next.ensures (sym w.in-Test.is ∙ is))
      | in-Setting w ↦ perhaps_as perhaps a.c w.address-is w.led-is w.change-is w.data-is w.stepping-is w.mode-is w.dimming-is w.display-is w.count-is
          (perhaps_setting a.family a.byte a.c c.requires next.result next.ensures change.result to.result light.result change.ensures to.ensures lit w.in-Setting.kind w.in-Setting.step _ _ _ (sym w.in-Setting.is ∙ is) (w.perhaps-data.ensures ∙ ap (join _) (ap known w.from.ensures)) (w.perhaps-stepping.ensures ∙ ap (join _) (ap known w.from-in-Setting.ensures)) w.perhaps-count.ensures)
      | in-AnySetting w ↦ perhaps_as perhaps a.c w.address-is w.led-is w.change-is w.data-is w.stepping-is w.mode-is w.dimming-is w.display-is w.count-is
          (perhaps_any a.family a.byte a.c c.requires next.result next.ensures change.result to.result light.result change.ensures to.ensures lit w.in-AnySetting.step _ _ (sym w.in-AnySetting.is ∙ is) (w.perhaps-stepping-in-AnySetting.ensures ∙ ap (join _) (ap known w.from-in-AnySetting.ensures)) w.perhaps-count-in-AnySetting.ensures)
      | in-Control w ↦ perhaps_as perhaps a.c w.address-is w.led-is w.change-is w.data-is w.stepping-is w.mode-is w.dimming-is w.display-is w.count-is
          (perhaps_control a.family a.byte a.c c.requires next.result next.ensures change.result to.result light.result change.ensures to.ensures lit w.in-Control.level w.in-Control.shown _ _ (sym w.in-Control.is ∙ is) w.perhaps-dimming.ensures (w.perhaps-display.ensures ∙ ap (join _) (ap known w.from-in-Control.ensures)))
      | in-Start w ↦ perhaps_as perhaps a.c w.address-is w.led-is w.change-is w.data-is w.stepping-is w.mode-is w.dimming-is w.display-is w.count-is
          (perhaps_start a.family a.byte a.c c.requires next.result next.ensures change.result to.result light.result change.ensures to.ensures lit w.in-Start.start _ (sym w.in-Start.is ∙ is) w.both-address-in-Start.ensures)
    ]
