-- `reporting::reports::segment_sends` meets its contract: the test decides, and the report does the rest.
-- Assumes nothing.
use mathlib.Core.Path.{refl}
use Rattle.segment.specs.Family.{sizes}
use Rattle.segment_knowledge.specs.View.{held}
use Rattle.segment_sent.specs.Report.{bare_sound}
use Rattle.rules.specs.Where.{good}
use Rattle.reporting.proofs.reports.segment_sends.Goals as goal

pub invariant_of-known : goal.invariant_of-known
invariant_of-known c = let a = c.args in
    record { sound = bare_sound (sizes a.family) a.panel.segment (c.sound.ensures.so c.if-not-sound.false) }

pub returns : goal.returns
returns c = good (c.sound.ensures.so c.if-not-sound.false) (record { numbered = refl; placed = refl; told = c.sent_next.ensures (held c.args.panel.segment.cells) tt })
