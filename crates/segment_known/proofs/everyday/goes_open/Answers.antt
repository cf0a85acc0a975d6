-- `segment_known::everyday::goes_open` meets its contract: each arm knows the data mode, or that it is unknown. Assumes nothing.
use Rattle.std.proofs.Common.{arith}
use mathlib.Core.Path.{sym, ap, ◌∙◌}
use Rattle.knowing.specs.Standing.{known}
use Rattle.knowing.specs.Holds.{is_known_lem}
use Rattle.fact.specs.View.{stands}
use Rattle.segment_known.specs.Everyday.{hits_at, perhaps_at, reading_deaf}
use Rattle.segment_known.proofs.everyday.goes_open.Goals as goal

pub returns-in-0 : goal.returns-in-0
returns-in-0 c = let a = c.args in
    hits_at a.family a.c _ c.goes_at.result c.requires (ap stands c.in-Known.is ∙ ap known c.in-0.is) (λ e. is_known_lem _ 0 (sym c.is_known.ensures ∙ e)) c.goes_at.ensures

pub returns-in-1 : goal.returns-in-1
returns-in-1 c = record { opened = c.requires; writing = ap stands c.in-Known.is ∙ ap known c.in-1.is }

pub returns-in_default : goal.returns-in_default
returns-in_default c = let a = c.args in
    reading_deaf a.family a.c _ c.requires (ap stands c.in-Known.is) (omega arith) (omega arith)

pub returns-in-Unknown : goal.returns-in-Unknown
returns-in-Unknown c = let a = c.args in
    perhaps_at a.family a.c c.perhaps_at.result c.requires (ap stands c.in-Unknown.is) c.perhaps_at.ensures
