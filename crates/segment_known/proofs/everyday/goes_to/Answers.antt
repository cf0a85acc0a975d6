-- `segment_known::everyday::goes_to` meets its contract: a known position is told by its number. Assumes nothing.
use Rattle.std.proofs.Common.{arith}
use mathlib.Core.Path.{ap, ◌∙◌}
use Rattle.knowing.specs.Standing.{known}
use Rattle.fact.specs.View.{stands}
use Rattle.segment_known.specs.Everyday.{shut_deaf}
use Rattle.segment_known.proofs.everyday.goes_to.Goals as goal

pub goes_open-requires : goal.goes_open-requires
goes_open-requires c = ap stands c.in-Known.is ∙ ap known c.in-2.is

pub returns-in_default : goal.returns-in_default
returns-in_default c = let a = c.args in
    shut_deaf a.family a.c _ (ap stands c.in-Known.is) (omega arith) (omega arith)
