-- `segment_known::perhaps::stays` meets its contract: a known fact is v or another, and an unknown one has nothing in common with v but that. Assumes nothing.
use mathlib.Core.Path.{sym, ap, ◌∙◌}
use borrow.Author.Tests.{eqb-true}
use Rattle.knowing.specs.Standing.{known}
use Rattle.knowing.specs.Join.{join_both, join_not}
use Rattle.fact.specs.View.{stands}
use Rattle.segment_known.proofs.perhaps.stays.Goals as goal

pub returns-in-Known : goal.returns-in-Known
returns-in-Known c = λ e. let g = ap stands c.in-Known.is in
    g ∙ sym (join_both _ _ _ g (ap known (sym (eqb-true _ _ e))))

pub returns-in-Unknown : goal.returns-in-Unknown
returns-in-Unknown c = λ _. let u = ap stands c.in-Unknown.is in
    u ∙ join_not _ _ u
