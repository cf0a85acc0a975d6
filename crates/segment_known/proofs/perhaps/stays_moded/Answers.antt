-- `segment_known::perhaps::stays_moded` meets its contract: the mode is known, or it is unknown. Assumes nothing.
use mathlib.Core.Path.{ap, ◌∙◌}
use borrow.Author.Tests.{eqb-true}
use Rattle.knowing.specs.Standing.{known}
use Rattle.fact.specs.View.{stands}
use Rattle.segment_known.specs.Anywhere.{same_mode, any_mode}
use Rattle.segment_known.proofs.perhaps.stays_moded.Goals as goal

pub returns-in-Known : goal.returns-in-Known
returns-in-Known c = λ e. same_mode _ _ _ (ap stands c.in-Known.is ∙ ap known (eqb-true _ _ e))

pub returns-in-Unknown : goal.returns-in-Unknown
returns-in-Unknown c = λ e. any_mode _ _ _ (ap stands c.in-Unknown.is) (c.stays.ensures e)
