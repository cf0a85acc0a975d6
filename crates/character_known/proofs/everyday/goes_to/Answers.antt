-- `character_known::everyday::goes_to` meets its contract: each position that stores asks for its own place, and no byte is heard at one that has no meaning.
-- Assumes nothing.
use native.Mathlib.Omega.{arith}
use mathlib.Core.Path.{ap, ◌∙◌}
use Rattle.knowing.specs.Standing.{known}
use Rattle.fact.specs.View.{stands}
use Rattle.character_known.specs.Everyday.{deaf}
use Rattle.character_known.proofs.everyday.goes_to.Goals as goal

pub shows-requires : goal.shows-requires
shows-requires c = ap stands c.in-Known.is ∙ ap known c.in-2.is

pub draws-requires : goal.draws-requires
draws-requires c = ap stands c.in-Known.is ∙ ap known c.in-3.is

pub marks-requires : goal.marks-requires
marks-requires c = ap stands c.in-Known.is ∙ ap known c.in-4.is

pub returns-in_default-place : goal.returns-in_default-place
returns-in_default-place c = deaf c.args.c c.in-Known.place (ap stands c.in-Known.is) (λ e. omega arith) (λ e. omega arith) (λ e. omega arith) (λ e. omega arith)
