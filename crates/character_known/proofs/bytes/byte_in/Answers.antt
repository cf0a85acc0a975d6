-- `character_known::bytes::byte_in` meets its contract: a known position goes its one way, an unknown one all six.
-- Assumes nothing.
use native.Mathlib.Omega.{arith}
use mathlib.Core.Path.{refl, ap, ◌∙◌}
use Rattle.knowing.specs.Standing.{known}
use Rattle.fact.specs.View.{stands}
use Rattle.character.specs.Fact.{position}
use Rattle.character.specs.Move.{byte_in}
use Rattle.character_steps.specs.Steps.{known_step, kept_steps, same_rule}
use Rattle.character_known.specs.Position.{other_place}
use Rattle.character_known.proofs.bytes.byte_in.Goals as goal

pub returns-in-1 : goal.returns-in-1
returns-in-1 c = let a = c.args in
    known_step position (byte_in a.byte) a.c _ 1 (λ m. ap stands c.in-Known.is ∙ ap known c.in-1.is) c.first_in.ensures

pub returns-in-2 : goal.returns-in-2
returns-in-2 c = let a = c.args in
    known_step position (byte_in a.byte) a.c _ 2 (λ m. ap stands c.in-Known.is ∙ ap known c.in-2.is) c.to_show.ensures

pub returns-in-3 : goal.returns-in-3
returns-in-3 c = let a = c.args in
    known_step position (byte_in a.byte) a.c _ 3 (λ m. ap stands c.in-Known.is ∙ ap known c.in-3.is) c.to_draw.ensures

pub returns-in-4 : goal.returns-in-4
returns-in-4 c = let a = c.args in
    known_step position (byte_in a.byte) a.c _ 4 (λ m. ap stands c.in-Known.is ∙ ap known c.in-4.is) c.to_mark.ensures

pub returns-in_default : goal.returns-in_default
returns-in_default c = let a = c.args in
    known_step position (byte_in a.byte) a.c _ c.in-Known.place (λ m. ap stands c.in-Known.is)
    (same_rule (other_place _ _ _ _ c.in-Known.place (λ e. omega arith) (λ e. omega arith) (λ e. omega arith) (λ e. omega arith)) (kept_steps c.kept.ensures (λ m f. refl)))
