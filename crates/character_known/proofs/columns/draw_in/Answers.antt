-- `character_known::columns::draw_in` meets its contract: a known column goes its one way, an unknown one may be any of the five.
-- Assumes nothing.
use mathlib.Core.Path.{refl, ap}
use native.Mathlib.Omega.{arith}
use Rattle.fact.specs.View.{stands}
use Rattle.character.specs.Fact.{column}
use Rattle.character.specs.Move.{drawn}
use Rattle.character_steps.specs.Steps.{known_step}
use Rattle.character_known.specs.Ram.{columns}
use Rattle.character_known.specs.Places.{as_changed, drawn_at, column_step}
use Rattle.character_known.proofs.columns.draw_in.Goals as goal
use Rattle.character_known.proofs.columns.draw_in.Goals.{then-at-eq4, else-at-eq4}

pub returns-after-at-eq4 : goal.returns-after-at-eq4
returns-after-at-eq4 c = let s = c in
    let a = s.args in
    let to = c.if-at-eq4.to in
    as_changed columns c.drawing-c.ensures refl
    (known_step column (drawn a.byte a.address.0) a.c _ _ (λ m. ap stands c.in-Known.is)
    (drawn_at a.byte a.c a.address.0 _ to s.requires (λ q. elim c.if-at-eq4.branch [ then-at-eq4 w ↦ omega arith | else-at-eq4 w ↦ omega arith ]) (λ q. elim c.if-at-eq4.branch [ then-at-eq4 w ↦ omega arith | else-at-eq4 w ↦ omega arith ])))

pub returns-in-Unknown : goal.returns-in-Unknown
returns-in-Unknown c = let s = c in
    let u = ap stands c.in-Unknown.is in
    as_changed columns c.drawing-c-in-Unknown.ensures refl (column_step s.args.byte s.args.c s.args.address.0 _ s.requires u u)
