-- `segment_known::stored::stored_by` meets its contract: a known address is a cell of the part, or none; at an unknown one every cell meets the byte. Assumes nothing.
use Rattle.std.specs.Prelude.{suc, ◌≡◌}
use Rattle.std.proofs.Common.{rules, sym, ap, ◌∙◌}
use Rattle.std.proofs.Math.Path.{subst⁻¹}
use Rattle.rules.specs.Rule.{look}
use Rattle.changes.specs.declared.Change.TheVariants.{Meet}
use Rattle.segment.specs.declared.Sizes.{Sizes}
use Rattle.segment.specs.Fact.{address}
use Rattle.segment.specs.Family.{sizes}
use Rattle.knowing.specs.Standing.{known}
use Rattle.segment.specs.Move.{stored}
use Rattle.segment_knowledge.specs.View.{points}
use Rattle.segment_steps.specs.Step.{Steps}
use Rattle.segment_known.specs.Cells.{somewhere_steps}
use Rattle.segment_known.specs.Writes.{stepped_on, stored_in, pointed}
use Rattle.segment_known.proofs.stored.stored_by.Goals as goal

pub returns-then-cell-sizes : goal.returns-then-cell-sizes
returns-then-cell-sizes c =
    let a = c.args in
    let at : points a.address ≡ known (suc c.in-Known-At.cell.0) = search rules in
    λ d e i. stored_in a.family d _ a.byte _ (rw c.sizes-sizes.ensures at c.if-cell-sizes.true) (e ∙ at) (c.stepped.ensures ∙ ap (stepped_on (sizes a.family) _) (sym i))

pub returns-in-Unknown : goal.returns-in-Unknown
returns-in-Unknown c = let a = c.args in
    λ d e i. pointed (sizes a.family) (sym e)
    (subst⁻¹ (λ (x : Sizes). Steps (sizes a.family) (look address (stored (sizes a.family) a.byte)) d (record { control = d; change = Meet (record { 0 = 0 }) 1 x.cells a.byte }))
    c.sizes-sizes-in-Unknown.ensures (somewhere_steps a.family d a.byte (e ∙ ap points c.in-Unknown.is)))
