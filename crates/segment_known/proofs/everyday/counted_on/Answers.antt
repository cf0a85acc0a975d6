-- `segment_known::everyday::counted_on` meets its contract: the address goes round behind the last cell. Assumes nothing.
use Prim.Native.Nat.{ℕ}
use native.Mathlib.Omega.{arith}
use mathlib.Core.Path.{ap, ◌∙◌}
use Rattle.fact.specs.declared.Single.{Single}
use Rattle.fact.specs.declared.Single.TheVariants.{Known}
use Rattle.segment.specs.declared.Pointer.{Pointer}
use Rattle.segment.specs.declared.Pointer.TheVariants.{At}
use Rattle.segment_known.specs.Writes.{pointing}
use Rattle.segment_known.specs.Everyday.{ring_within, ring_round}
use Rattle.segment.specs.Family.{sizes}
use Rattle.segment.specs.Laws.{room}
use Rattle.segment_known.proofs.everyday.counted_on.Goals as goal
use Rattle.segment_known.proofs.everyday.counted_on.Goals.{then-next-sizes, else-next-sizes}

pub overflow_cast-next : goal.overflow_cast-next
overflow_cast-next c = omega (arith, c.requires, (room c.args.family).0)

pub overflow_add-next : goal.overflow_add-next
overflow_add-next c = record { fits = omega (arith, c.requires, (room c.args.family).0) }

pub returns : goal.returns
returns c =
    let a = c.args in
    let s = sizes a.family in
    let is = c.sizes-sizes.ensures in
    let to : ℕ → Single Pointer = λ n. Known (At (record { 0 = n })) in
    ap (pointing a.c) (elim c.if-next-sizes.branch [
      | then-next-sizes w ↦ ap to w.to-is ∙ ring_within s _ (rw is at w.if-next-sizes.true)
      | else-next-sizes w ↦ ap to w.to-is ∙ ring_round s _ (rw is at w.if-next-sizes.false)
    ])
