-- `runs::ring::Ring::look_over` meets its contract. The invariant: what is counted of the cells passed, and whether the last of them differs.
-- Assumes nothing.
use Prim.Native.Nat.{◌+◌}
use native.Mathlib.Omega.{arith}
use mathlib.Core.Path.{◌≡◌, ap, ◌∙◌}
use mathlib.Core.Bool.{Bool}
use Rattle.rules.specs.Choice.{whether}
use Rattle.runs.specs.Survey.{differ, one_passed, passed_most, surveyed}
use Rattle.runs.proofs.ring.Ring.look_over.Goals as goal

pub counted-cells-requires : goal.counted-cells-requires
counted-cells-requires c =
    let a = c.args.self in
    let l = c.loop-i in
    omega (arith, (passed_most a.n (differ a.codes.now a.wanted.now) _ _ _ _ _ l.invariant).0, c.loop-i-test.true, a.few)

pub counted-runs-requires : goal.counted-runs-requires
counted-runs-requires c =
    let a = c.args.self in
    let l = c.loop-i in
    omega (arith, (passed_most a.n (differ a.codes.now a.wanted.now) _ _ _ _ _ l.invariant).1, c.loop-i-test.true, a.few)

pub counted-lead-requires : goal.counted-lead-requires
counted-lead-requires c =
    let a = c.args.self in
    let l = c.loop-i in
    omega (arith, (passed_most a.n (differ a.codes.now a.wanted.now) _ _ _ _ _ l.invariant).2, c.loop-i-test.true, a.few)

pub loop-i-preserved : goal.loop-i-preserved
loop-i-preserved c =
    let a = c.args.self in
    let l = c.loop-i in
    one_passed a.n (differ a.codes.now a.wanted.now) l.i l.cells l.runs l.lead l.last _ _ _ _ l.invariant
    c.differs-here.ensures
    c.counted-cells.ensures (c.counted-runs.ensures ∙ ap (λ (t : Bool). l.runs + whether t 1 0) c.begins.ensures)
    (c.counted-lead.ensures ∙ ap (λ (t : Bool). l.lead + whether t 1 0) c.leads.ensures)

pub returns : goal.returns
returns c =
    let a = c.args.self in
    let l = c.loop-i in
    let e : l.i ≡ a.n = omega (arith, c.loop-i-test.false) in
    surveyed a.n (differ a.codes.now a.wanted.now) l.cells l.runs l.lead l.last _ a.some (rw e at l.invariant) c.found.ensures
