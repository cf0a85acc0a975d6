-- `segment_known::latches::keys_latched` meets its contract: the key bytes are set as the rule has them, in another order, and no other fact changes.
-- Assumes nothing.
use mathlib.Core.Path.{◌≡◌, refl}
use native.Mathlib.Omega.{arith}
use lib.ListN.{length, set}
use lib.Dec.{ltb}
use Rattle.rules.specs.Choice.{whether}
use Rattle.segment.specs.Laws.{every}
use Rattle.segment.specs.Family.{sizes}
use Rattle.segment_known.specs.Cells.{keys_coded, three_set, four_set}
use borrow.Author.Rules.{rules}
use Rattle.segment_known.proofs.latches.keys_latched.Goals as goal

pub returns-in-Pt6315 : goal.returns-in-Pt6315
unfolding sizes
returns-in-Pt6315 c = λ cells. let a = c.args in
    let f = c.ranges in
    let n : length a.c.keys ≡ 4 = search rules in
    let r : set a.c.keys 3 a.k3 ≡ whether (ltb 3 (sizes a.family).keys) (set a.c.keys 3 a.k3) a.c.keys = rw c.in-Pt6315.is refl in
    every _ (λ i k. refl) refl refl refl refl refl refl (λ k. refl)
    (λ i. keys_coded (sizes a.family) cells a.c a.k0 a.k1 a.k2 a.k3 _ _ i (omega (arith, f.k0)) (omega (arith, f.k1)) (omega (arith, f.k2)) (omega (arith, f.k3)) r n (four_set a.c.keys a.k0 a.k1 a.k2 a.k3))
    refl refl refl

pub returns-in_default : goal.returns-in_default
unfolding sizes
returns-in_default c = λ cells. let a = c.args in
    let f = c.ranges in
    let n : length a.c.keys ≡ 4 = search rules in
    let r : a.c.keys ≡ whether (ltb 3 (sizes a.family).keys) (set a.c.keys 3 a.k3) a.c.keys = rw c.in_default.is refl in
    every _ (λ i k. refl) refl refl refl refl refl refl (λ k. refl)
    (λ i. keys_coded (sizes a.family) cells a.c a.k0 a.k1 a.k2 a.k3 _ _ i (omega (arith, f.k0)) (omega (arith, f.k1)) (omega (arith, f.k2)) (omega (arith, f.k3)) r n (three_set a.c.keys a.k0 a.k1 a.k2))
    refl refl refl
