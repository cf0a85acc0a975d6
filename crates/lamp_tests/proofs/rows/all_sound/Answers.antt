-- `lamp_tests::rows::all_sound` meets its contract: the number that takes in the wrong bits of the codes passed is 0 exactly where all of them are sound. Assumes nothing.
use native.Mathlib.Omega.{arith}
use Prim.Native.Nat.{ℕ}
use lib.Dec.{eqb}
use Rattle.std.proofs.Common.{subst}
use Rattle.std.proofs.lemmas.List.{get_or-take, length-take-le}
use Rattle.rules.specs.Tests.{Tests}
use Rattle.knowing.specs.Standing.{Within}
use Rattle.lamps.specs.View.{shown}
use Rattle.lamps.specs.Row.{lamps_more}
use Rattle.lamp_tests.proofs.rows.all_sound.Goals as goal

pub loop-code-preserved : goal.loop-code-preserved
loop-code-preserved c =
    let l = c.loop-code in
    let a = c.args in
    let e = get_or-take a.count a.codes.now l.code-index 0 (omega (arith, length-take-le a.count a.codes.now c.requires)) in
    λ w W. lamps_more w a.codes.now l.code-index l.wrong _ (l.invariant w W)
    (subst (λ (code : ℕ). Tests (eqb c.wrong_bits-wrong.result 0) ((k : ℕ) → Within 2 (shown w code k))) e (c.wrong_bits-wrong.ensures w W))
