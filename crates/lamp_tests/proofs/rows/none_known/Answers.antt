-- `lamp_tests::rows::none_known` meets its contract: where the number that takes in every code passed is 0, each of them is. Assumes nothing.
use native.Mathlib.Omega.{arith}
use borrow.Author.Tests.{eqb-true}
use Rattle.lamps.specs.Row.{noughts_more, noughts_held}
use Rattle.lamp_tests.proofs.rows.none_known.Goals as goal

pub loop-code-preserved : goal.loop-code-preserved
loop-code-preserved c = let l = c.loop-code in
    noughts_more c.args.codes.now l.code-index l.any l.invariant

pub returns : goal.returns
returns c = let l = c.loop-code in
    λ e w. noughts_held w c.args.codes.now l.code-index (l.invariant (eqb-true l.any 0 e)) (omega arith)
