-- `lamp_tests::rows::all_sound` meets its contract: the number that takes in the wrong bits of the codes passed is 0 exactly where all of them are sound. Assumes nothing.
use Prim.Native.Nat.{ℕ}
use lib.Dec.{eqb}
use Rattle.rules.specs.Tests.{Tests}
use Rattle.lamps.specs.View.{Wide}
use Rattle.lamps.specs.Row.{LampsSound}
use Rattle.lamp_tests.proofs.rows.all_sound.Given as goal

abbrev pub invariant-loop-code : goal.invariant-loop-code
invariant-loop-code l = (w : ℕ) → Wide w l.wide → Tests (eqb l.wrong 0) (LampsSound w l.codes l.code-index)
