-- `lamp_tests::rows::none_known` meets its contract: where the number that takes in every code passed is 0, each of them is. Assumes nothing.
use Prim.Native.Nat.{ℕ, ◌<◌}
use mathlib.Core.Path.{◌≡◌}
use lib.ListN.{get_or}
use Rattle.lamp_tests.proofs.rows.none_known.Given as goal

abbrev pub invariant-loop-code : goal.invariant-loop-code
invariant-loop-code l = l.any ≡ 0 → (j : ℕ) → j < l.code-index → get_or l.codes j 0 ≡ 0
