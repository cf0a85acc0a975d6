-- What follows from the tests: each law goes through the three conditions in their order.
use Rattle.std.specs.Prelude.{ℕ, ◌≤◌}
use Rattle.std.proofs.Common.{arith}
use Rattle.rules.specs.Where.{where_good, where_not, where_map, where_both}
use Rattle.replay_tests.specs.Tests.{Tested}

module _ {G : Type 0} {n start : ℕ} (R : ℕ → Type 0) {P : Type 0} where
  pub tested_map : (S : ℕ → Type 0) {Q : Type 0} → ((m : ℕ) → R m → S m) → (P → Q) → Tested G n start R P → Tested G n start S Q
  tested_map S f h t = where_map (where_map (where_map h (f 3)) (f 4)) (f 2) t

  -- Refused by none of them.
  pub tests_passed : ((m : ℕ) → 2 ≤ m → m ≤ 4 → R m → ⊥) → Tested G n start R P → G × (n ≤ 65535) × (start ≤ n) × P
  tests_passed never t =
      let (g, two) = where_not (never 2 (omega arith) (omega arith)) t in
      let (short, four) = where_not (never 4 (omega arith) (omega arith)) two in
      let (within, p) = where_not (never 3 (omega arith) (omega arith)) four in
      (g, short, within, p)

  -- Behind the tests.
  pub past_tests : G → n ≤ 65535 → start ≤ n → Tested G n start R P → P
  past_tests g short within t = where_good within (where_good short (where_good g t))

  -- Two that are tested alike go the same way.
  pub tested_both : (S : ℕ → Type 0) {Q X : Type 0} → ((m : ℕ) → R m → S m → X) → (P → Q → X)
      → Tested G n start R P → Tested G n start S Q → X
  tested_both S f h t u = where_both (where_both (where_both h (f 3)) (f 4)) (f 2) t u
