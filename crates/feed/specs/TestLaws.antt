-- What follows from the tests of a packet: each law goes through the conditions in their order.
use Rattle.std.specs.Prelude.{ℕ}
use Rattle.rules.specs.Where.{where_not, where_map}
use Rattle.terms.specs.declared.Part.{Part}
use Rattle.account_tests.specs.Tests.{Fits}
use Rattle.account_tests.specs.TestLaws.{admitted_map, admitted_passed}
use Rattle.feed.specs.declared.Feed.{Feed}
use Rattle.feed.specs.Feed.{Good}
use Rattle.feed.specs.Tests.{Tested}

module _ (p : Part) (s : Feed) (n : ℕ) (R : ℕ → ℕ → Type 0) {P : Type 0} where
  pub tested_map : (S : ℕ → ℕ → Type 0) {Q : Type 0} → ((m at : ℕ) → R m at → S m at) → (P → Q) → Tested p s n R P → Tested p s n S Q
  tested_map S f h t = where_map (admitted_map s.account.total n R S f h s.account.kept) (f 2 0) t

  -- Refused by none of them.
  pub tests_passed : ((m at : ℕ) → R m at → ⊥) → Tested p s n R P → Good p s × Fits s.account.total n × P
  tests_passed never t =
      let (good, rest) = where_not (never 2 0) t in
      let (fits, passed) = admitted_passed s.account.total n R never s.account.kept rest in
      (good, fits, passed)
