-- The tests that come before a packet's records, in the paper's order: 2, the standing refusal, 4.
use Rattle.std.specs.Prelude.{ℕ}
use Rattle.rules.specs.Where.{Where}
use Rattle.terms.specs.declared.Part.{Part}
use Rattle.answers.specs.Told.{Trial, RefusedWith, Passes}
use Rattle.account_tests.specs.Tests.{Admitted}
use Rattle.feed.specs.declared.Feed.{Feed}
use Rattle.feed.specs.Feed.{Good}

-- R with the number and place of the first test that refuses, P where none does.
abbrev pub Tested : Part → Feed → ℕ → (ℕ → ℕ → Type 0) → Type 0 → Type 0
Tested p s n R P = Where (Good p s) (Admitted s.account.kept s.account.total n R P) (R 2 0)

abbrev pub Tries : Part → Feed → ℕ → Trial → Type 0
Tries p s n t = Tested p s n (RefusedWith t) (Passes t)
