-- What follows from the tests of a packet: each law goes through them in their order.
use Rattle.std.specs.Prelude.{ℕ, Option, None, Some}
use Rattle.rules.specs.Where.{where_not, where_map}
use Rattle.answers.specs.Answer.{Answer, number, place}
use Rattle.account_tests.specs.Tests.{Fits, Admitted}

module _ (total n : ℕ) (R : ℕ → ℕ → Type 0) {P : Type 0} where
  pub admitted_map : (S : ℕ → ℕ → Type 0) {Q : Type 0} → ((m at : ℕ) → R m at → S m at) → (P → Q) → (k : Option Answer) → Admitted k total n R P
      → Admitted k total n S Q
  admitted_map S f h None t = where_map h (f 4 0) t
  admitted_map S f h (Some a) r = f (number a) (place a) r

  -- Refused by none of them.
  pub admitted_passed : ((m at : ℕ) → R m at → ⊥) → (k : Option Answer) → Admitted k total n R P → Fits total n × P
  admitted_passed never None t = where_not (never 4 0) t
  admitted_passed never (Some a) r = absurd (never (number a) (place a) r)
