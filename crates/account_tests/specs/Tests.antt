-- The tests that follow test 2 and come before a packet's records, in the paper's order: the standing refusal, 4.
use Rattle.std.specs.Prelude.{ℕ, ◌+◌, ◌≤◌, Option, None, Some}
use Rattle.rules.specs.Where.{Where}
use Rattle.answers.specs.Answer.{Answer, number, place}
use Rattle.account.specs.declared.Account.{Account}
use Rattle.answers.specs.Told.{Trial, RefusedWith, Passes}

-- A packet of n bytes is not too long, and leaves the total within its limit.
pub record Fits (total n : ℕ) : Type 0 where
  pub packet : n ≤ 65535
  pub whole : total + n ≤ 4294967295

-- By the standing refusal: R with its number and place, P where there is none.
abbrev pub ByKept : Option Answer → (ℕ → ℕ → Type 0) → Type 0 → Type 0
ByKept None R P = P
ByKept (Some a) R P = R (number a) (place a)

-- The last test: 4.
abbrev pub Fitted : ℕ → ℕ → (ℕ → ℕ → Type 0) → Type 0 → Type 0
Fitted total n R P = Where (Fits total n) P (R 4 0)

-- R with the number and place of the first test that refuses, P where none does.
abbrev pub Admitted : Option Answer → ℕ → ℕ → (ℕ → ℕ → Type 0) → Type 0 → Type 0
Admitted k total n R P = ByKept k R (Fitted total n R P)

abbrev pub Admits : Account → ℕ → Trial → Type 0
Admits a n t = Admitted a.kept a.total n (RefusedWith t) (Passes t)

abbrev pub Fitting : ℕ → ℕ → Trial → Type 0
Fitting total n t = Fitted total n (RefusedWith t) (Passes t)
