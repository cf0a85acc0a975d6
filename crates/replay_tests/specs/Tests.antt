-- Tests 2, 4 and 3 of a recording of n bytes from a start place, in that order.
use Rattle.std.specs.Prelude.{ℕ, ◌≤◌, Result, Ok, Err}
use Rattle.rules.specs.Where.{Where}
use Rattle.answers.specs.declared.Refused.{Refused}
use Rattle.answers.specs.Told.{Trial, RefusedWith, Passes}

-- Each exactly then: R with the number of the first that fails, P where none does. `good` says that every known value is in
-- range.
abbrev pub Tested : Type 0 → ℕ → ℕ → (ℕ → Type 0) → Type 0 → Type 0
Tested good n start R P = Where good (Where (n ≤ 65535) (Where (start ≤ n) P (R 3)) (R 4)) (R 2)

-- The trial of tests that have no other answer than a refusal of their own.
abbrev pub trial : Result Unit Refused → Trial
trial (Ok _) = Ok tt
trial (Err x) = Err (Err x)

-- What a trial says, at place 0.
abbrev pub Tries : Type 0 → ℕ → ℕ → Result Unit Refused → Type 0
Tries good n start t = Tested good n start (λ m. RefusedWith (trial t) m 0) (Passes (trial t))
