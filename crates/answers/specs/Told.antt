-- What is said of an answer: its number and its place.
use Rattle.std.specs.Prelude.{ℕ, ◌≡◌, Result, Ok, Err}
use Rattle.answers.specs.Answer.{Answer, number, place}

-- The number n, at a place.
pub record Answers (a : Answer) (n at : ℕ) : Type 0 where
  pub numbered : number a ≡ n
  pub placed : place a ≡ at

-- What tests that come before any record give: the records are looked at next, or the call is answered so.
abbrev pub Trial : Type 0
Trial = Result Unit Answer

-- A trial that refuses so, and one that passes.
abbrev pub RefusedWith : Trial → ℕ → ℕ → Type 0
RefusedWith (Ok _) n at = ⊥
RefusedWith (Err a) n at = Answers a n at

abbrev pub Passes : Trial → Type 0
Passes (Ok _) = Unit
Passes (Err a) = ⊥
