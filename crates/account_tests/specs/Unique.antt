-- Two answers to one closing are one: number and place fix an answer.
use Rattle.std.specs.Prelude.{◌≡◌, List, [], ◌∷◌, ℕ, Option, None, Some}
use Rattle.std.proofs.Common.{sym, ◌∙◌}
use Rattle.answers.specs.Answer.{Answer, number, place}
use Rattle.answers.specs.Told.{Answers}
use Rattle.answers.specs.Unique.{same_answer}
use Rattle.account_tests.specs.Tests.{ByKept}
use Rattle.account_tests.specs.Close.{ByLeft}

pub one_answer : (n at : ℕ) (a c : Answer) → Answers a n at → Answers c n at → a ≡ c
one_answer n at a c h g = same_answer a c (h.numbered ∙ sym g.numbered) (h.placed ∙ sym g.placed)

one_kept : (k : Option Answer) (n at : ℕ) (a c : Answer) → ByKept k (Answers a) (Answers a n at) → ByKept k (Answers c) (Answers c n at) → a ≡ c
one_kept None n at a c h g = one_answer n at a c h g
one_kept (Some b) n at a c h g = one_answer (number b) (place b) a c h g

pub one_closing : (u : List ℕ) (first total : ℕ) (k : Option Answer) (a c : Answer) → ByLeft u first total k a → ByLeft u first total k c → a ≡ c
one_closing [] first total k a c h g = one_kept k 0 total a c h g
one_closing (b ∷ l) first total k a c h g = one_answer _ _ a c h g
