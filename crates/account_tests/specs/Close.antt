-- Closing (M-100): number 7 at the place that it points at in an unfinished record, which is its first byte; otherwise 0 at
-- the total, or the standing refusal.
use Rattle.std.specs.Prelude.{ℕ, ◌+◌, List, [], ◌∷◌, Option}
use Rattle.recording.specs.Record.{number, place_within}
use Rattle.recording.specs.declared.Refusal.TheVariants.{CutShort}
use Rattle.answers.specs.Answer.{Answer}
use Rattle.answers.specs.Told.{Answers}
use Rattle.account.specs.declared.Account.{Account}
use Rattle.account.specs.Bytes.{bytes_of, first_place}
use Rattle.account_tests.specs.Tests.{ByKept}

-- By what is unfinished, whose first byte stands at the place `first`.
abbrev pub ByLeft : List ℕ → (first total : ℕ) → Option Answer → Answer → Type 0
ByLeft [] first total k a = ByKept k (Answers a) (Answers a 0 total)
ByLeft (b ∷ l) first total k a = Answers a (number CutShort) (first + place_within CutShort b)

abbrev pub Ends : Account → Answer → Type 0
Ends s a = ByLeft (bytes_of s.unfinished) (first_place s.unfinished s.total) s.total s.kept a
