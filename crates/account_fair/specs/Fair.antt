-- Which accounts are fair (M-100): what is asked of a good state, but for its knowledge.
use Rattle.std.specs.Prelude.{ℕ, ◌≤◌, ◌≡◌, Bool, true, ◌||◌, eqb, length, Option, None, Some}
use Rattle.terms.specs.declared.Part.{Part}
use Rattle.recording.specs.Start.{CutOff}
use Rattle.answers.specs.Answer.{Answer, number}
use Rattle.account.specs.declared.Account.{Account}
use Rattle.account.specs.Bytes.{bytes_of}

-- Only 5, 6 and 8 stand.
abbrev pub stands : ℕ → Bool
stands n = eqb n 5 || eqb n 6 || eqb n 8

abbrev pub MayStand : Option Answer → Type 0
MayStand None = Unit
MayStand (Some a) = stands (number a) ≡ true

-- The unfinished bytes are the cut_off start of a record of this part, and counted in the total; and the kept refusal is
-- one that stands. Its place is not tested.
pub record Fair (p : Part) (a : Account) : Type 0 where
  pub cut_off : CutOff p (bytes_of a.unfinished)
  pub counted : length (bytes_of a.unfinished) ≤ a.total
  pub told : MayStand a.kept
