-- Paper 01's number and place for each answer of a call that reads a recording.
use Rattle.std.specs.Prelude.{ℕ, ◌≡◌, Result, Ok, Err}
use Rattle.std.proofs.Common.{ap}
use Rattle.terms.specs.declared.Place.{Place}
use Rattle.recording.specs.declared.Refusal.{Refusal}
use Rattle.recording.specs.declared.Refusal.TheVariants as Record
use Rattle.recording.specs.Record as Records
use Rattle.answers.specs.declared.Refused.{Refused}
use Rattle.answers.specs.declared.Refused.TheVariants.{NoPart, OutOfRange, BeyondEnd, TooLong, Unlisted, Foreign, CutShort, Forbidden}

-- Done, with the recording's length, or why not.
abbrev pub Answer : Type 0
Answer = Result Place Refused

abbrev pub number : Answer → ℕ
number (Ok at) = 0
number (Err (NoPart at)) = 1
number (Err (OutOfRange at)) = 2
number (Err (BeyondEnd at)) = 3
number (Err (TooLong at)) = 4
number (Err (Unlisted at)) = 5
number (Err (Foreign at)) = 6
number (Err (CutShort at)) = 7
number (Err (Forbidden at)) = 8

abbrev pub place : Answer → ℕ
place (Ok at) = at.0
place (Err (NoPart at)) = at.0
place (Err (OutOfRange at)) = at.0
place (Err (BeyondEnd at)) = at.0
place (Err (TooLong at)) = at.0
place (Err (Unlisted at)) = at.0
place (Err (Foreign at)) = at.0
place (Err (CutShort at)) = at.0
place (Err (Forbidden at)) = at.0

-- The answer to a refusal, at the place that it points at, and that its number is the refusal's.
abbrev pub refused_as : Refusal → Place → Answer
refused_as Record.Unlisted at = Err (Unlisted at)
refused_as Record.Foreign at = Err (Foreign at)
refused_as Record.CutShort at = Err (CutShort at)
refused_as Record.Forbidden at = Err (Forbidden at)

pub refused_as_lem : (x : Refusal) (at : Place) (r : Answer) → r ≡ refused_as x at → (number r ≡ Records.number x) × (place r ≡ at.0)
refused_as_lem Record.Unlisted at r e = (ap number e, ap place e)
refused_as_lem Record.Foreign at r e = (ap number e, ap place e)
refused_as_lem Record.CutShort at r e = (ap number e, ap place e)
refused_as_lem Record.Forbidden at r e = (ap number e, ap place e)
