-- The answer to one event: paper 01's number and place.
use Rattle.std.specs.Prelude.{ℕ, ◌≡◌, Result, Ok, Err}
use Rattle.knowing.specs.Standing.{Sound}
use Rattle.terms.specs.declared.Event.{Event}
use Rattle.terms.specs.declared.Part.{Part}
use Rattle.terms.specs.Event.{recorded}
use Rattle.parts.specs.Facts.{range}
use Rattle.recording.specs.Record as Record
use Rattle.recording.specs.Record.{front, Read}
use Rattle.panel.specs.declared.Panel.{Panel}
use Rattle.rules.specs.Where.{Where}
use Rattle.panel.specs.View.{known_of}
use Rattle.carrying.specs.declared.carried.Uncarried.{Uncarried}
use Rattle.carrying.specs.declared.carried.Uncarried.TheVariants as U
use Rattle.hearing_answer.specs.declared.Refused.{Refused}
use Rattle.hearing_answer.specs.declared.Refused.TheVariants.{NoPart, OutOfRange, Foreign, Forbidden}

-- Done, or refused.
abbrev pub Answer : Type 0
Answer = Result Unit Refused

-- Paper 01's number for each case, and its place: one event is no recording, so that there is no length to give, and
-- every place is 0.
abbrev pub number : Answer → ℕ
number (Ok done) = 0
number (Err (NoPart at)) = 1
number (Err (OutOfRange at)) = 2
number (Err (Foreign at)) = 6
number (Err (Forbidden at)) = 8

abbrev pub place : Answer → ℕ
place (Ok done) = 0
place (Err (NoPart at)) = at.0
place (Err (OutOfRange at)) = at.0
place (Err (Foreign at)) = at.0
place (Err (Forbidden at)) = at.0

-- What no recording can carry, refused.
abbrev pub refused_as : Uncarried → Refused
refused_as U.Foreign = Foreign (record { 0 = 0 })
refused_as U.Forbidden = Forbidden (record { 0 = 0 })

-- The number n, at place 0.
pub record Numbered (n : ℕ) (a : Answer) : Type 0 where
  pub numbered : number a ≡ n
  pub placed : place a ≡ 0

-- The number that a record gets as it is read: 0 where it is one, else its refusal's.
abbrev pub record_number : Read → ℕ
record_number (Ok it) = 0
record_number (Err x) = Record.number x

-- An event is tested as its own record is.
abbrev pub event_number : Part → Event → ℕ
event_number p e = record_number (front p (recorded e))

-- P with the number that an event gets: 2 exactly where a known value is outside its fact's range; else its own.
abbrev pub Answered : Part → Event → Panel → (ℕ → Type 0) → Type 0
Answered p e k P = Where (Sound (range p) (known_of p k)) (P (event_number p e)) (P 2)

abbrev pub Answers : Part → Event → Panel → Answer → Type 0
Answers p e k a = Answered p e k (λ n. Numbered n a)
