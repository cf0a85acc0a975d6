-- The answer where the records of a recording end, and that a walk stops before the end of what it walks over.
use Rattle.std.specs.Prelude.{ℕ, ◌+◌, ◌<◌, ◌≤◌, ◌≡◌, List, length, drop, Ok, Err}
use Rattle.std.proofs.Common.{arith, sym, length-drop}
use Rattle.terms.specs.declared.Part.{Part}
use Rattle.recording.specs.Walk.{walked, end_of, Ending}
use Rattle.recording.specs.Points.{stops_within}
use Rattle.answers.specs.Answer.{Answer, refused_as}

-- What a refusal points at stands before the recording's end.
abbrev pub Inside : Ending → (from length : ℕ) → Type 0
Inside (Ok u) from length = Unit
Inside (Err s) from length = from + s.at.0 < length

-- Number 0 at the recording's length, or the refusal's number at the place that it points at (`recording/Walk.walk`, by
-- `recording/Record.place_within`), counted from the recording's front; the records began at the place `from`.
abbrev pub ended_as : Ending → (from length : ℕ) → Answer
ended_as (Ok u) from length = Ok (record { 0 = length })
ended_as (Err s) from length = refused_as s.refusal (record { 0 = from + s.at.0 })

pub inside : (p : Part) (l : List ℕ) (from : ℕ) (e : Ending) → from ≤ length l → e ≡ end_of (walked p (drop from l)) → Inside e from (length l)
inside p l from (Ok u) h q = tt
inside p l from (Err s) h q = omega (arith, stops_within p (drop from l) s.refusal s.at (sym q), length-drop from l)
