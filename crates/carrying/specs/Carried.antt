-- What the answer for an event says of its record.
use Rattle.std.specs.Prelude.{Bool, length, Result, Ok, Err}
use Rattle.rules.specs.Choice.{whether}
use Rattle.terms.specs.declared.Event.{Event}
use Rattle.terms.specs.Event.{recorded}
use Rattle.carrying.specs.declared.carried.Uncarried.{Uncarried}
use Rattle.carrying.specs.declared.carried.Uncarried.TheVariants as U
use Rattle.recording.specs.Record.{Read, record_of}
use Rattle.recording.specs.declared.Refusal.TheVariants.{Foreign, Forbidden}

-- The event's record is read as the event, whole, or it is refused.
abbrev pub read_as : Event → Result Unit Uncarried → Read
read_as e (Ok done) = Ok (record_of e (length (recorded e)))
read_as e (Err U.Foreign) = Err Foreign
read_as e (Err U.Forbidden) = Err Forbidden

-- By the tests of 6 and 8, in that order.
abbrev pub tested_as : Bool → Bool → Result Unit Uncarried
tested_as belongs allowed = whether belongs (whether allowed (Ok tt) (Err U.Forbidden)) (Err U.Foreign)
