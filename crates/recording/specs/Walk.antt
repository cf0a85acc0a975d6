-- Records from the front, one after the other: where each starts, its event, and how they end.
use Rattle.std.specs.Prelude.{ℕ, zero, suc, ◌+◌, List, [], ◌∷◌, length, drop, Result, Ok, Err}
use Rattle.terms.specs.declared.Event.{Event}
use Rattle.terms.specs.declared.Event.TheVariants.{Power, Falls, ByteIn, Rises, Gap, Unfinished, Keys, Switches, ByteOut}
use Rattle.terms.specs.declared.Part.{Part}
use Rattle.terms.specs.declared.Place.{Place}
use Rattle.recording.specs.declared.Refusal.{Refusal}
use Rattle.recording.specs.declared.Stop.{Stop}
use Rattle.recording.specs.Record.{front, place_within, Read}

-- Done at the end; or refused at the place that the refusal points at; or a record at a place, and what follows it.
pub data Walk : Type 0 where
  done : Walk
  stops : Refusal → ℕ → Walk
  next : ℕ → Event → Walk → Walk

-- What the record at the place `at`, whose first byte is `kind`, comes to: its event, and `behind` what follows the record's
-- bytes; or its refusal, where that points.
abbrev pub step : (at kind : ℕ) (behind : ℕ → Walk) → Read → Walk
step at kind behind (Ok it) = next at it.event (behind it.length)
step at kind behind (Err r) = stops r (at + place_within r kind)

-- At most `steps` records, from the byte at the place `at` on.
abbrev pub walk : (steps : ℕ) → Part → (at : ℕ) → List ℕ → Walk
walk zero p at l = done
walk (suc n) p at [] = done
walk (suc n) p at (b ∷ l) = step at b (λ m. walk n p (at + m) (drop m (b ∷ l))) (front p (b ∷ l))

-- A recording has no more records than bytes.
abbrev pub walked : Part → List ℕ → Walk
walked p l = walk (length l) p 0 l

-- The events of the records.
abbrev pub events : Walk → List Event
events done = []
events (stops r at) = []
events (next at e w) = e ∷ events w

-- One thing for a gap, another for any other event.
abbrev pub on_gap : Event → ℕ → ℕ → ℕ
on_gap Power x y = y
on_gap Falls x y = y
on_gap (ByteIn b) x y = y
on_gap Rises x y = y
on_gap Gap x y = x
on_gap (Unfinished n) x y = y
on_gap (Keys k0 k1 k2 k3) x y = y
on_gap (Switches v) x y = y
on_gap ByteOut x y = y

-- How a walk ends, as code answers it: done, or stopped by a refusal where that points.
abbrev pub Ending : Type 0
Ending = Result Unit Stop

abbrev pub stop_of : Refusal → Place → Stop
stop_of r at = record { refusal = r; at = at }

abbrev pub end_of : Walk → Ending
end_of done = Ok tt
end_of (stops r at) = Err (stop_of r (record { 0 = at }))
end_of (next at e w) = end_of w

-- The place behind the last gap record, or `from` where there is none. A body byte 05 is no record.
abbrev pub behind_gap : ℕ → Walk → ℕ
behind_gap from done = from
behind_gap from (stops r at) = from
behind_gap from (next at e w) = behind_gap (on_gap e (at + 1) from) w
