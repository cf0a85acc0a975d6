-- The recording of a replay, as demand 3 speaks of it.
use Rattle.std.specs.Prelude.{ℕ, ◌<◌, List, map, get_or, drop}
use Rattle.rules.specs.Rule.{Rule}
use Rattle.terms.specs.declared.Event.{Event}
use Rattle.terms.specs.declared.Part.{Part}
use Rattle.recording.specs.Walk.{walked, events}
use Rattle.parts.specs.Facts.{Fact, move}

-- Every element is a byte. This holds of every recording that code is lent.
abbrev pub AllBytes : List ℕ → Type 0
AllBytes l = (i : ℕ) → get_or l i 0 < 256

-- The events of the records from the start place on, and their moves.
abbrev pub events_from : Part → ℕ → List ℕ → List Event
events_from p start l = events (walked p (drop start l))

abbrev pub moves_from : (p : Part) → ℕ → List ℕ → List (Rule (Fact p) (Fact p))
moves_from p start l = map (move p) (events_from p start l)
