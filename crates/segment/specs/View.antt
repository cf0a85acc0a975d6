-- A chip as a function from facts to numbers, and which facts a move's answer says are anything.
use Rattle.std.specs.Prelude.{ℕ, Bool, get_or}
use Rattle.segment.specs.declared.Segment.{Segment}
use Rattle.segment.specs.declared.Anything.{Anything}
use Rattle.segment.specs.declared.Moved.{Moved}
use Rattle.rules.specs.Rule.{Rule, Moves}
use Rattle.rules.specs.Digit.{lamp, narrow}
use Rattle.segment.specs.Fact.{Fact, led_bits, cell, address, data_mode, stepping, mode, dimming, display, led, key, switches, read_count, position}
use Rattle.segment.specs.Value.{pointer, data_mode_of, steps, shows, at_position}

abbrev pub view : Segment → Fact → ℕ
view c (cell i k) = lamp k (get_or c.cells i 0)
view c address = pointer c.address
view c data_mode = data_mode_of c.«data»
view c stepping = steps c.stepping
view c mode = c.mode
view c dimming = c.dimming
view c display = shows c.display
view c (led k) = narrow led_bits k c.led
view c (key i) = get_or c.keys i 0
view c switches = c.switches
view c read_count = c.count
view c position = at_position c.position

abbrev pub covers : Anything → Fact → Bool
covers a (cell i k) = a.memory
covers a address = a.settings
covers a data_mode = a.«data»
covers a stepping = a.settings
covers a mode = a.settings
covers a dimming = a.settings
covers a display = a.settings
covers a (led k) = a.settings
covers a (key i) = a.inputs
covers a switches = a.inputs
covers a read_count = a.settings
covers a position = a.position

-- The answer m is what the rule makes of the chip c, fact by fact.
abbrev pub By : Rule Fact Fact → Segment → Moved → Type 0
By rule c m = Moves rule (view c) (view m.chip) (covers m.any)
