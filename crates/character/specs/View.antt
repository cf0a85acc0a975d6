-- A chip as a function from facts to numbers, and which facts a move's answer says are anything.
use Rattle.std.specs.Prelude.{ℕ, Bool, get_or}
use Rattle.rules.specs.Rule.{Rule, Moves}
use Rattle.rules.specs.Digit.{lamp, narrow}
use Rattle.character.specs.declared.Character.{Character}
use Rattle.character.specs.declared.Anything.{Anything}
use Rattle.character.specs.declared.Moved.{Moved}
use Rattle.character.specs.Fact.{Fact, column_bits, pair_bits, port_bits, dcram, cgram, adram, dcram_at, cgram_at, adram_at, column, port, duty, digits, lights, position}
use Rattle.character.specs.Value.{lit, at_position}

abbrev pub view : Character → Fact → ℕ
view c (dcram i k) = lamp k (get_or c.dcram i 0)
view c (cgram i k) = narrow column_bits k (get_or c.cgram i 0)
view c (adram i k) = narrow pair_bits k (get_or c.adram i 0)
view c dcram_at = c.dcram_at.0
view c cgram_at = c.cgram_at.0
view c adram_at = c.adram_at.0
view c column = c.column
view c (port k) = narrow port_bits k c.port
view c duty = c.duty
view c digits = c.digits
view c lights = lit c.lights
view c position = at_position c.position

abbrev pub covers : Anything → Fact → Bool
covers a (dcram i k) = a.memory
covers a (cgram i k) = a.memory
covers a (adram i k) = a.memory
covers a dcram_at = a.settings
covers a cgram_at = a.settings
covers a adram_at = a.settings
covers a column = a.settings
covers a (port k) = a.settings
covers a duty = a.settings
covers a digits = a.settings
covers a lights = a.settings
covers a position = a.position

-- The answer m is what the rule makes of the chip c, fact by fact.
abbrev pub By : Rule Fact Fact → Character → Moved → Type 0
By rule c m = Moves rule (view c) (view m.chip) (covers m.any)
