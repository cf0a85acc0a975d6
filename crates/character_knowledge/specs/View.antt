-- A knowledge as a function from facts to what is known of them.
use Rattle.std.specs.Prelude.{ℕ}
use Rattle.rules.specs.Rule.{Rule}
use Rattle.knowing.specs.Standing as Of
use Rattle.knowing.specs.Ways as Ways
use Rattle.fact.specs.View.{stands, standing}
use Rattle.lamps.specs.View.{shown, held}
use Rattle.character.specs.Fact.{Fact, same?, range, text_bits, column_bits, pair_bits, port_bits, dcram, cgram, adram, dcram_at, cgram_at, adram_at, column, port, duty, digits, lights, position}
use Rattle.fact.specs.declared.Single.{Single}
use Rattle.terms.specs.declared.Address.{Address}
use Rattle.character_knowledge.specs.declared.Control.{Control}
use Rattle.character_knowledge.specs.declared.Knowledge.{Knowledge}

-- What is known of an address: the number of its cell, or nothing.
abbrev pub points : Single Address → Of.Standing
points = standing (λ a. a.0)

-- What is known of each bit of each cell of the three RAMs.
pub record Memory : Type 0 where
  pub dcram : ℕ → ℕ → Of.Standing
  pub cgram : ℕ → ℕ → Of.Standing
  pub adram : ℕ → ℕ → Of.Standing

-- Nothing is known of the memory.
abbrev pub blank : Memory
blank = record { dcram = λ i k. Of.unknown; cgram = λ i k. Of.unknown; adram = λ i k. Of.unknown }

-- The facts beside the memory, and what is known of that.
abbrev pub cview : Memory → Control → Fact → Of.Standing
cview m c (dcram i k) = m.dcram i k
cview m c (cgram i k) = m.cgram i k
cview m c (adram i k) = m.adram i k
cview m c dcram_at = points c.dcram_at
cview m c cgram_at = points c.cgram_at
cview m c adram_at = points c.adram_at
cview m c column = stands c.column
cview m c (port k) = shown port_bits c.port k
cview m c duty = stands c.duty
cview m c digits = stands c.digits
cview m c lights = stands c.lights
cview m c position = stands c.position

abbrev pub memory : Knowledge → Memory
memory k = record { dcram = held text_bits k.dcram; cgram = held column_bits k.cgram; adram = held pair_bits k.adram }

abbrev pub kview : Knowledge → Fact → Of.Standing
kview k = cview (memory k) k.control

-- The knowledge r is what the rule makes of k, fact by fact.
abbrev pub Knows : Rule Fact Fact → Knowledge → Knowledge → Type 0
Knows = Ways.Knows kview kview same? range
