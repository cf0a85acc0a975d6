-- A knowledge as a function from facts to what is known of them.
use Rattle.std.specs.Prelude.{ℕ, List, get_or}
use Rattle.rules.specs.Rule.{Rule}
use Rattle.knowing.specs.Standing as Of
use Rattle.knowing.specs.Ways as Ways
use Rattle.segment.specs.declared.Sizes.{Sizes}
use Rattle.segment.specs.Fact.{Fact, same?, range, cell_bits, led_bits, cell, address, data_mode, stepping, mode, dimming, display, led, key, switches, read_count, position}
use Rattle.fact.specs.View.{stands, standing}
use Rattle.fact.specs.declared.Single.{Single}
use Rattle.key_codes.specs.View.{coded}
use Rattle.lamps.specs.View as Lamps
use Rattle.lamps.specs.View.{shown}
use Rattle.segment.specs.declared.Pointer.{Pointer}
use Rattle.segment.specs.Value.{pointer}
use Rattle.segment_knowledge.specs.declared.Knowledge.{Knowledge}
use Rattle.segment_knowledge.specs.declared.Control.{Control}

-- What is known of the address: the number of a cell, or that it is invalid, or nothing.
abbrev pub points : Single Pointer → Of.Standing
points = standing pointer

-- The facts beside the cells, and what is known of each bit of a cell.
abbrev pub cview : (ℕ → ℕ → Of.Standing) → Control → Fact → Of.Standing
cview cells c (cell i k) = cells i k
cview cells c address = points c.address
cview cells c data_mode = stands c.«data»
cview cells c stepping = stands c.stepping
cview cells c mode = stands c.mode
cview cells c dimming = stands c.dimming
cview cells c display = stands c.display
cview cells c (led k) = shown led_bits c.led k
cview cells c (key i) = coded (get_or c.keys i 256)
cview cells c switches = stands c.switches
cview cells c read_count = stands c.count
cview cells c position = stands c.position

-- What is known of the cells of a row.
abbrev pub held : List ℕ → ℕ → ℕ → Of.Standing
held = Lamps.held cell_bits

abbrev pub kview : Knowledge → Fact → Of.Standing
kview k = cview (held k.cells) k.control

-- The knowledge r is what the rule makes of k, fact by fact.
abbrev pub Knows : Sizes → Rule Fact Fact → Knowledge → Knowledge → Type 0
Knows s = Ways.Knows kview kview same? (range s)
