-- The byte to be sent next (paper 01; 001, 002).
use Rattle.std.specs.Prelude.{ℕ, ltb, eqb, ◌≡◌}
use Rattle.rules.specs.Choice.{whether, of4}
use Rattle.rules.specs.Rule.{Form, value, copy, Rule, gives, look}
use Rattle.rules.specs.Rule.{becomes, run}
use Rattle.segment.specs.declared.Segment.{Segment}
use Rattle.segment.specs.declared.Sent.{Sent}
use Rattle.segment.specs.declared.Sent.TheVariants.{Byte, NotDriven}
use Rattle.segment.specs.declared.Sizes.{Sizes}
use Rattle.segment.specs.View.{view}
use Rattle.segment.specs.Fact.{Fact, data_mode, key, switches, read_count, position}

-- Not driven is one more value than a byte has (H).
abbrev pub not_driven : ℕ
not_driven = 256

abbrev pub says : Form Fact → Rule Fact (Unit {0})
says x = gives (λ _. x)

-- Read keys, by the read count: key byte number "read count", while there is one.
abbrev pub key_sent : Sizes → ℕ → Rule Fact (Unit {0})
key_sent s n = whether (ltb n s.keys) (says (copy (key n))) (says (value not_driven))

-- Read switches, by the read count: the switches at count 0.
abbrev pub switches_sent : ℕ → Rule Fact (Unit {0})
switches_sent n = whether (eqb n 0) (says (copy switches)) (says (value not_driven))

-- Open, by the data mode.
abbrev pub open_sent : Sizes → ℕ → Rule Fact (Unit {0})
open_sent s =
    of4 (says (value not_driven)) (says (value not_driven)) (look read_count (key_sent s)) (look read_count switches_sent)

-- By the position.
abbrev pub sent_at : Sizes → ℕ → Rule Fact (Unit {0})
sent_at s = of4 (says (value not_driven)) (says (value not_driven)) (look data_mode (open_sent s)) (says (value not_driven))

abbrev pub sent : Sizes → Rule Fact (Unit {0})
sent s = look position (sent_at s)

-- The answer as a number.
abbrev pub sent_number : Sent → ℕ
sent_number (Byte b) = b
sent_number NotDriven = not_driven

-- The answer r is what the rule says of the chip c.
abbrev pub Sends : Rule Fact (Unit {0}) → Segment → Sent → Type 0
Sends rule c r = run rule (view c) tt ≡ becomes (sent_number r)
