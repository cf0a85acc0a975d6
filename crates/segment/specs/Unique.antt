-- Two answers that meet the contract of a move are equal, and so are two that meet that of the byte sent next. The argument: the contract
-- fixes the value of every fact, and that it is anything or not; each value of a chip is that of a fact.
use Rattle.std.specs.Prelude.{ℕ, zero, suc, ◌≡◌, refl, length, get_or, ◌<◌}
use Rattle.std.proofs.Common.{sym, ◌∙◌, arith}
use Rattle.rules.specs.Digit.{same_lamps, same_narrow}
use Rattle.rules.specs.Choice.{of2, of4}
use Rattle.rules.specs.Rule.{Rule, becomes}
use Rattle.rules.specs.Unique.{by_number, same_list, same_value, same_any}
use Rattle.segment.specs.declared.Sent.{Sent}
use Rattle.segment.specs.declared.Sent.TheVariants.{Byte, NotDriven}
use Rattle.segment.specs.declared.Segment.{Segment}
use Rattle.segment.specs.declared.Anything.{Anything}
use Rattle.segment.specs.declared.Moved.{Moved}
use Rattle.segment.specs.declared.Pointer.{Pointer}
use Rattle.segment.specs.declared.Pointer.TheVariants.{At, Invalid}
use Rattle.segment.specs.declared.Data.{Data}
use Rattle.segment.specs.declared.Data.TheVariants.{WriteDisplay, WriteLed, ReadKeys, ReadSwitches}
use Rattle.segment.specs.declared.Stepping.{Stepping}
use Rattle.segment.specs.declared.Stepping.TheVariants.{Increment, Fixed}
use Rattle.segment.specs.declared.Display.{Display}
use Rattle.segment.specs.declared.Display.TheVariants.{Off, On}
use Rattle.segment.specs.declared.Position.{Position}
use Rattle.segment.specs.declared.Position.TheVariants.{Idle, First, Open, Ignoring}
use Rattle.segment.specs.Fact.{Fact, cell, address, data_mode, stepping, mode, dimming, display, led, key, switches, read_count, position}
use Rattle.segment.specs.Value.{pointer, data_mode_of, steps, shows, at_position}
use Rattle.segment.specs.View.{view, covers, By}
use Rattle.segment.specs.Sent.{Sends, sent_number}

-- The lists are as long as the arrays of the type, and the cells are bytes. This holds of every chip that code hands over.
pub record Shaped (c : Segment) : Type 0 where
  pub cells : length c.cells ≡ 36
  pub bytes : (i : ℕ) → get_or c.cells i 0 < 256
  pub keys : length c.keys ≡ 4

abbrev to_pointer : ℕ → Pointer
to_pointer zero = Invalid
to_pointer (suc n) = At (record { 0 = n })

read_pointer : (a : Pointer) → to_pointer (pointer a) ≡ a
read_pointer (At a) = refl
read_pointer Invalid = refl

read_data : (d : Data) → of4 WriteDisplay WriteLed ReadKeys ReadSwitches (data_mode_of d) ≡ d
read_data WriteDisplay = refl
read_data WriteLed = refl
read_data ReadKeys = refl
read_data ReadSwitches = refl

read_steps : (i : Stepping) → of2 Increment Fixed (steps i) ≡ i
read_steps Increment = refl
read_steps Fixed = refl

read_shows : (o : Display) → of2 Off On (shows o) ≡ o
read_shows Off = refl
read_shows On = refl

read_position : (q : Position) → of4 Idle First Open Ignoring (at_position q) ≡ q
read_position Idle = refl
read_position First = refl
read_position Open = refl
read_position Ignoring = refl

-- Two chips with the same value for every fact are one.
pub same_chip : (a b : Segment) → Shaped a → Shaped b → ((f : Fact) → view a f ≡ view b f) → a ≡ b
same_chip a b sa sb h =
    let cells = same_list 36 a.cells b.cells sa.cells sb.cells (λ i. same_lamps _ _ (sa.bytes i) (sb.bytes i) (λ k. h (cell i k))) in
    let where_to = by_number pointer to_pointer read_pointer a.address b.address (h address) in
    let d = by_number data_mode_of (of4 WriteDisplay WriteLed ReadKeys ReadSwitches) read_data a.«data» b.«data» (h data_mode) in
    let s = by_number steps (of2 Increment Fixed) read_steps a.stepping b.stepping (h stepping) in
    let o = by_number shows (of2 Off On) read_shows a.display b.display (h display) in
    let lights = same_narrow 4 a.led b.led (λ k. h (led k)) in
    let keys = same_list 4 a.keys b.keys sa.keys sb.keys (λ i. h (key i)) in
    let q = by_number at_position (of4 Idle First Open Ignoring) read_position a.position b.position (h position) in
    λ i. record {
      cells = cells i;
      address = where_to i;
      «data» = d i;
      stepping = s i;
      mode = h mode i;
      dimming = h dimming i;
      display = o i;
      led = lights i;
      keys = keys i;
      switches = h switches i;
      count = h read_count i;
      position = q i;
    }

same_anything : (a b : Anything) → ((f : Fact) → covers a f ≡ covers b f) → a ≡ b
same_anything a b h =
    λ i. record {
      memory = h (cell 0 0) i;
      «data» = h data_mode i;
      settings = h address i;
      inputs = h switches i;
      position = h position i;
    }

-- Two answers that are by one rule, of one chip, are one.
pub one_answer : (rule : Rule Fact Fact) (c : Segment) (a b : Moved) → Shaped a.chip → Shaped b.chip → By rule c a → By rule c b → a ≡ b
one_answer rule c a b sa sb ha hb =
    let chips = same_chip a.chip b.chip sa sb (same_value rule (view c) _ _ _ _ ha hb) in
    let anys = same_anything a.any b.any (same_any rule (view c) _ _ _ _ ha hb) in
    λ i. record { chip = chips i; any = anys i }

-- A byte that is sent is a byte.
abbrev pub IsByte : Sent → Type 0
IsByte (Byte b) = b < 256
IsByte NotDriven = Unit

same_sent : (a b : Sent) → IsByte a → IsByte b → sent_number a ≡ sent_number b → a ≡ b
same_sent (Byte x) (Byte y) h k e = cc
same_sent (Byte x) NotDriven h k e = absurd (omega arith)
same_sent NotDriven (Byte y) h k e = absurd (omega arith)
same_sent NotDriven NotDriven h k e = refl

becomes_one : (v w : ℕ) → becomes v ≡ becomes w → v ≡ w
becomes_one v w e = cc

pub one_sent : (rule : Rule Fact (Unit {0})) (c : Segment) (a b : Sent) → IsByte a → IsByte b → Sends rule c a → Sends rule c b → a ≡ b
one_sent rule c a b h k ha hb = same_sent a b h k (becomes_one (sent_number a) (sent_number b) (sym ha ∙ hb))
