-- A move keeps every fact in its range. The argument: a form that sets a fact to a value in its range, over forms in range, is in range;
-- each rule is made of such forms, and what a command carries is in range.
use Rattle.std.specs.Prelude.{ℕ, zero, suc, ◌+◌, ◌<◌, ◌≤◌, ◌/◌, ◌%◌, min, ◌≡◌, Bool, true, false, ltb, eqb}
use Rattle.std.proofs.Common.{arith, ltb-true}
use Rattle.rules.specs.Choice.{whether, bit, whether_all, of2_all, of4_all}
use Rattle.rules.specs.Rule.{value, copy, free, Rule, gives}
use Rattle.rules.specs.Change.{keep}
use Rattle.rules.specs.Range.{Good, moves_good, FormIn, Ranged, InRange, keep_fits, change_fits, bits_fit}
use Rattle.terms.specs.declared.Event.{Event}
use Rattle.terms.specs.declared.Event.TheVariants.{Power, Falls, ByteIn, Rises, Gap, Unfinished, Keys, Switches, ByteOut}
use Rattle.terms.specs.Event.{Bytes}
use Rattle.segment.specs.declared.Family.{Family}
use Rattle.segment.specs.declared.Family.TheVariants.{Pt6312, Pt6315}
use Rattle.segment.specs.declared.Sizes.{Sizes}
use Rattle.segment.specs.declared.command.Command.{Command}
use Rattle.segment.specs.declared.command.Command.TheVariants.{Mode, Test, Setting, AnySetting, Control, Start}
use Rattle.segment.specs.declared.Pointer.{Pointer}
use Rattle.segment.specs.declared.Stepping.{Stepping}
use Rattle.segment.specs.declared.Stepping.TheVariants.{Increment, Fixed}
use Rattle.segment.specs.declared.Display.{Display}
use Rattle.segment.specs.declared.Display.TheVariants.{Off, On}
use Rattle.segment.specs.declared.Position.{Position}
use Rattle.segment.specs.declared.Position.TheVariants.{Idle, First, Open, Ignoring}
use Rattle.segment.specs.Family.{sizes}
use Rattle.segment.specs.Fact.{Fact, same?, lacking, range, cell, address, data_mode, stepping, mode, dimming, display, led, key, switches, read_count, position}
use Rattle.segment.specs.Value.{pointer, data_mode_of, steps, shows, at_position}
use Rattle.segment.specs.Command.{mode_of, setting_of, display_of, pointer_of, command_of}
use Rattle.segment.specs.Move.{Forms, sets, stores, lights, then, to_mode, commanded, after, stored, byte_in, counted, byte_out, keys_latched, switches_latched, move}
use Rattle.segment.specs.Laws.{every, led_tested}
use Rattle.segment.specs.declared.Segment.{Segment}
use Rattle.segment.specs.declared.Moved.{Moved}
use Rattle.segment.specs.View.{view, covers, By}

-- There is a cell.
pub record Proper (s : Sizes) : Type 0 where
  pub some : 0 < s.cells

pub proper : (p : Family) → Proper (sizes p)
unfolding sizes
proper Pt6312 = record { some = omega arith }
proper Pt6315 = record { some = omega arith }

-- A value below n is in the range of a fact with n values, and in that of what a part lacks.
below : (t : Bool) (n v : ℕ) → n ≤ lacking → v < n → v < whether t n lacking
below true n v m h = h
below false n v m h = omega arith

steps_fit : (i : Stepping) → steps i < 2
steps_fit Increment = omega arith
steps_fit Fixed = omega arith

shows_fit : (o : Display) → shows o < 2
shows_fit Off = omega arith
shows_fit On = omega arith

position_fits : (p : Position) → at_position p < 4
position_fits Idle = omega arith
position_fits First = omega arith
position_fits Open = omega arith
position_fits Ignoring = omega arith

-- What a command carries is in range.
abbrev pub CommandInRange : Sizes → Command → Type 0
CommandInRange s (Mode m) = m < suc s.top
CommandInRange s Test = Unit
CommandInRange s (Setting d i) = data_mode_of d < range s data_mode
CommandInRange s (AnySetting i) = Unit
CommandInRange s (Control d o) = d < 8
CommandInRange s (Start a) = pointer a < suc s.cells

two_at_least : (t : Bool) → 2 < whether t 4 3
two_at_least true = omega arith
two_at_least false = omega arith

three_if : (t : Bool) → t ≡ true → 3 < whether t 4 3
three_if t e = rw e (omega arith)

setting_in_range : (s : Sizes) (b : ℕ) → CommandInRange s (setting_of s b)
setting_in_range s b =
    let h = two_at_least s.switched in
    whether_all (CommandInRange s) (bit 3 b) _ _ (λ _. tt)
    (λ _. of4_all (CommandInRange s) _ _ _ _ (omega arith) (omega arith) h
    (whether_all (CommandInRange s) s.switched _ _ (three_if s.switched) (λ _. tt))
    (b % 4))

pointer_in_range : (s : Sizes) (b : ℕ) → pointer (pointer_of s b) < suc s.cells
pointer_in_range s b =
    whether_all (λ (p : Pointer). pointer p < suc s.cells) (ltb (b % s.addresses) s.cells) _ _
    (λ t. omega (arith, ltb-true (b % s.addresses) s.cells t))
    (λ _. omega arith)

pub command_in_range : (s : Sizes) (b : ℕ) → CommandInRange s (command_of s b)
command_in_range s b =
    of4_all (CommandInRange s) (Mode (mode_of s b)) (setting_of s b) (Control (b % 8) (display_of b)) (Start (pointer_of s b))
    (omega arith) (setting_in_range s b) (omega arith) (pointer_in_range s b)
    (b / 64)

module _ (s : Sizes) (p : Proper s) where
  -- Setting a fact to a value in its range keeps forms in range.
  pub sets_fit : (g : Fact) (v : ℕ) (φ : Forms) → v < range s g → InRange same? (range s) φ → InRange same? (range s) (sets g v φ)
  sets_fit g v φ h k = change_fits same? (range s) g (value v) φ h k

  kept : InRange same? (range s) keep
  kept = keep_fits same? (range s)

  then_fits : (q : Position) → InRange same? (range s) (then q)
  then_fits q = sets_fit position (at_position q) keep (position_fits q) kept

  abbrev Fine : Rule Fact Fact → Type 0
  Fine rule = Ranged (range s) (range s) rule

  mode_fits : (m old : ℕ) → m < suc s.top → Fine (to_mode m old)
  mode_fits m old h =
      let off : Forms = sets display (shows Off) (then Ignoring) in
      whether_all Fine (eqb old m) (gives (then Ignoring)) (gives (sets mode m off))
      (λ _. then_fits Ignoring)
      (λ _. sets_fit mode m off h (sets_fit display (shows Off) (then Ignoring) (omega arith) (then_fits Ignoring)))

  setting_fits : (i : Stepping) → InRange same? (range s) (sets stepping (steps i) (sets read_count 0 (then Open)))
  setting_fits i = sets_fit stepping (steps i) _ (steps_fit i) (sets_fit read_count 0 _ (omega arith) (then_fits Open))

  commanded_fits : (m : Command) → CommandInRange s m → Fine (commanded m)
  commanded_fits (Mode m) h = λ old _. mode_fits m old h
  commanded_fits Test h =
      every _ (λ i k. tt) tt tt tt tt tt tt (λ k. rw (led_tested k) tt) (λ i. omega arith) (omega arith) tt (omega arith)
  commanded_fits (Setting d i) h = sets_fit data_mode (data_mode_of d) _ h (setting_fits i)
  commanded_fits (AnySetting i) h = change_fits same? (range s) data_mode free _ tt (setting_fits i)
  commanded_fits (Control d o) h = sets_fit dimming d _ h (sets_fit display (shows o) _ (shows_fit o) (then_fits Ignoring))
  commanded_fits (Start a) h = sets_fit address (pointer a) _ h (then_fits Open)

  after_fits : (i : ℕ) → pointer (after s i) < suc s.cells
  after_fits i =
      whether_all (λ (n : ℕ). suc n < suc s.cells) (ltb (i + 1) s.cells) _ _
      (λ t. omega (arith, ltb-true (i + 1) s.cells t))
      (λ _. omega (arith, p.some))

  byte : (t : Bool) (b : ℕ) → b < 256 → b < whether t 256 lacking
  byte t b h = below t 256 b (omega arith) h

  -- A bit of a cell has two values, and what a part lacks more.
  two_lamps : (t : Bool) → 2 ≤ whether t 2 lacking
  two_lamps true = omega arith
  two_lamps false = omega arith

  stores_fit : (i b : ℕ) → InRange same? (range s) (stores i b keep)
  stores_fit i b = bits_fit same? (range s) (cell i) 8 b keep (λ k _. two_lamps (ltb i s.cells)) kept

  lights_fit : (b : ℕ) → InRange same? (range s) (lights b keep)
  lights_fit b = bits_fit same? (range s) led 4 b keep (λ k _. omega arith) kept

  stored_fits : (b a : ℕ) → Fine (stored s b a)
  stored_fits b zero = kept
  stored_fits b (suc i) =
      whether_all Fine (ltb i s.cells) _ _
      (λ _ n _. of2_all Fine _ _ (sets_fit address _ _ (after_fits i) (stores_fit i b)) (stores_fit i b) n)
      (λ _. kept)

  byte_fits : (b q : ℕ) → Fine (byte_in s b q)
  byte_fits b q =
      of4_all Fine _ _ _ _
      kept
      (commanded_fits (command_of s b) (command_in_range s b))
      (λ d _. of4_all Fine _ _ _ _ (λ a _. stored_fits b a) (lights_fit b) kept kept d)
      kept
      q

  count_fits : (n : ℕ) → Fine (counted n)
  count_fits n = sets_fit read_count (min (n + 1) 4) _ (omega arith) kept

  out_fits : (q : ℕ) → Fine (byte_out q)
  out_fits q =
      of4_all Fine _ _ _ _ kept kept
      (λ d _. of4_all Fine _ _ _ _ kept kept (λ n _. count_fits n) (λ n _. count_fits n) d)
      kept q

  latched_fits : (k0 k1 k2 k3 : ℕ) → k0 < 256 → k1 < 256 → k2 < 256 → k3 < 256 → InRange same? (range s) (keys_latched s k0 k1 k2 k3)
  latched_fits k0 k1 k2 k3 h0 h1 h2 h3 =
      sets_fit (key 0) k0 _ (byte (ltb 0 s.keys) k0 h0)
      (sets_fit (key 1) k1 _ (byte (ltb 1 s.keys) k1 h1)
      (sets_fit (key 2) k2 _ (byte (ltb 2 s.keys) k2 h2)
      (change_fits same? (range s) (key 3) _ _ (whether_all (FormIn (range s) (range s (key 3))) (ltb 3 s.keys) (value k3) (copy (key 3)) (λ _. byte (ltb 3 s.keys) k3 h3) (λ _. omega arith)) kept)))

  switched_fits : (v : ℕ) → InRange same? (range s) (switches_latched s v)
  switched_fits v =
      whether_all (InRange same? (range s)) s.switched _ _ (λ _. sets_fit switches (v % 16) _ (below s.switched 16 (v % 16) (omega arith) (omega arith)) kept) (λ _. kept)

  pub ranged : (e : Event) → Bytes e → Ranged (range s) (range s) (move s e)
  ranged Power h =
      every _ (λ i k. tt) (omega (arith, p.some)) (omega (arith, two_at_least s.switched)) (omega arith) (omega arith) (omega arith) (omega arith) (λ k. lights_fit s.led (led k))
      (λ i. tt) tt (omega arith) (omega arith)
  ranged Falls h = then_fits First
  ranged (ByteIn b) h = λ q _. byte_fits b q
  ranged Rises h = then_fits Idle
  ranged Gap h = λ f. tt
  ranged (Unfinished n) h = then_fits Idle
  ranged (Keys k0 k1 k2 k3) h = latched_fits k0 k1 k2 k3 h.0 h.1 h.2 h.3
  ranged (Switches v) h = switched_fits v
  ranged ByteOut h = λ q _. out_fits q

-- A move of a chip in range, under an event that carries bytes, gives a chip in range.
pub stays_good : (q : Family) (e : Event) → Bytes e → (c : Segment) (m : Moved) → By (move (sizes q) e) c m → Good (range (sizes q)) (view c) → Good (range (sizes q)) (view m.chip)
stays_good q e h c m b g = moves_good (range (sizes q)) (move (sizes q) e) (view c) (view m.chip) (covers m.any) (ranged (sizes q) (proper q) e h) g b

some : (t : Bool) (n : ℕ) → 2 ≤ n → 2 ≤ whether t n lacking
some true n h = h
some false n h = omega arith

-- No fact has fewer than two values.
pub two : (q : Family) (f : Fact) → 2 ≤ range (sizes q) f
unfolding sizes
two Pt6312 = every _ (λ i k. some (ltb i (sizes Pt6312).cells) 2 (omega arith)) (omega arith) (omega arith) (omega arith) (omega arith) (omega arith) (omega arith) (λ k. omega arith) (λ i. some (ltb i 3) 256 (omega arith)) (omega arith) (omega arith) (omega arith)
two Pt6315 = every _ (λ i k. some (ltb i (sizes Pt6315).cells) 2 (omega arith)) (omega arith) (omega arith) (omega arith) (omega arith) (omega arith) (omega arith) (λ k. omega arith) (λ i. some (ltb i 4) 256 (omega arith)) (omega arith) (omega arith) (omega arith)
