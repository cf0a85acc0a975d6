-- The moves of PT6312 and PT6315, one rule for each sentence of paper 01.
use Rattle.std.specs.Prelude.{ℕ, zero, suc, ◌+◌, ◌%◌, min, ltb, eqb}
use Rattle.rules.specs.Choice.{whether, of2, of4}
use Rattle.rules.specs.Rule.{Form, value, copy, free, Rule, gives, look}
use Rattle.rules.specs.Change.{keep, change, set_bits}
use Rattle.terms.specs.declared.Event.{Event}
use Rattle.terms.specs.declared.Event.TheVariants.{Power, Falls, ByteIn, Rises, Gap, Unfinished, Keys, Switches, ByteOut}
use Rattle.segment.specs.declared.command.Command.{Command}
use Rattle.segment.specs.declared.command.Command.TheVariants.{Mode, Test, Setting, AnySetting, Control, Start}
use Rattle.segment.specs.declared.Pointer.{Pointer}
use Rattle.segment.specs.declared.Pointer.TheVariants.{At}
use Rattle.segment.specs.declared.Data.TheVariants.{WriteDisplay}
use Rattle.segment.specs.declared.Stepping.TheVariants.{Increment}
use Rattle.segment.specs.declared.Display.TheVariants.{Off}
use Rattle.segment.specs.declared.Position.{Position}
use Rattle.segment.specs.declared.Position.TheVariants.{Idle, First, Open, Ignoring}
use Rattle.segment.specs.declared.Sizes.{Sizes}
use Rattle.segment.specs.Fact.{Fact, cell, address, data_mode, stepping, mode, dimming, display, led, key, switches, read_count, position, same?, cell_bits, led_bits, sort, by_sort}
use Rattle.segment.specs.Value.{pointer, data_mode_of, steps, shows, at_position}
use Rattle.segment.specs.Command.{command_of}

abbrev pub Forms : Type 0
Forms = Fact → Form Fact

-- The fact g becomes v, and the others are as φ has them.
abbrev pub sets : Fact → ℕ → Forms → Forms
sets g v φ = change same? g (value v) φ

-- Each bit of cell i becomes that of the byte b.
abbrev pub stores : ℕ → ℕ → Forms → Forms
stores i b φ = set_bits same? (cell i) cell_bits b φ

-- Each of the LED's four bits becomes that of the byte b; a bit past them, which no LED has, stays.
abbrev pub lights : ℕ → Forms → Forms
lights b φ = set_bits same? led led_bits b φ

-- Only the position changes.
abbrev pub then : Position → Forms
then p = sets position (at_position p) keep

abbrev pub nothing : Rule Fact Fact
nothing = gives keep

-- Power (001, 002).
abbrev pub powered : Sizes → Forms
powered s (cell i k) = free
powered s address = value (pointer (At (record { 0 = 0 })))
powered s data_mode = value (data_mode_of WriteDisplay)
powered s stepping = value (steps Increment)
powered s mode = value s.top
powered s dimming = value 0
powered s display = value (shows Off)
powered s (led k) = lights s.led keep (led k)
powered s (key i) = free
powered s switches = free
powered s read_count = value 0
powered s position = value (at_position Idle)

-- Mode m, by the mode so far: the same, and no setting changes; another is stored, with the display off. Either way
-- then ignoring (H).
abbrev pub to_mode : ℕ → ℕ → Rule Fact Fact
to_mode m old =
    whether (eqb old m) (gives (then Ignoring)) (gives (sets mode m (sets display (shows Off) (then Ignoring))))

-- Test mode: everything but keys and switches is anything; then ignoring (H).
abbrev pub tested : Forms
tested f = by_sort free free (copy f) (value (at_position Ignoring)) (sort f)

-- What a data setting says besides its data mode: fixed or increment; read count 0; open.
abbrev pub setting : ℕ → Forms
setting i = sets stepping i (sets read_count 0 (then Open))

-- What each command does. Control, as mode, ends in ignoring (H).
abbrev pub commanded : Command → Rule Fact Fact
commanded (Mode m) = look mode (to_mode m)
commanded Test = gives tested
commanded (Setting d i) = gives (sets data_mode (data_mode_of d) (setting (steps i)))
commanded (AnySetting i) = gives (change same? data_mode free (setting (steps i)))
commanded (Control d o) = gives (sets dimming d (sets display (shows o) (then Ignoring)))
commanded (Start a) = gives (sets address (pointer a) (then Open))

-- The address behind cell i: from the last cell it goes round to 00H (M-101).
abbrev pub after : Sizes → ℕ → Pointer
after s i = At (record { 0 = whether (ltb (i + 1) s.cells) (i + 1) 0 })

-- The byte is stored at cell i, and the address steps on if incrementing (001).
abbrev pub stored_at : Sizes → ℕ → ℕ → ℕ → Rule Fact Fact
stored_at s b i = of2 (gives (sets address (pointer (after s i)) (stores i b keep))) (gives (stores i b keep))

-- Write display, by the address: an invalid one stores nothing and stays (001, 002).
abbrev pub stored : Sizes → ℕ → ℕ → Rule Fact Fact
stored s b zero = nothing
stored s b (suc i) = whether (ltb i s.cells) (look stepping (stored_at s b i)) nothing

-- Byte in, open, by the data mode: write LED keeps the low nibble, the read modes ignore it (001).
abbrev pub written : Sizes → ℕ → ℕ → Rule Fact Fact
written s b = of4 (look address (stored s b)) (gives (lights b keep)) nothing nothing

-- Byte in, by the position: nothing when idle or ignoring.
abbrev pub byte_in : Sizes → ℕ → ℕ → Rule Fact Fact
byte_in s b = of4 nothing (commanded (command_of s b)) (look data_mode (written s b)) nothing

-- Read count plus one, at most 4.
abbrev pub counted : ℕ → Rule Fact Fact
counted n = gives (sets read_count (min (n + 1) 4) keep)

-- 09, open, by the data mode: it counts in a read mode.
abbrev pub read_out : ℕ → Rule Fact Fact
read_out = of4 nothing nothing (look read_count counted) (look read_count counted)

-- 09, by the position: otherwise nothing.
abbrev pub byte_out : ℕ → Rule Fact Fact
byte_out = of4 nothing nothing (look data_mode read_out) nothing

-- 07 stores what it carries; PT6312 drops the fourth byte.
abbrev pub keys_latched : Sizes → ℕ → ℕ → ℕ → ℕ → Forms
keys_latched s k0 k1 k2 k3 =
    sets (key 0) k0
    (sets (key 1) k1
    (sets (key 2) k2
    (change same? (key 3) (whether (ltb 3 s.keys) (value k3) (copy (key 3))) keep)))

-- 08 stores what it carries, and is no event of a part without switches. A number above 15, which no recording
-- carries, counts by its low bits.
abbrev pub switches_latched : Sizes → ℕ → Forms
switches_latched s v = whether s.switched (sets switches (v % 16) keep) keep

-- What each event does. The strobe may fall when it is low already (H).
abbrev pub move : Sizes → Event → Rule Fact Fact
move s Power = gives (powered s)
move s Falls = gives (then First)
move s (ByteIn b) = look position (byte_in s b)
move s Rises = gives (then Idle)
move s Gap = gives (λ f. free)
move s (Unfinished n) = gives (then Idle)
move s (Keys k0 k1 k2 k3) = gives (keys_latched s k0 k1 k2 k3)
move s (Switches v) = gives (switches_latched s v)
move s ByteOut = look position byte_out
