-- A first byte as a command, by its top two bits (paper 01, "Moves of PT6312 and PT6315"; 001, 002).
-- Bits that a command does not name are ignored.
use Rattle.std.specs.Prelude.{ℕ, ◌/◌, ◌%◌, min, ltb}
use Rattle.rules.specs.Choice.{whether, bit, of4}
use Rattle.segment.specs.declared.command.Command.{Command}
use Rattle.segment.specs.declared.command.Command.TheVariants.{Mode, Test, Setting, AnySetting, Control, Start}
use Rattle.segment.specs.declared.Pointer.{Pointer}
use Rattle.segment.specs.declared.Pointer.TheVariants.{At, Invalid}
use Rattle.segment.specs.declared.Data.TheVariants.{WriteDisplay, WriteLed, ReadKeys, ReadSwitches}
use Rattle.segment.specs.declared.Stepping.{Stepping}
use Rattle.segment.specs.declared.Stepping.TheVariants.{Increment, Fixed}
use Rattle.segment.specs.declared.Display.{Display}
use Rattle.segment.specs.declared.Display.TheVariants.{Off, On}
use Rattle.segment.specs.declared.Sizes.{Sizes}

-- 00 mode: the low three bits, or four; 8 to 15 all mean 8 on PT6315, whose highest mode that is (001, 002).
abbrev pub mode_of : Sizes → ℕ → ℕ
mode_of s b = min (b % s.codes) s.top

-- Bit 2 of a data setting: fixed (001).
abbrev pub stepping_of : ℕ → Stepping
stepping_of b = whether (bit 2 b) Fixed Increment

-- 01 data setting. Bit 3 is test mode, whatever the others are (001); else bits 1 and 0. PT6315 follows PT6312 (H),
-- but 11 is undefined.
abbrev pub setting_of : Sizes → ℕ → Command
setting_of s b =
    whether (bit 3 b) Test
    (of4
    (Setting WriteDisplay (stepping_of b))
    (Setting WriteLed (stepping_of b))
    (Setting ReadKeys (stepping_of b))
    (whether s.switched (Setting ReadSwitches (stepping_of b)) (AnySetting (stepping_of b)))
    (b % 4))

-- 10 display control: bit 3 on (001; PT6315 follows it, H).
abbrev pub display_of : ℕ → Display
display_of b = whether (bit 3 b) On Off

-- 11 address: the low five bits, or six; an address past the last cell is invalid (001, 002).
abbrev pub pointer_of : Sizes → ℕ → Pointer
pointer_of s b = whether (ltb (b % s.addresses) s.cells) (At (record { 0 = b % s.addresses })) Invalid

abbrev pub command_of : Sizes → ℕ → Command
command_of s b =
    of4
    (Mode (mode_of s b))
    (setting_of s b)
    (Control (b % 8) (display_of b))
    (Start (pointer_of s b))
    (b / 64)

-- The commands that are defined: all but test mode and, on PT6315, data setting 11.
abbrev pub Defined : Command → Type 0
Defined (Mode m) = Unit
Defined Test = ⊥
Defined (Setting d i) = Unit
Defined (AnySetting i) = ⊥
Defined (Control d o) = Unit
Defined (Start a) = Unit
