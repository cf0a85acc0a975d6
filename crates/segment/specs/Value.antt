-- The number that stands for each value that has a name.
use Rattle.std.specs.Prelude.{ℕ, suc}
use Rattle.segment.specs.declared.Pointer.{Pointer}
use Rattle.segment.specs.declared.Pointer.TheVariants.{At, Invalid}
use Rattle.segment.specs.declared.Data.{Data}
use Rattle.segment.specs.declared.Data.TheVariants.{WriteDisplay, WriteLed, ReadKeys, ReadSwitches}
use Rattle.segment.specs.declared.Stepping.{Stepping}
use Rattle.segment.specs.declared.Stepping.TheVariants.{Increment, Fixed}
use Rattle.segment.specs.declared.Display.{Display}
use Rattle.segment.specs.declared.Display.TheVariants.{Off, On}
use Rattle.segment.specs.declared.Position.{Position}
use Rattle.segment.specs.declared.Position.TheVariants.{Idle, First, Open, Ignoring}

-- An address: 0 means invalid, and a cell's number plus one means that cell.
abbrev pub pointer : Pointer → ℕ
pointer (At a) = suc a.0
pointer Invalid = 0

abbrev pub data_mode_of : Data → ℕ
data_mode_of WriteDisplay = 0
data_mode_of WriteLed = 1
data_mode_of ReadKeys = 2
data_mode_of ReadSwitches = 3

abbrev pub steps : Stepping → ℕ
steps Increment = 0
steps Fixed = 1

abbrev pub shows : Display → ℕ
shows Off = 0
shows On = 1

abbrev pub at_position : Position → ℕ
at_position Idle = 0
at_position First = 1
at_position Open = 2
at_position Ignoring = 3
