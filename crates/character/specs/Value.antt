-- The number that stands for each value that has a name.
use Rattle.std.specs.Prelude.{ℕ}
use Rattle.character.specs.declared.Lights.{Lights}
use Rattle.character.specs.declared.Lights.TheVariants.{Normal, Off, On}
use Rattle.character.specs.declared.Position.{Position}
use Rattle.character.specs.declared.Position.TheVariants.{Idle, First, Dcram, Cgram, Adram, Ignoring}

abbrev pub lit : Lights → ℕ
lit Normal = 0
lit Off = 1
lit On = 2

abbrev pub at_position : Position → ℕ
at_position Idle = 0
at_position First = 1
at_position Dcram = 2
at_position Cgram = 3
at_position Adram = 4
at_position Ignoring = 5
