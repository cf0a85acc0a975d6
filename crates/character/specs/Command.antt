-- A first byte as a command, by its high nibble (paper 01, "Moves of PT6302"; 003, 004). Bits that a command does not
-- name are ignored.
use Rattle.std.specs.Prelude.{ℕ, ◌/◌, ◌%◌, eqb}
use Rattle.rules.specs.Choice.{whether, bit}
use Rattle.terms.specs.declared.Address.{Address}
use Rattle.character.specs.declared.Lights.{Lights}
use Rattle.character.specs.declared.Lights.TheVariants.{Normal, Off, On}
use Rattle.character.specs.declared.command.Command.{Command}
use Rattle.character.specs.declared.command.Command.TheVariants.{Dcram, Cgram, Adram, Port, Duty, Digits, Light, Nothing, Undefined}

abbrev cell : ℕ → Address
cell n = record { 0 = n }

-- 7 lights: bit 0 off; bit 1 on, which wins (004).
abbrev pub lights_of : ℕ → Lights
lights_of b = whether (bit 1 b) On (whether (bit 0 b) Off Normal)

-- 80H and 88H: nothing. All others are undefined (H).
abbrev pub spare_of : ℕ → Command
spare_of b = whether (eqb b 0x80) Nothing (whether (eqb b 0x88) Nothing Undefined)

-- 1 DCRAM, 2 CGRAM (three address bits), 3 ADRAM; 4 port (low two bits); 5 duty, 6 digits (low three bits each); 7
-- lights.
abbrev pub command_of : ℕ → Command
command_of b =
    whether (eqb (b / 16) 1) (Dcram (cell (b % 16)))
    (whether (eqb (b / 16) 2) (Cgram (cell (b % 8)))
    (whether (eqb (b / 16) 3) (Adram (cell (b % 16)))
    (whether (eqb (b / 16) 4) (Port (b % 4))
    (whether (eqb (b / 16) 5) (Duty (b % 8))
    (whether (eqb (b / 16) 6) (Digits (b % 8))
    (whether (eqb (b / 16) 7) (Light (lights_of b))
    (spare_of b)))))))

-- The commands that are defined.
abbrev pub Defined : Command → Type 0
Defined (Dcram a) = Unit
Defined (Cgram a) = Unit
Defined (Adram a) = Unit
Defined (Port p) = Unit
Defined (Duty d) = Unit
Defined (Digits d) = Unit
Defined (Light l) = Unit
Defined Nothing = Unit
Defined Undefined = ⊥
