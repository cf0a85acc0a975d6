-- The moves of PT6302, one rule for each sentence of paper 01.
use Rattle.std.specs.Prelude.{ℕ, ◌+◌, ◌*◌, ◌%◌, eqb}
use Rattle.rules.specs.Choice.{whether, of6}
use Rattle.rules.specs.Rule.{Form, value, free, Rule, gives, look}
use Rattle.rules.specs.Change.{keep, change, set_bits}
use Rattle.terms.specs.declared.Event.{Event}
use Rattle.terms.specs.declared.Event.TheVariants.{Power, Falls, ByteIn, Rises, Gap, Unfinished, Keys, Switches, ByteOut}
use Rattle.character.specs.declared.command.Command.{Command}
use Rattle.character.specs.declared.command.Command.TheVariants.{Dcram, Cgram, Adram, Port, Duty, Digits, Light, Nothing, Undefined}
use Rattle.character.specs.declared.Lights.TheVariants.{Off}
use Rattle.character.specs.declared.Position.{Position}
use Rattle.character.specs.declared.Position.TheVariants.{Idle, First, Dcram as in_dcram, Cgram as in_cgram, Adram as in_adram, Ignoring}
use Rattle.character.specs.Fact.{Fact, text_bits, column_bits, pair_bits, port_bits, same?, dcram, cgram, adram, dcram_at, cgram_at, adram_at, column, port, duty, digits, lights, position, sort, by_sort}
use Rattle.character.specs.Value.{lit, at_position}
use Rattle.character.specs.Command.{command_of}

abbrev pub Forms : Type 0
Forms = Fact → Form Fact

-- The fact g becomes v, and the others are as φ has them.
abbrev pub sets : Fact → ℕ → Forms → Forms
sets g v φ = change same? g (value v) φ

-- The w bits of a number become the low ones of b, and the other facts are as φ has them.
abbrev pub spells : (ℕ → Fact) → ℕ → ℕ → Forms → Forms
spells at w b φ = set_bits same? at w b φ

-- Only the position changes.
abbrev pub then : Position → Forms
then p = sets position (at_position p) keep

abbrev pub nothing : Rule Fact Fact
nothing = gives keep

-- Power (003, 004).
abbrev pub powered : Forms
powered (dcram i k) = free
powered (cgram i k) = free
powered (adram i k) = free
powered dcram_at = value 0
powered cgram_at = value 0
powered adram_at = value 0
powered column = value 0
powered (port k) = spells port port_bits 0 keep (port k)
powered duty = value 0
powered digits = value 0
powered lights = value (lit Off)
powered position = value (at_position Idle)

-- Undefined commands: everything anything, then ignoring (H).
abbrev pub undefined : Forms
undefined f = by_sort free free (value (at_position Ignoring)) (sort f)

-- 1, 2 and 3 set that RAM's address and position, 2 the column too; 4 to 7 store their setting, then ignoring (H);
-- 80H and 88H nothing, then ignoring.
abbrev pub commanded : Command → Forms
commanded (Dcram a) = sets dcram_at a.0 (then in_dcram)
commanded (Cgram a) = sets cgram_at a.0 (sets column 0 (then in_cgram))
commanded (Adram a) = sets adram_at a.0 (then in_adram)
commanded (Port p) = spells port port_bits p (then Ignoring)
commanded (Duty d) = sets duty d (then Ignoring)
commanded (Digits d) = sets digits d (then Ignoring)
commanded (Light l) = sets lights (lit l) (then Ignoring)
commanded Nothing = then Ignoring
commanded Undefined = undefined

-- A data byte to DCRAM, by the address, which steps modulo 16 (H).
abbrev pub shown : ℕ → ℕ → Rule Fact Fact
shown b a = gives (sets dcram_at ((a % 16 + 1) % 16) (spells (dcram (a % 16)) text_bits b keep))

-- A data byte to ADRAM keeps bits 0 and 1; the address steps modulo 16 (H).
abbrev pub marked : ℕ → ℕ → Rule Fact Fact
marked b a = gives (sets adram_at ((a % 16 + 1) % 16) (spells (adram (a % 16)) pair_bits b keep))

-- A data byte to CGRAM, by the address and the column: bit 7 is dropped, and it is stored as it comes. After five
-- columns the next character follows, modulo 8 (H).
abbrev pub drawn : ℕ → ℕ → ℕ → Rule Fact Fact
drawn b a k =
    whether (eqb (k % 5) 4)
    (gives (sets cgram_at ((a % 8 + 1) % 8) (sets column 0 (spells (cgram (a % 8 * 5 + k % 5)) column_bits b keep))))
    (gives (sets column (k % 5 + 1) (spells (cgram (a % 8 * 5 + k % 5)) column_bits b keep)))

-- Byte in, by the position: nothing when idle or ignoring.
abbrev pub byte_in : ℕ → ℕ → Rule Fact Fact
byte_in b =
    of6
    nothing
    (gives (commanded (command_of b)))
    (look dcram_at (shown b))
    (look cgram_at (λ a. look column (drawn b a)))
    (look adram_at (marked b))
    nothing

-- What each event does. Keys, switches and bytes out are no events of this part.
abbrev pub move : Event → Rule Fact Fact
move Power = gives powered
move Falls = gives (then First)
move (ByteIn b) = look position (byte_in b)
move Rises = gives (then Idle)
move Gap = gives (λ f. free)
move (Unfinished n) = gives (then Idle)
move (Keys k0 k1 k2 k3) = nothing
move (Switches v) = nothing
move ByteOut = nothing
