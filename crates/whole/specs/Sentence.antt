-- Demand 3's last sentence, word by word: "Where the start knows all settings and the transfer position, and the
-- recording has no gap and no undefined command, a memory cell is known at the end exactly when every fitting chip
-- ends with the same content there." Since M-107 a memory cell, the LED and the port are known bit by bit: the premise asks for
-- every bit of LED and port, and what is known of a cell is said of each of its bits.
use Rattle.std.specs.Prelude.{ℕ, ◌≡◌, Bool, true, false, ◌||◌, List, [], ◌∷◌, eqb}
use Rattle.rules.specs.Rule.{Rule}
use Rattle.rules.specs.Range.{Good}
use Rattle.rules.specs.Turn.{Ends}
use Rattle.knowing.specs.Standing.{Standing, known, unknown, Fits}
use Rattle.terms.specs.declared.Event.{Event}
use Rattle.terms.specs.declared.Event.TheVariants.{Power, Falls, ByteIn, Rises, Gap, Unfinished, Keys, Switches, ByteOut}
use Rattle.terms.specs.declared.Part.{Part}
use Rattle.terms.specs.declared.Part.TheVariants.{Pt6302, Pt6312, Pt6315}
use Rattle.segment.specs.declared.Family.TheVariants as OfFamily
use Rattle.segment.specs.declared.Position.TheVariants as SegmentPosition
use Rattle.segment.specs.Family.{sizes}
use Rattle.segment.specs.Fact as Segment
use Rattle.segment.specs.Value as SegmentValue
use Rattle.segment.specs.Command as SegmentCommand
use Rattle.character.specs.declared.Position.TheVariants as CharacterPosition
use Rattle.character.specs.Fact as Character
use Rattle.character.specs.Value as CharacterValue
use Rattle.character.specs.Command as CharacterCommand
use Rattle.parts.specs.Facts.{Fact}

-- 1. "The start knows all settings and the transfer position."

-- Settings are all facts but memory, keys, switches and position (paper 01, "Facts and chips").
abbrev pub IsSetting : (p : Part) → Fact p → Type 0
IsSetting Pt6302 f = Character.sort f ≡ Character.setting
IsSetting Pt6312 f = Segment.sort f ≡ Segment.setting
IsSetting Pt6315 f = Segment.sort f ≡ Segment.setting

abbrev pub position : (p : Part) → Fact p
position Pt6302 = Character.position
position Pt6312 = Segment.position
position Pt6315 = Segment.position

abbrev pub IsKnown : Standing → Type 0
IsKnown s = (v : ℕ) × (s ≡ known v)

pub record StartKnows (p : Part) (k : Fact p → Standing) : Type 0 where
  pub settings : (f : Fact p) → IsSetting p f → IsKnown (k f)
  pub position_known : IsKnown (k (position p))

-- 2. "The recording has no gap."

abbrev pub is_gap : Event → Bool
is_gap Power = false
is_gap Falls = false
is_gap (ByteIn b) = false
is_gap Rises = false
is_gap Gap = true
is_gap (Unfinished n) = false
is_gap (Keys k0 k1 k2 k3) = false
is_gap (Switches v) = false
is_gap ByteOut = false

abbrev pub has_gap : List Event → Bool
has_gap [] = false
has_gap (e ∷ es) = is_gap e || has_gap es

-- 3. "And no undefined command."

-- A byte is a command if it is the first behind a fall of the strobe. Whether the next byte in would be one, after an
-- event, by whether it would have been one before; a gap is excluded by 2.
abbrev pub awaits : Event → Bool → Bool
awaits Power first = false
awaits Falls first = true
awaits (ByteIn b) first = false
awaits Rises first = false
awaits Gap first = first
awaits (Unfinished n) first = false
awaits (Keys k0 k1 k2 k3) first = first
awaits (Switches v) first = first
awaits ByteOut first = first

-- The byte is a defined command of the part: not test mode, not data setting 11 on PT6315, and none that paper 01
-- calls undefined on PT6302.
abbrev pub DefinedOn : Part → ℕ → Type 0
DefinedOn Pt6302 b = CharacterCommand.Defined (CharacterCommand.command_of b)
DefinedOn Pt6312 b = SegmentCommand.Defined (SegmentCommand.command_of (sizes OfFamily.Pt6312) b)
DefinedOn Pt6315 b = SegmentCommand.Defined (SegmentCommand.command_of (sizes OfFamily.Pt6315) b)

-- The event brings no undefined command, where a byte would be a command.
abbrev pub BringsDefined : (ℕ → Type 0) → Event → Type 0
BringsDefined Defined Power = Unit
BringsDefined Defined Falls = Unit
BringsDefined Defined (ByteIn b) = Defined b
BringsDefined Defined Rises = Unit
BringsDefined Defined Gap = Unit
BringsDefined Defined (Unfinished n) = Unit
BringsDefined Defined (Keys k0 k1 k2 k3) = Unit
BringsDefined Defined (Switches v) = Unit
BringsDefined Defined ByteOut = Unit

-- No event brings an undefined command; `first` says whether the next byte is a command.
abbrev pub NoUndefined : (ℕ → Type 0) → Bool → List Event → Type 0
NoUndefined Defined first [] = Unit
NoUndefined Defined first (e ∷ es) = (first ≡ true → BringsDefined Defined e) × NoUndefined Defined (awaits e first) es

-- At the start it is a command where the position is first byte; an unknown position is excluded by 1.
abbrev pub first_byte : Part → ℕ
first_byte Pt6302 = CharacterValue.at_position CharacterPosition.First
first_byte Pt6312 = SegmentValue.at_position SegmentPosition.First
first_byte Pt6315 = SegmentValue.at_position SegmentPosition.First

abbrev pub starts_first : Part → Standing → Bool
starts_first p (known q) = eqb q (first_byte p)
starts_first p unknown = false

-- 4. "A memory cell": a bit of one. A bit past the LED's or the port's width, which no part has, counts with these.

abbrev pub IsMemory : (p : Part) → Fact p → Type 0
IsMemory Pt6302 f = Character.sort f ≡ Character.memory
IsMemory Pt6312 f = Segment.sort f ≡ Segment.memory
IsMemory Pt6315 f = Segment.sort f ≡ Segment.memory

-- 5. "Every fitting chip ends with the same content": every chip that fits k, moved by the rules one after the other,
-- ends with the value v at f.
abbrev pub AllEnd : {F : Type 0} → (F → ℕ) → List (Rule F F) → (F → Standing) → F → ℕ → Type 0
AllEnd {F} range rules k f v = (c : F → ℕ) → Good range c → Fits k c → (x : F → ℕ) → Ends range rules c x → x f ≡ v
