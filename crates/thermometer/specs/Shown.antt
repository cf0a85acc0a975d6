-- What a chip shows in a field, and what is known of it.
use Rattle.std.specs.Prelude.{ℕ, ◌+◌, ◌≤◌, ◌≡◌, true, ℤ}
use Rattle.knowing.specs.Standing.{Standing}
use Rattle.knowing.specs.Holds.{is_known, holds}
use Rattle.knowing.specs.Bytes.{HasByte}
use Rattle.character.specs.declared.Lights.TheVariants.{Normal}
use Rattle.character.specs.Value.{lit}
use Rattle.character.specs.Fact.{Fact, dcram, lights, digits, text_bits}
use Rattle.field.specs.declared.spelling.Five.{Five}
use Rattle.field.specs.Said.{reading}
use Rattle.field.specs.Field.{in_use, last, spelled}
use Rattle.thermometer.specs.Answer.{cell_of}

-- The chip's DCRAM i is this byte: each of its eight bits is the byte's.
abbrev pub CellIs : (Fact → ℕ) → ℕ → ℕ → Type 0
CellIs c i byte = HasByte text_bits (λ j. c (dcram i j)) byte

-- The chip's five cells from `start` on are these bytes.
pub record FieldIs (c : Fact → ℕ) (start : ℕ) (f : Five) : Type 0 where
  pub sign : CellIs c start f.sign
  pub tens : CellIs c (start + 1) f.tens
  pub units : CellIs c (start + 2) f.units
  pub point : CellIs c (start + 3) f.point
  pub half : CellIs c (start + 4) f.half

-- The chip shows a field that spells h half degrees: its lights are normal, the field is within the digits in use, and
-- its five cells spell that.
pub record Shows (start : ℕ) (h : ℤ) (c : Fact → ℕ) : Type 0 where
  pub lit : c lights ≡ lit Normal
  pub within : last start ≤ in_use (c digits)
  pub field : Five
  pub cells : FieldIs c start field
  pub spells : spelled field ≡ reading h

-- Every one of these chips shows that field, and no other: the same five bytes, which spell h.
pub record ShownBy (start : ℕ) (h : ℤ) (chips : (Fact → ℕ) → Type 0) : Type 0 where
  pub field : Five
  pub spells : spelled field ≡ reading h
  pub shown : (c : Fact → ℕ) → chips c → Shows start h c
  pub same : (c : Fact → ℕ) → chips c → FieldIs c start field

-- The same is known: lights, digits and every bit of the five cells are.
pub record KnownToShow (start : ℕ) (h : ℤ) (k : Fact → Standing) : Type 0 where
  pub lit : is_known (k lights) (lit Normal) ≡ true
  pub code : ℕ
  pub digits : is_known (k digits) code ≡ true
  pub within : last start ≤ in_use code
  pub five : Five
  pub sign : holds text_bits (cell_of k start) five.sign ≡ true
  pub tens : holds text_bits (cell_of k (start + 1)) five.tens ≡ true
  pub units : holds text_bits (cell_of k (start + 2)) five.units ≡ true
  pub point : holds text_bits (cell_of k (start + 3)) five.point ≡ true
  pub half : holds text_bits (cell_of k (start + 4)) five.half ≡ true
  pub spells : spelled five ≡ reading h
