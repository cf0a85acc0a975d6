-- The whole answer of the thermometer (paper 02, M-103): its number and place, and what it says.
use Rattle.std.specs.Prelude.{ℕ, ◌≤◌, ◌≡◌, ℤ, Float, Ok, Err}
use Rattle.rules.specs.Where.{Where}
use Rattle.knowing.specs.Standing.{Standing, Sound}
use Rattle.knowing.specs.Holds.{byte_in}
use Rattle.terms.specs.declared.Part.{Part}
use Rattle.terms.specs.declared.Part.TheVariants.{Pt6302, Pt6312, Pt6315}
use Rattle.terms.specs.Part.{PartRead}
use Rattle.character.specs.Fact.{Fact, range, dcram, lights, digits, text_bits}
use Rattle.character_knowledge.specs.View.{kview}
use Rattle.panel.specs.declared.Panel.{Panel}
use Rattle.half_degrees.specs.Half.{InHalves}
use Rattle.field.specs.Said.{Said, reading, no_reading, dark, unknown, not_a_reading}
use Rattle.field.specs.Field.{told}
use Rattle.thermometer.specs.declared.temperatures.Answer.{Answer}
use Rattle.thermometer.specs.declared.temperatures.Answer.TheVariants.{Reading, NoReading, Dark, Unknown, NotAReading, NoPart, OutOfRange, NoField}

-- The number of each case. 11 is for a start above 11.
abbrev pub number : Answer → ℕ
number (Reading f) = 0
number NoReading = 0
number Dark = 0
number Unknown = 0
number NotAReading = 0
number (NoPart at) = 1
number (OutOfRange at) = 2
number (NoField at) = 11

abbrev pub place : Answer → ℕ
place (Reading f) = 0
place NoReading = 0
place Dark = 0
place Unknown = 0
place NotAReading = 0
place (NoPart at) = at.0
place (OutOfRange at) = at.0
place (NoField at) = at.0

-- What each case says: a reading says the half degrees that its float is, exactly; refused, the answer is unknown.
abbrev pub Says : Answer → Said → Type 0
Says (Reading f) s = (h : ℤ) × (s ≡ reading h) × InHalves f h
Says NoReading s = s ≡ no_reading
Says Dark s = s ≡ dark
Says Unknown s = s ≡ unknown
Says NotAReading s = s ≡ not_a_reading
Says (NoPart at) s = s ≡ unknown
Says (OutOfRange at) s = s ≡ unknown
Says (NoField at) s = s ≡ unknown

-- The answer is a reading of h half degrees.
abbrev pub Reads : Answer → ℤ → Type 0
Reads r h = (f : Float) × (r ≡ Reading f) × InHalves f h

pub record Answers (n : ℕ) (s : Said) (r : Answer) : Type 0 where
  pub numbered : number r ≡ n
  pub placed : place r ≡ 0
  pub says : Says r s

-- What is known of each bit of DCRAM i, and the byte that it is known to hold: a cell with any bit unknown counts as
-- unknown (M-107).
abbrev pub cell_of : (Fact → Standing) → ℕ → ℕ → Standing
cell_of k i j = k (dcram i j)

abbrev pub byte_of : (Fact → Standing) → ℕ → Standing
byte_of k i = byte_in text_bits (cell_of k i)

-- What is told of the field that starts there, by what is known of lights, digits and the cells' bytes.
abbrev pub temperature_of : (Fact → Standing) → ℕ → Said
temperature_of k start = told (k lights) (k digits) (byte_of k) start

-- "2, then 11 for a start above 11", each exactly then.
abbrev pub TellsField : (Fact → Standing) → ℕ → Answer → Type 0
TellsField k start r = Where (start ≤ 11) (Answers 0 (temperature_of k start) r) (Answers 11 unknown r)

abbrev pub TellsSound : (Fact → Standing) → ℕ → Answer → Type 0
TellsSound k start r = Where (Sound range k) (TellsField k start r) (Answers 2 unknown r)

-- "1 for another part."
abbrev pub TellsPart : Part → Panel → ℕ → Answer → Type 0
TellsPart Pt6302 k start r = TellsSound (kview k.character) start r
TellsPart Pt6312 k start r = Answers 1 unknown r
TellsPart Pt6315 k start r = Answers 1 unknown r

abbrev pub Tells : PartRead → Panel → ℕ → Answer → Type 0
Tells (Ok p) k start r = TellsPart p k start r
Tells (Err e) k start r = Answers 1 unknown r
