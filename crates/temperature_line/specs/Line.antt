-- What is printed of a temperature: the degrees of a reading, or in words why there is none; "a refusal prints only
-- `refused N at P`".
use Rattle.std.specs.Prelude.{ℕ, ◌≡◌, refl, List, [], ◌∷◌, ◌++◌, ℤ, Float}
use Prim.Native.Char.{code}
use Rattle.std.proofs.Math.Path.{subst⁻¹}
use Rattle.writing.specs.Writes.{Writes}
use Rattle.writing.specs.Prints.{Prints}
use Rattle.text.specs.Text.{newline}
use Rattle.refusals.specs.Refusal.{refused_at}
use Rattle.half_degrees.specs.Half.{signed, InHalves, Halved}
use Rattle.degrees.specs.Degrees.{degrees}
use Rattle.thermometer.specs.declared.temperatures.Answer.{Answer}
use Rattle.thermometer.specs.declared.temperatures.Answer.TheVariants.{Reading, NoReading, Dark, Unknown, NotAReading, NoPart, OutOfRange, NoField}

-- The line of each answer.
abbrev pub Lined : Answer → List ℕ → Type 0
Lined (Reading f) line = (h : ℤ) × InHalves f h × (line ≡ degrees h ++ (newline ∷ []))
Lined NoReading line =
    line
    ≡ code "n" ∷ code "o" ∷ code " " ∷ code "r" ∷ code "e" ∷ code "a" ∷ code "d" ∷ code "i" ∷ code "n" ∷ code "g" ∷ newline ∷ []
Lined Dark line = line ≡ code "d" ∷ code "a" ∷ code "r" ∷ code "k" ∷ newline ∷ []
Lined Unknown line = line ≡ code "u" ∷ code "n" ∷ code "k" ∷ code "n" ∷ code "o" ∷ code "w" ∷ code "n" ∷ newline ∷ []
Lined NotAReading line =
    line
    ≡ code "n" ∷ code "o" ∷ code "t" ∷ code " " ∷ code "a" ∷ code " " ∷ code "r" ∷ code "e" ∷ code "a" ∷ code "d" ∷ code "i" ∷ code "n" ∷ code "g" ∷ newline ∷ []
Lined (NoPart at) line = line ≡ refused_at 1 at.0
Lined (OutOfRange at) line = line ≡ refused_at 2 at.0
Lined (NoField at) line = line ≡ refused_at 11 at.0

pub lined_as : (a b : Answer) (line : List ℕ) → a ≡ b → Lined b line → Lined a line
lined_as a b line e h = subst⁻¹ (λ (x : Answer). Lined x line) e h

-- A reading that is some half degrees.
abbrev pub Printable : Answer → Type 0
Printable (Reading f) = Halved f
Printable NoReading = Unit
Printable Dark = Unit
Printable Unknown = Unit
Printable NotAReading = Unit
Printable (NoPart at) = Unit
Printable (OutOfRange at) = Unit
Printable (NoField at) = Unit

pub printable_as : (a : Answer) → ((f : Float) → a ≡ Reading f → Halved f) → Printable a
printable_as (Reading f) h = h f refl
printable_as NoReading h = tt
printable_as Dark h = tt
printable_as Unknown h = tt
printable_as NotAReading h = tt
printable_as (NoPart at) h = tt
printable_as (OutOfRange at) h = tt
printable_as (NoField at) h = tt

-- Every such answer has a line.
pub a_line : (a : Answer) → Printable a → (line : List ℕ) × Lined a line
a_line (Reading f) h = (degrees (signed h.negative h.halves) ++ (newline ∷ []), (signed h.negative h.halves, h.exact, refl))
a_line NoReading h = (_, refl)
a_line Dark h = (_, refl)
a_line Unknown h = (_, refl)
a_line NotAReading h = (_, refl)
a_line (NoPart at) h = (_, refl)
a_line (OutOfRange at) h = (_, refl)
a_line (NoField at) h = (_, refl)

-- The line stands at the front, as far as there is room.
pub record WritesLine (answer : Answer) (out : List ℕ) (r : ℕ) (out' : List ℕ) : Type 0 where
  pub line : List ℕ
  pub lined : Lined answer line
  pub written : Writes out 0 line r out'

-- Enough for every line.
abbrev pub room : ℕ
room = 64

-- The line stands at the front whole, or nothing is written (`writing/Prints`).
pub record PrintsLine (answer : Answer) (out : List ℕ) (r : ℕ) (out' : List ℕ) : Type 0 where
  pub line : List ℕ
  pub lined : Lined answer line
  pub printed : Prints room line out r out'
