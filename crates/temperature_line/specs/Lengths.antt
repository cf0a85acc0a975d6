-- No line is longer than the room that is asked for, and every answer has one line.
use Rattle.std.specs.Prelude.{ℕ, ◌≤◌, ◌≡◌, List, [], ◌∷◌, ◌++◌, length, ℤ}
use Rattle.std.proofs.Common.{arith, sym, ap, ◌∙◌, length-append}
use Rattle.text.specs.Text.{newline}
use Rattle.refusals.specs.Refusal.{refused_length}
use Rattle.half_degrees.specs.Laws.{one_number}
use Rattle.degrees.specs.Degrees.{degrees, degrees_length}
use Rattle.thermometer.specs.declared.temperatures.Answer.{Answer}
use Rattle.thermometer.specs.declared.temperatures.Answer.TheVariants.{Reading, NoReading, Dark, Unknown, NotAReading, NoPart, OutOfRange, NoField}
use Rattle.temperature_line.specs.Line.{Lined, room}

pub line_length : (a : Answer) (line : List ℕ) → Lined a line → length line ≤ room
line_length (Reading f) line (h, v, e) = omega (arith, ap length e, length-append (degrees h) (newline ∷ []), degrees_length h)
line_length NoReading line e = omega (arith, ap length e)
line_length Dark line e = omega (arith, ap length e)
line_length Unknown line e = omega (arith, ap length e)
line_length NotAReading line e = omega (arith, ap length e)
line_length (NoPart at) line e = omega (arith, ap length e, refused_length 1 at.0)
line_length (OutOfRange at) line e = omega (arith, ap length e, refused_length 2 at.0)
line_length (NoField at) line e = omega (arith, ap length e, refused_length 11 at.0)

-- A float is one number of half degrees, and so an answer has one line.
pub one_line : (a : Answer) (x y : List ℕ) → Lined a x → Lined a y → x ≡ y
one_line (Reading f) x y (h, v, e) (j, w, d) = e ∙ ap (λ (z : ℤ). degrees z ++ (newline ∷ [])) (one_number f h j v w) ∙ sym d
one_line NoReading x y e d = e ∙ sym d
one_line Dark x y e d = e ∙ sym d
one_line Unknown x y e d = e ∙ sym d
one_line NotAReading x y e d = e ∙ sym d
one_line (NoPart at) x y e d = e ∙ sym d
one_line (OutOfRange at) x y e d = e ∙ sym d
one_line (NoField at) x y e d = e ∙ sym d
