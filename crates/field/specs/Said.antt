-- What may be told of a temperature field (paper 02, M-103): "a reading in half degrees", "no reading", "dark",
-- "unknown" or "not a reading".
use Rattle.std.specs.Prelude.{ℤ}
use Rattle.half_degrees.specs.Half.{signed}
use Rattle.field.specs.declared.spelling.Field.{Field}
use Rattle.field.specs.declared.spelling.Field.TheVariants.{Reads, NoReading, Dark, Unknown, NotAReading}

pub data Said : Type 0 where
  reading : ℤ → Said
  no_reading dark unknown not_a_reading : Said

-- As the code has it: a sign, true below nought, and how many half degrees.
abbrev pub said : Field → Said
said (Reads halves) = reading (signed halves.negative halves.size)
said NoReading = no_reading
said Dark = dark
said Unknown = unknown
said NotAReading = not_a_reading
