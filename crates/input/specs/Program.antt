-- What a program ran on, where its stream could be read to its end.
use Rattle.std.specs.Prelude.{ℕ, ◌<◌, ◌≤◌, Option, List, length}
use Rattle.std.specs.Io.KnownBytes.{Consumes, IsAtEnd}

-- Bytes that stand for an input: all that its stream had left, or as many as there is room for.
pub record Stands (room : ℕ) (left : Option (List ℕ)) (bytes : List ℕ) : Type 0 where
  pub after : Option (List ℕ)
  pub taken : Consumes left after bytes
  pub fits : length bytes ≤ room
  pub whole : length bytes < room → IsAtEnd after
