-- The program "reads the part byte and a recording" (paper 01, the last paragraph of "Examples").
use Rattle.std.specs.Prelude.{ℕ, List, [], ◌∷◌}

-- The part byte of an input and the recording behind it. "Empty input prints refused 1 at 0": it counts as the part
-- byte 0, which names no part.
abbrev pub part_byte : List ℕ → ℕ
part_byte [] = 0
part_byte (byte ∷ rest) = byte

abbrev pub behind : List ℕ → List ℕ
behind [] = []
behind (byte ∷ rest) = rest

-- The start of a temperature field stands behind the part byte. Where it is missing it counts as 255, at which no field
-- starts.
abbrev pub start_in : List ℕ → ℕ
start_in [] = 255
start_in (start ∷ rest) = start

abbrev pub start_byte : List ℕ → ℕ
start_byte input = start_in (behind input)
