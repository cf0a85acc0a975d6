-- The memory that is known, as the program prints it (paper 01, the last paragraph of "Examples").
use Rattle.std.specs.Prelude.{ℕ, List, [], ◌∷◌, ◌++◌, Ok, Err}
use Prim.Native.Char.{code}
use Rattle.terms.specs.declared.Part.TheVariants.{Pt6302, Pt6312, Pt6315}
use Rattle.terms.specs.Part.{PartRead}
use Rattle.panel.specs.declared.Panel.{Panel}
use Rattle.lines.specs.declared.rows.Names.TheVariants.{Addresses, Characters}
use Rattle.lines.specs.Lines.{line, lines, named}

-- The marks of a cell of which every bit is known: eight bits, seven of a column, two of a pair.
abbrev pub cell_marks : ℕ
cell_marks = 0xFF

abbrev pub column_marks : ℕ
column_marks = 0x7F

abbrev pub pair_marks : ℕ
pair_marks = 0x03

-- "By digit": two cells a line on PT6312, "PT6315 has three".
abbrev pub digits : ℕ → ℕ → List ℕ → List ℕ
digits width n cells = lines cell_marks (named Addresses width) width n 0 cells

-- "G0: to G7: with five".
abbrev pub characters : List ℕ → List ℕ
characters cgram = lines column_marks (named Characters 5) 5 8 0 cgram

-- "D: with 16, G0: to G7: with five, A: with 16".
abbrev pub rams : List ℕ → List ℕ → List ℕ → List ℕ
rams dcram cgram adram = line cell_marks (code "D" ∷ []) dcram ++ (characters cgram ++ line pair_marks (code "A" ∷ []) adram)

-- The memory of a part, 11 digits of PT6312 and 12 of PT6315.
abbrev pub memory : PartRead → Panel → List ℕ
memory (Ok Pt6302) k = rams k.character.dcram k.character.cgram k.character.adram
memory (Ok Pt6312) k = digits 2 11 k.segment.cells
memory (Ok Pt6315) k = digits 3 12 k.segment.cells
memory (Err e) k = []
