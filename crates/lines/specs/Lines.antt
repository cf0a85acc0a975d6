-- Lines of what is known of cells (paper 01, the last paragraph of "Examples").
use Rattle.std.specs.Prelude.{ℕ, zero, suc, ◌*◌, List, [], ◌∷◌, ◌++◌, take, drop}
use Prim.Native.Char.{code}
use Rattle.text.specs.Text.{newline, digit, hex, shown}
use Rattle.lines.specs.declared.rows.Names.{Names}
use Rattle.lines.specs.declared.rows.Names.TheVariants.{Addresses, Characters}

-- Values, a space in front of each.
abbrev pub values : ℕ → List ℕ → List ℕ
values full [] = []
values full (c ∷ cs) = (code " " ∷ shown full c) ++ values full cs

-- A name, a colon, and the values.
abbrev pub line : ℕ → List ℕ → List ℕ → List ℕ
line full name cs = name ++ ((code ":" ∷ []) ++ (values full cs ++ (newline ∷ [])))

-- n lines of `width` values each, from line number i on, each with its name.
abbrev pub lines : ℕ → (ℕ → List ℕ) → ℕ → ℕ → ℕ → List ℕ → List ℕ
lines full name width zero i cs = []
lines full name width (suc n) i cs = line full (name i) (take width cs) ++ lines full name width n (suc i) (drop width cs)

-- The name of line number i of `width` values: the address of its first cell, or the number of its character.
abbrev pub named : Names → ℕ → ℕ → List ℕ
named Addresses width i = hex (i * width)
named Characters width i = code "G" ∷ digit i ∷ []
