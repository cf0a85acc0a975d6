-- How the program writes numbers and what is known of a cell (paper 01, the last paragraph of "Examples"). Text is a list of ASCII codes.
use Rattle.std.specs.Prelude.{ℕ, zero, suc, ◌+◌, ◌-◌, ◌/◌, ◌%◌, List, [], ◌∷◌, ◌++◌, eqb, ltb}
use Prim.Native.Char.{code}
use Rattle.rules.specs.Choice.{whether}

-- "Every line ends in 0AH."
abbrev pub newline : ℕ
newline = 0x0A

-- A digit: 0 to 9, then A to F, for "hex is upper case".
abbrev pub digit : ℕ → ℕ
digit n = whether (ltb n 10) (code "0" + n) (code "A" + (n - 10))

-- Two hex digits.
abbrev pub hex : ℕ → List ℕ
hex byte = digit (byte / 16) ∷ digit (byte % 16) ∷ []

-- A number in decimal, of at most k digits: those of a tenth of it, then the last.
abbrev pub decimal_in : ℕ → ℕ → List ℕ
decimal_in zero n = []
decimal_in (suc k) n = whether (ltb n 10) (digit n ∷ []) (decimal_in k (n / 10) ++ (digit (n % 10) ∷ []))

-- Twenty digits are enough for every place, which is below 2^64.
abbrev pub decimal : ℕ → List ℕ
decimal n = decimal_in 20 n

-- What is known of a cell, by its code, whose upper byte has the marks of the bits that are known, and whose lower byte the
-- values: where all marks are set, that value; "a cell with any bit unknown prints as ??" (M-107). `full` has all marks.
abbrev pub shown : ℕ → ℕ → List ℕ
shown full c = whether (eqb (c / 256) full) (hex (c % 256)) (code "?" ∷ code "?" ∷ [])
