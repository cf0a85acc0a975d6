-- The unfinished bytes as a row: where it starts, and how long its record is.
use Rattle.std.specs.Prelude.{ℕ, suc, ◌-◌, List, [], ◌∷◌, length, get_or}
use Rattle.recording.specs.Record.{body_of}
use Rattle.account.specs.declared.unfinished.Unfinished.{Unfinished}
use Rattle.account.specs.declared.unfinished.Unfinished.TheVariants.{None, One, Two, Three, Four}

abbrev pub bytes_of : Unfinished → List ℕ
bytes_of None = []
bytes_of (One a) = a ∷ []
bytes_of (Two a b) = a ∷ b ∷ []
bytes_of (Three a b c) = a ∷ b ∷ c ∷ []
bytes_of (Four a b c d) = a ∷ b ∷ c ∷ d ∷ []

-- The first four bytes of a row, with noughts where it has no more; and the first five, as long as the longest record.
abbrev pub row_of : List ℕ → List ℕ
row_of l = get_or l 0 0 ∷ get_or l 1 0 ∷ get_or l 2 0 ∷ get_or l 3 0 ∷ []

abbrev pub first_five : List ℕ → List ℕ
first_five l = get_or l 0 0 ∷ get_or l 1 0 ∷ get_or l 2 0 ∷ get_or l 3 0 ∷ get_or l 4 0 ∷ []

-- The place of the first unfinished byte, counted from the first packet's first byte; with none, of the next one to come.
abbrev pub first_place : Unfinished → ℕ → ℕ
first_place u total = total - length (bytes_of u)

-- The length of the record that a row starts.
abbrev pub whole_of : List ℕ → ℕ
whole_of l = suc (body_of (get_or l 0 0))
