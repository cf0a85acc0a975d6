-- What it is to write a text into lent memory, from a place on, as far as there is room: every byte afterwards, and
-- the place behind the text.
use Rattle.std.specs.Prelude.{ℕ, ◌+◌, ◌-◌, min, ◌≡◌, List, length}
use Rattle.std.proofs.lemmas.List.Edits.{sets}

-- The place behind a text of n bytes, written at `at` into memory of that room: no further than its end.
abbrev pub behind : ℕ → ℕ → ℕ → ℕ
behind room at n = at + min n (room - at)

pub record Writes (out : List ℕ) (at : ℕ) (text : List ℕ) (r : ℕ) (out' : List ℕ) : Type 0 where
  pub place : r ≡ behind (length out) at (length text)
  pub bytes : out' ≡ sets out at text
