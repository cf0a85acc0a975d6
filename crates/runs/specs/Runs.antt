-- Runs around a ring of n cells (paper 02, M-102): the cells that differ, "as runs around the ring of cells, each run in its own strobe behind its
-- address, in rising order of start; all cells together start at 00H". `d i` says that cell i differs, and `w i` is its wanted byte.
use Rattle.std.specs.Prelude.{ℕ, zero, suc, ◌+◌, ◌-◌, Bool, not, ◌&&◌, List, [], ◌∷◌, ◌++◌, map, length, get_or, eqb, ltb}
use Rattle.rules.specs.Choice.{whether}
use Rattle.terms.specs.declared.Event.{Event}
use Rattle.terms.specs.Event.{strobe}

-- The numbers of which t holds, in rising order, among the m from i on.
abbrev pub those : (ℕ → Bool) → ℕ → ℕ → List ℕ
those t zero i = []
those t (suc m) i = whether (t i) (i ∷ those t m (suc i)) (those t m (suc i))

-- The cell before cell i, and the one behind it, around the ring.
abbrev pub before : ℕ → ℕ → ℕ
before n zero = n - 1
before n (suc i) = i

abbrev pub behind : ℕ → ℕ → ℕ
behind n i = whether (ltb (i + 1) n) (i + 1) 0

-- The wanted byte of cell i.
abbrev pub wanted : List ℕ → ℕ → ℕ
wanted w i = get_or w i 0

module _ (n : ℕ) (d : ℕ → Bool) where
  -- The cells that differ, and whether these are all.
  abbrev pub differing : List ℕ
  differing = those d n 0

  abbrev pub all : Bool
  all = eqb (length differing) n

  -- A run starts at a cell that differs and stands behind one that does not; all cells together start at 00H.
  abbrev pub starts : ℕ → Bool
  starts i = d i && whether all (eqb i 0) (not (d (before n i)))

  abbrev pub starts_of : List ℕ
  starts_of = those starts n 0

  -- The cells in a row from cell i on around the ring that differ, m at most.
  abbrev pub row : ℕ → ℕ → List ℕ
  row zero i = []
  row (suc m) i = whether (d i) (i ∷ row m (behind n i)) []

  -- The cell behind these.
  abbrev pub row_end : ℕ → ℕ → ℕ
  row_end zero i = i
  row_end (suc m) i = whether (d i) (row_end m (behind n i)) i

  -- The cells of the run that starts at cell i, and the cell behind it.
  abbrev pub run : ℕ → List ℕ
  run i = row n i

  abbrev pub run_end : ℕ → ℕ
  run_end i = row_end n i

  -- The cell behind the last of the runs that start at these cells; e where there is none.
  abbrev pub last_end : ℕ → List ℕ → ℕ
  last_end e [] = e
  last_end e (i ∷ is) = last_end (run_end i) is

  module _ (w : ℕ → ℕ) where
    -- Each run in its own strobe, behind its address.
    abbrev pub run_strobe : ℕ → List Event
    run_strobe i = strobe ((0xC0 + i) ∷ map w (run i))

    -- The strobes of the runs that start at these cells, in turn.
    abbrev pub strobes_of : List ℕ → List Event
    strobes_of [] = []
    strobes_of (i ∷ is) = run_strobe i ++ strobes_of is

    abbrev pub run_events : List Event
    run_events = strobes_of starts_of
