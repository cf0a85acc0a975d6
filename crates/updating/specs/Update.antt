-- What an update sends (paper 02, M-102): "given the knowledge and the wanted cells, emit only the cells that are unknown or different, as runs around
-- the ring of cells". Of a part with the sizes s, k is what is known, and w are the wanted cells.
use Rattle.std.specs.Prelude.{ℕ, ◌+◌, Bool, not, ◌&&◌, List, [], ◌∷◌, ◌++◌, length, eqb}
use Rattle.rules.specs.Choice.{whether}
use Rattle.knowing.specs.Standing.{Standing}
use Rattle.knowing.specs.Holds.{is_known, holds}
use Rattle.terms.specs.declared.Event.{Event}
use Rattle.terms.specs.Event.{strobe}
use Rattle.segment.specs.declared.Sizes.{Sizes}
use Rattle.segment.specs.declared.Data.TheVariants.{WriteDisplay}
use Rattle.segment.specs.declared.Stepping.TheVariants.{Increment}
use Rattle.segment.specs.Fact.{Fact, cell, data_mode, stepping, cell_bits}
use Rattle.segment.specs.Value.{data_mode_of, steps}
use Rattle.runs.specs.Runs as Runs

-- For a ring of n cells, of which `d` says which differ and `w` has the wanted bytes; `set` says that the data setting is known to be write display and
-- increment.
module _ (n : ℕ) (d : ℕ → Bool) (set : Bool) where
  -- "If the data setting isn't known to be write display and increment, a 40H strobe goes first. Nothing to change emits nothing."
  abbrev pub needs40 : Bool
  needs40 = not set && not (eqb (length (Runs.differing n d)) 0)

  abbrev pub setting_events : List Event
  setting_events = whether needs40 (strobe (0x40 ∷ [])) []

  abbrev pub sent_events : (ℕ → ℕ) → List Event
  sent_events w = setting_events ++ Runs.run_events n d w

  -- "The count of wire bytes: cells plus runs, plus one for that 40H if it is sent."
  abbrev pub sent_bytes : ℕ
  sent_bytes = length (Runs.differing n d) + length (Runs.starts_of n d) + whether needs40 1 0

-- The data setting is known to be write display and increment.
abbrev pub is_set : (Fact → Standing) → Bool
is_set k = is_known (k data_mode) (data_mode_of WriteDisplay) && is_known (k stepping) (steps Increment)

module _ (s : Sizes) (k : Fact → Standing) (w : List ℕ) where
  -- The cell is unknown or different: not every bit of it is known to be the wanted byte's (M-107).
  abbrev pub differs : ℕ → Bool
  differs i = not (holds cell_bits (λ j. k (cell i j)) (Runs.wanted w i))

  -- The cells that differ, and those at which a run starts; and whether 40H is sent.
  abbrev pub differing : List ℕ
  differing = Runs.differing s.cells differs

  abbrev pub starts : List ℕ
  starts = Runs.starts_of s.cells differs

  abbrev pub sends40 : Bool
  sends40 = needs40 s.cells differs (is_set k)

  -- The events of an update, and how many of their bytes go over the wire.
  abbrev pub update_events : List Event
  update_events = sent_events s.cells differs (is_set k) (Runs.wanted w)

  abbrev pub wire_bytes : ℕ
  wire_bytes = sent_bytes s.cells differs (is_set k)
