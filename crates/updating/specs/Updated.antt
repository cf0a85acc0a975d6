-- The chip that was c after an update, and what is known then: the cells hold the wanted bytes, bit by bit, and nothing else has changed but the address, the
-- position and, where 40H was sent, what a data setting sets (paper 02, M-102 and M-107).
use Rattle.std.specs.Prelude.{ℕ, Bool, List, [], ◌∷◌, length, eqb, ltb}
use Rattle.rules.specs.Choice.{whether}
use Rattle.rules.specs.Digit.{digit}
use Rattle.knowing.specs.Standing.{Standing, known}
use Rattle.segment.specs.declared.Sizes.{Sizes}
use Rattle.segment.specs.declared.Pointer.TheVariants.{At}
use Rattle.segment.specs.declared.Data.TheVariants.{WriteDisplay}
use Rattle.segment.specs.declared.Stepping.TheVariants.{Increment}
use Rattle.segment.specs.declared.Position.TheVariants.{Idle}
use Rattle.segment.specs.Fact.{Fact, cell, address, data_mode, stepping, mode, dimming, display, led, key, switches, read_count, position, cell_bits}
use Rattle.segment.specs.Value.{pointer, data_mode_of, steps, at_position}
use Rattle.runs.specs.Runs as Runs
use Rattle.updating.specs.Update.{differs, differing, starts, sends40}

module _ (s : Sizes) (k : Fact → Standing) (w : List ℕ) where
  -- Nothing differs.
  abbrev pub nothing : Bool
  nothing = eqb (length (differing s k w)) 0

  -- The address behind the run that starts at cell i, and behind the last of several runs; a where there is none.
  abbrev pub run_address : ℕ → ℕ
  run_address i = pointer (At (record { 0 = Runs.run_end s.cells (differs s k w) i }))

  abbrev pub last_address : {A : Type 0} → (ℕ → A) → List ℕ → A → A
  last_address of [] a = a
  last_address of (i ∷ is) a = last_address of is (of (run_address i))

  abbrev pub updated : (Fact → ℕ) → Fact → ℕ
  updated c (cell i j) = whether (ltb i s.cells) (whether (ltb j cell_bits) (digit j (Runs.wanted w i)) (c (cell i j))) (c (cell i j))
  updated c address = last_address (λ a. a) (starts s k w) (c address)
  updated c data_mode = whether (sends40 s k w) (data_mode_of WriteDisplay) (c data_mode)
  updated c stepping = whether (sends40 s k w) (steps Increment) (c stepping)
  updated c mode = c mode
  updated c dimming = c dimming
  updated c display = c display
  updated c (led j) = c (led j)
  updated c (key i) = c (key i)
  updated c switches = c switches
  updated c read_count = whether (sends40 s k w) 0 (c read_count)
  updated c position = whether nothing (c position) (at_position Idle)

  -- What is then known, fact by fact: what the update sets, and else what was known.
  abbrev pub known_after : Fact → Standing
  known_after (cell i j) = whether (ltb i s.cells) (whether (ltb j cell_bits) (known (digit j (Runs.wanted w i))) (k (cell i j))) (k (cell i j))
  known_after address = last_address known (starts s k w) (k address)
  known_after data_mode = whether (sends40 s k w) (known (data_mode_of WriteDisplay)) (k data_mode)
  known_after stepping = whether (sends40 s k w) (known (steps Increment)) (k stepping)
  known_after mode = k mode
  known_after dimming = k dimming
  known_after display = k display
  known_after (led j) = k (led j)
  known_after (key i) = k (key i)
  known_after switches = k switches
  known_after read_count = whether (sends40 s k w) (known 0) (k read_count)
  known_after position = whether nothing (k position) (known (at_position Idle))
