-- What a change does to a row of codes, what is left of one that may have happened or not, and what a run of bytes does.
use Rattle.std.specs.Prelude.{ℕ, zero, suc, ◌+◌, ◌*◌, ◌<◌, ◌≡◌, Bool, false, ◌||◌, List, eqb, length}
use Rattle.rules.specs.Choice.{whether}
use Rattle.knowing.specs.Standing.{Standing, unknown}
use Rattle.knowing.specs.Know.{join}
use Rattle.lamps.specs.View.{held, Wide, told, met, met_code, NonePast}
use Rattle.changes.specs.declared.Change.{Change}
use Rattle.changes.specs.declared.Change.TheVariants.{Keep, Put, Meet, Forget}

-- i is one of n numbers, from `from` on, one in `by`.
abbrev pub among : ℕ → ℕ → ℕ → ℕ → Bool
among from by zero i = false
among from by (suc n) i = eqb i (from + by * n) || among from by n i

-- What is known of bit k of code i after a change, by what was known before.
abbrev pub seen : ℕ → Change → ℕ → ℕ → Standing → Standing
seen w Keep i k s = s
seen w (Put a b) i k s = whether (eqb i a.0) (told w b k s) s
seen w (Meet a by n b) i k s = whether (among a.0 by n i) (met w b k s) s
seen w Forget i k s = unknown

-- The codes r are those of l after a change.
abbrev pub Changes : ℕ → Change → List ℕ → List ℕ → Type 0
Changes w x l r = (i k : ℕ) → held w r i k ≡ seen w x i k (held w l i k)

-- The codes r are those of l, but that what the code c says may have gone to n of them, from `from` on, one in `by`.
pub record Met (wide c : ℕ) (l : List ℕ) (from by n : ℕ) (r : List ℕ) : Type 0 where
  pub shows : (w : ℕ) → Wide w wide → NonePast w c → (i k : ℕ) → held w r i k ≡ whether (among from by n i) (met_code w c k (held w l i k)) (held w l i k)
  pub size : length r ≡ length l

-- What is known of a row after the bytes b 0, b 1, .. are put one behind the other from `at` on.
abbrev pub stored_run : ℕ → ℕ → (ℕ → ℕ) → ℕ → (ℕ → ℕ → Standing) → ℕ → ℕ → Standing
stored_run w at b zero m i k = m i k
stored_run w at b (suc j) m i k = seen w (Put (record { 0 = at + j }) (b j)) i k (stored_run w at b j m i k)

-- What is known of a bit after each of n bytes may have gone there.
abbrev pub met_run : ℕ → (ℕ → ℕ) → ℕ → ℕ → Standing → Standing
met_run w b zero k s = s
met_run w b (suc n) k s = met w (b n) k (met_run w b n k s)

-- What n + 1 bytes have in common.
abbrev pub shared_by : ℕ → (ℕ → ℕ) → ℕ → ℕ → Standing
shared_by w b zero k = told w (b 0) k unknown
shared_by w b (suc n) k = join (shared_by w b n k) (told w (b (suc n)) k unknown)

-- The change stays within a row of that many codes.
abbrev pub Inside : ℕ → Change → Type 0
Inside room Keep = Unit
Inside room (Put a b) = a.0 < room
Inside room (Meet a by n b) = (0 < by) × ((j : ℕ) → j < n → a.0 + by * j < room)
Inside room Forget = Unit

-- A change that may have happened or not.
abbrev pub loose : Change → Change
loose Keep = Keep
loose (Put a b) = Meet a 1 1 b
loose (Meet a by n b) = Meet a by n b
loose Forget = Forget
