-- What a run of bytes puts.
use Rattle.std.specs.Prelude.{ℕ, ◌+◌, ◌<◌, ◌≤◌, ◌≡◌, List, eqb}
use Rattle.std.proofs.Common.{add-one, ap, ◌∙◌}
use Rattle.rules.specs.Choice.{whether}
use Rattle.knowing.specs.Standing.{Standing}
use Rattle.lamps.specs.View.{held, told, Wide}
use Rattle.changes.specs.Change.{stored_run}
use Rattle.walks.specs.Run.{Run, byte_of}

-- Of a row l, the row r that has n bytes put one behind the other, from `first` on.
abbrev pub Stored : ℕ → ℕ → (ℕ → ℕ) → List ℕ → ℕ → List ℕ → Type 0
Stored wide first b l n r = (w : ℕ) → Wide w wide → (i k : ℕ) → held w r i k ≡ stored_run w first b n (held w l) i k

-- One byte more.
pub stored_more : (wide first : ℕ) (b : ℕ → ℕ) (l : List ℕ) (n : ℕ) (m r : List ℕ) → Stored wide first b l n m
    → ((w : ℕ) → Wide w wide → (i k : ℕ) → held w r i k ≡ whether (eqb i (first + n)) (told w (b n) k (held w m i k)) (held w m i k)) → Stored wide first b l (n + 1) r
stored_more wide first b l n m r h put w W i k = rw (add-one n) (put w W i k ∙ ap (λ (s : Standing). whether (eqb i (first + n)) (told w (b n) k s) s) (h w W i k))

-- The n bytes from a place on stand in the codes r one behind the other, from `first` on and within so many cells; all other codes are those of l.
pub record PutsRun (wide first cells : ℕ) (bytes : List ℕ) (from : ℕ) (l : List ℕ) (n : ℕ) (r : List ℕ) : Type 0 where
  pub some : 0 < n
  pub run : Run bytes from n
  pub room : first + n ≤ cells
  pub stored : Stored wide first (byte_of bytes from) l n r
