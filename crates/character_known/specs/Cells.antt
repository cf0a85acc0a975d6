-- A byte to DCRAM or ADRAM at an unknown address: where code meets all sixteen cells, and leaves the other facts, it does what the rule says. Here k is
-- what was known, and s what is known now.
use Rattle.std.specs.Prelude.{ℕ, ◌≡◌, refl}
use Rattle.std.proofs.Common.{arith, ◌∙◌}
use Rattle.rules.specs.Rule.{look}
use Rattle.rules.specs.Choice.{whether}
use Rattle.knowing.specs.Standing.{Standing, unknown}
use Rattle.knowing.specs.Know.{common, know}
use Rattle.knowing.specs.Look.{look_unknown}
use Rattle.lamps.specs.View.{met}
use Rattle.changes.specs.Change.{among}
use Rattle.changes.specs.Laws.{met_or_not}
use Rattle.character.specs.Fact.{Fact, same?, range, dcram, cgram, adram, dcram_at, cgram_at, adram_at, column, port, duty, digits, lights, position}
use Rattle.character.specs.Laws.{every, dcram_apart, adram_apart}
use Rattle.character.specs.Move.{shown, marked}
use Rattle.character_known.specs.Row.{unlike, ram_of, elsewhere, ways, row_rest, row_cell, row_at}

-- What is known of the facts of other RAMs, and of none, is as it was.
abbrev pub Elsewhere : ℕ → (Fact → Standing) → (Fact → Standing) → Type 0
Elsewhere ram k s = (f : Fact) → ¬ (ram_of f ≡ ram) → s f ≡ k f

-- A byte b, of which w bits are stored, may have gone to any of n cells of a RAM, from `from` on, one in `by`.
abbrev pub Meets : (ℕ → ℕ → Fact) → (w from by n b : ℕ) → (Fact → Standing) → (Fact → Standing) → Type 0
Meets ram w from by n b k s = (i j : ℕ) → s (ram i j) ≡ whether (among from by n i) (met w b j (k (ram i j))) (k (ram i j))

module _ (ram : ℕ → ℕ → Fact) (at : Fact) (w b : ℕ) (apart : (i m j n : ℕ) → ram i m ≡ ram j n → (i ≡ j) × (m ≡ n)) (beside : (i n : ℕ) → ¬ (ram i n ≡ at)) (k s : Fact → Standing) where
  row_met : Meets ram w 0 1 16 b k s → (i n : ℕ) → s (ram i n) ≡ common 16 (ways ram at w b k (ram i n))
  row_met m i n =
      m i n
      ∙ met_or_not w 0 1 16 b i n (k (ram i n)) (common 16 (ways ram at w b k (ram i n)))
      (λ j h e l. row_cell ram at w b k apart beside i n (omega arith) l)
      (λ o. row_rest ram at w b k apart beside (ram i n) (beside i n) (λ j h m l e. let z = apart i n j m e in o j h (omega arith) (omega arith)))

  -- A fact of another RAM, or of none.
  row_else : (f : Fact) → ¬ (ram_of f ≡ ram_of at) → ((i n : ℕ) → ram_of (ram i n) ≡ ram_of at) → s f ≡ k f → s f ≡ common 16 (ways ram at w b k f)
  row_else f n one e = e ∙ row_rest ram at w b k apart beside f (elsewhere f at n) (λ i h j l. elsewhere f (ram i j) (λ z. n (z ∙ one i j)))

pub dcram_open : (k s : Fact → Standing) (b : ℕ) → k dcram_at ≡ unknown → Meets dcram 8 0 1 16 b k s → s dcram_at ≡ unknown → Elsewhere 0 k s
    → (f : Fact) → s f ≡ know same? range (look dcram_at (shown b)) k f
dcram_open k s b u m at same f =
    look_unknown same? range dcram_at (shown b) k f (s f) u
    (every (λ (f : Fact). s f ≡ common 16 (ways dcram dcram_at 8 b k f))
    (row_met dcram dcram_at 8 b dcram_apart beside k s m)
    (λ i j. plain (cgram i j) (λ z. omega arith)) (λ i j. plain (adram i j) (λ z. omega arith))
    (at ∙ row_at dcram dcram_at 8 b k dcram_apart beside)
    (plain cgram_at (λ z. omega arith)) (plain adram_at (λ z. omega arith)) (plain column (λ z. omega arith)) (λ j. plain (port j) (λ z. omega arith)) (plain duty (λ z. omega arith))
    (plain digits (λ z. omega arith)) (plain lights (λ z. omega arith)) (plain position (λ z. omega arith)) f)
  where
    beside : (i j : ℕ) → ¬ (dcram i j ≡ dcram_at)
    beside i j = unlike (dcram i j) dcram_at (λ z. omega arith)

    plain : (f : Fact) → ¬ (ram_of f ≡ 0) → s f ≡ common 16 (ways dcram dcram_at 8 b k f)
    plain f n = row_else dcram dcram_at 8 b dcram_apart beside k s f n (λ i j. refl) (same f n)

pub adram_open : (k s : Fact → Standing) (b : ℕ) → k adram_at ≡ unknown → Meets adram 2 0 1 16 b k s → s adram_at ≡ unknown → Elsewhere 2 k s
    → (f : Fact) → s f ≡ know same? range (look adram_at (marked b)) k f
adram_open k s b u m at same f =
    look_unknown same? range adram_at (marked b) k f (s f) u
    (every (λ (f : Fact). s f ≡ common 16 (ways adram adram_at 2 b k f))
    (λ i j. plain (dcram i j) (λ z. omega arith)) (λ i j. plain (cgram i j) (λ z. omega arith))
    (row_met adram adram_at 2 b adram_apart beside k s m)
    (plain dcram_at (λ z. omega arith)) (plain cgram_at (λ z. omega arith))
    (at ∙ row_at adram adram_at 2 b k adram_apart beside)
    (plain column (λ z. omega arith)) (λ j. plain (port j) (λ z. omega arith)) (plain duty (λ z. omega arith))
    (plain digits (λ z. omega arith)) (plain lights (λ z. omega arith)) (plain position (λ z. omega arith)) f)
  where
    beside : (i j : ℕ) → ¬ (adram i j ≡ adram_at)
    beside i j = unlike (adram i j) adram_at (λ z. omega arith)

    plain : (f : Fact) → ¬ (ram_of f ≡ 2) → s f ≡ common 16 (ways adram adram_at 2 b k f)
    plain f n = row_else adram adram_at 2 b adram_apart beside k s f n (λ i j. refl) (same f n)
