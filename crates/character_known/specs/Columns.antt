-- A column to CGRAM, of a knowledge as a value: where code meets the places that it may have gone to, and leaves the other facts, it does what the rule
-- says. Here k is what was known, and s what is known now.
use Rattle.std.specs.Prelude.{ℕ, ◌+◌, ◌*◌, ◌%◌, ◌<◌, ◌≡◌}
use Rattle.std.proofs.Common.{arith, sym, ◌∙◌}
use Rattle.std.proofs.Math.Path.{subst⁻¹}
use Rattle.rules.specs.Digit.{digit}
use Rattle.rules.specs.Rule.{look}
use Rattle.knowing.specs.Standing.{Standing, known, unknown}
use Rattle.knowing.specs.Know.{join, common, know}
use Rattle.knowing.specs.Look.{look_unknown}
use Rattle.changes.specs.Laws.{met_or_not}
use Rattle.character.specs.Fact.{Fact, same?, range, dcram, cgram, adram, dcram_at, cgram_at, adram_at, column, port, duty, digits, lights, position}
use Rattle.character.specs.Laws.{every, cgram_apart}
use Rattle.character.specs.Move.{drawn}
use Rattle.character_known.specs.Row.{ram_of, elsewhere}
use Rattle.character_known.specs.Cells.{Elsewhere, Meets}
use Rattle.character_known.specs.Drawn.{not_at, not_column, columns_rest, columns_cell, columns_column, columns_at, outer, characters_rest, characters_cell, characters_column, characters_at, places_rest, places_cell, places_column, places_at}

module _ (k s : Fact → Standing) (b : ℕ) (same : Elsewhere 1 k s) where
  -- Every fact is as T has it, where those of CGRAM are and T leaves the others.
  together : (T : Fact → Standing) → ((f : Fact) → ¬ (ram_of f ≡ 1) → k f ≡ T f) → ((i n : ℕ) → s (cgram i n) ≡ T (cgram i n)) → s cgram_at ≡ T cgram_at → s column ≡ T column
      → (f : Fact) → s f ≡ T f
  together T rest cells at col =
      every _ (λ i j. plain (dcram i j) (λ z. omega arith)) cells (λ i j. plain (adram i j) (λ z. omega arith)) (plain dcram_at (λ z. omega arith)) at (plain adram_at (λ z. omega arith)) col
      (λ j. plain (port j) (λ z. omega arith)) (plain duty (λ z. omega arith)) (plain digits (λ z. omega arith)) (plain lights (λ z. omega arith)) (plain position (λ z. omega arith))
    where
      plain : (f : Fact) → ¬ (ram_of f ≡ 1) → s f ≡ T f
      plain f n = same f n ∙ rest f n

  -- Each bit of a place is met or not.
  met : (from by n : ℕ) (T : Fact → Standing) → Meets cgram 7 from by n b k s
      → ((j m : ℕ) → j < n → m < 7 → join (k (cgram (from + by * j) m)) (known (digit m b)) ≡ T (cgram (from + by * j) m))
      → ((i m : ℕ) → ((j : ℕ) → j < n → (o : ℕ) → o < 7 → ¬ (cgram i m ≡ cgram (from + by * j) o)) → k (cgram i m) ≡ T (cgram i m)) → (i m : ℕ) → s (cgram i m) ≡ T (cgram i m)
  met from by n T meets here rest i m =
      meets i m
      ∙ met_or_not 7 from by n b i m (k (cgram i m)) (T (cgram i m))
      (λ j h e l. subst⁻¹ (λ (x : ℕ). join (k (cgram x m)) (known (digit m b)) ≡ T (cgram x m)) e (here j m h l))
      (λ p. rest i m (λ j h o l e. let z = cgram_apart i m (from + by * j) o e in p j h (omega arith) z.0))

  -- The character is known, the column is not.
  pub column_open : (a : ℕ) → k cgram_at ≡ known a → k column ≡ unknown → Meets cgram 7 (a % 8 * 5) 1 5 b k s → s cgram_at ≡ unknown → s column ≡ unknown
      → (f : Fact) → s f ≡ know same? range (look column (drawn b a)) k f
  column_open a e u m at col =
      together (know same? range (look column (drawn b a)) k)
      (λ f n. sym (columns_rest b a k u f (elsewhere f cgram_at n) (elsewhere f column n) (λ c h o l. elsewhere f (cgram (a % 8 * 5 + c) o) n)))
      (met (a % 8 * 5) 1 5 (know same? range (look column (drawn b a)) k) m here
      (λ i n p. sym (columns_rest b a k u (cgram i n) (not_at i n) (not_column i n) (λ c h. rw (one c) at (p c h)))))
      (at ∙ sym (columns_at b a k u e))
      (col ∙ sym (columns_column b a k u))
    where
      one : (j : ℕ) → 1 * j ≡ j
      one j = omega arith

      here : (j n : ℕ) → j < 5 → n < 7 → join (k (cgram (a % 8 * 5 + 1 * j) n)) (known (digit n b)) ≡ know same? range (look column (drawn b a)) k (cgram (a % 8 * 5 + 1 * j) n)
      here j n h l = rw (one j) (sym (columns_cell b a k u j n h l))

  -- The column is known, the character is not.
  pub character_open : (c : ℕ) → k cgram_at ≡ unknown → k column ≡ known c → Meets cgram 7 (c % 5) 5 8 b k s → s cgram_at ≡ unknown → s column ≡ known ((c % 5 + 1) % 5)
      → (f : Fact) → s f ≡ know same? range (look cgram_at (λ a. look column (drawn b a))) k f
  character_open c u e m at col f =
      look_unknown same? range cgram_at (λ a. look column (drawn b a)) k f (s f) u
      (together (λ (g : Fact). common 8 (outer b k g))
      (λ g n. characters_rest b k c e g (elsewhere g cgram_at n) (elsewhere g column n) (λ w h o l. elsewhere g (cgram (w * 5 + c % 5) o) n))
      (met (c % 5) 5 8 (λ (g : Fact). common 8 (outer b k g)) m here
      (λ i n p. characters_rest b k c e (cgram i n) (not_at i n) (not_column i n) (λ w h. rw (turned w) at (p w h))))
      (at ∙ characters_at b k c e)
      (col ∙ characters_column b k c e)
      f)
    where
      turned : (j : ℕ) → c % 5 + 5 * j ≡ j * 5 + c % 5
      turned j = omega arith

      here : (j n : ℕ) → j < 8 → n < 7 → join (k (cgram (c % 5 + 5 * j) n)) (known (digit n b)) ≡ common 8 (outer b k (cgram (c % 5 + 5 * j) n))
      here j n h l = rw (turned j) (characters_cell b k c e j n h l)

  -- Neither is known.
  pub place_open : k cgram_at ≡ unknown → k column ≡ unknown → Meets cgram 7 0 1 40 b k s → s cgram_at ≡ unknown → s column ≡ unknown
      → (f : Fact) → s f ≡ know same? range (look cgram_at (λ a. look column (drawn b a))) k f
  place_open u v m at col f =
      look_unknown same? range cgram_at (λ a. look column (drawn b a)) k f (s f) u
      (together (λ (g : Fact). common 8 (outer b k g))
      (λ g n. places_rest b k v g (elsewhere g cgram_at n) (elsewhere g column n) (λ i h o l. elsewhere g (cgram i o) n))
      (met 0 1 40 (λ (g : Fact). common 8 (outer b k g)) m (λ j n h l. places_cell b k v (0 + 1 * j) n (omega arith) l)
      (λ i n p. places_rest b k v (cgram i n) (not_at i n) (not_column i n) (λ j h. rw (one j) at (p j h))))
      (at ∙ places_at b k v)
      (col ∙ places_column b k v)
      f)
    where
      one : (j : ℕ) → 0 + 1 * j ≡ j
      one j = omega arith
