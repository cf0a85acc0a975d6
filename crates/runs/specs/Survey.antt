-- How the cells that differ lie, as code counts them. `codes` tell what is known of the cells, and w are the wanted cells.
-- The argument: a cell more adds itself where it differs, and a start where the cell before it does not; where all differ, none is found so, and there is
-- one.
use Rattle.std.specs.Prelude.{ℕ, zero, suc, ◌+◌, ◌-◌, ◌<◌, ◌≤◌, ◌≡◌, refl, Bool, true, false, not, ◌&&◌, List, [], ◌∷◌, length, get_or, eqb}
use Rattle.std.proofs.Common.{arith, add-one, sym, ap, ◌∙◌, true≢false, length-append, ne_eqb}
use Rattle.rules.specs.Choice.{whether}
use Rattle.knowing.specs.Holds.{holds}
use Rattle.lamps.specs.View.{shown}
use Rattle.survey.specs.declared.Survey.{Survey}
use Rattle.runs.specs.Runs.{those, before, wanted, differing, all, starts, starts_of}
use Rattle.runs.specs.Linear.{those_most, those_split, those_none, not_all, start_if, starts_not}
use Rattle.runs.specs.Front.{leading, leading_most, leading_more, front_of}

-- Cell i is not known to hold its wanted byte.
abbrev pub differ : List ℕ → List ℕ → ℕ → Bool
differ codes w i = not (holds 8 (shown 8 (get_or codes i 0)) (wanted w i))

-- How many cells differ, in how many runs, and the front of the ring.
pub record Surveyed (n : ℕ) (d : ℕ → Bool) (r : Survey) : Type 0 where
  pub cells : r.cells ≡ length (differing n d)
  pub runs : r.runs ≡ length (starts_of n d)
  pub front : r.front ≡ front_of n d

-- One number more.
count_more : (t : ℕ → Bool) (m : ℕ) → length (those t (m + 1) 0) ≡ length (those t m 0) + whether (t m) 1 0
count_more t m =
    let z : 0 + m ≡ m = omega arith in
    ap length (those_split t m 1 0)
    ∙ length-append (those t m 0) (those t 1 (0 + m))
    ∙ ap (λ (k : ℕ). length (those t m 0) + length (those t 1 k)) z
    ∙ ap (λ (k : ℕ). length (those t m 0) + k) (go (t m))
  where
    go : (b : Bool) → length (whether b (m ∷ []) []) ≡ whether b 1 0
    go true = refl
    go false = refl

-- Behind the last cell, the one before is the last.
pub before_end : (n : ℕ) → 0 < n → before n n ≡ n - 1
before_end zero h = absurd (omega arith)
before_end (suc n) h = omega arith

module _ (n : ℕ) (d : ℕ → Bool) where
  -- A cell that differs behind one that does not.
  abbrev pub begins : ℕ → Bool
  begins i = d i && not (d (before n i))

  -- What is counted of the first i cells: those that differ, where runs begin, how many lead, and whether the one before cell i differs.
  pub record Passed (i cells runs lead : ℕ) (last : Bool) : Type 0 where
    pub differed : cells ≡ length (those d i 0)
    pub begun : runs ≡ length (those begins i 0)
    pub led : lead ≡ leading d i 0
    pub before_it : last ≡ d (before n i)

  pub none_passed : (last : Bool) → last ≡ d (n - 1) → Passed 0 0 0 0 last
  none_passed last e = record { differed = refl; begun = refl; led = refl; before_it = e }

  leads_more : (m : ℕ) → leading d (m + 1) 0 ≡ leading d m 0 + whether (eqb (leading d m 0) m && d m) 1 0
  leads_more m =
      let z : 0 + m ≡ m = omega arith in
      ap (λ (k : ℕ). leading d k 0) (add-one m) ∙ leading_more d m 0 ∙ ap (λ (k : ℕ). whether (eqb (leading d m 0) m && d k) (suc (leading d m 0)) (leading d m 0)) z
      ∙ go (eqb (leading d m 0) m && d m) (leading d m 0)
    where
      go : (b : Bool) (x : ℕ) → whether b (suc x) x ≡ x + whether b 1 0
      go true x = omega arith
      go false x = omega arith

  pub one_passed : (i cells runs lead : ℕ) (last here : Bool) (cells' runs' lead' : ℕ) → Passed i cells runs lead last → here ≡ d i
      → cells' ≡ cells + whether here 1 0 → runs' ≡ runs + whether (here && not last) 1 0 → lead' ≡ lead + whether (eqb lead i && here) 1 0
      → Passed (i + 1) cells' runs' lead' here
  one_passed i cells runs lead last here cells' runs' lead' p h c r l = record {
    differed = c ∙ rw (p.differed, h) (sym (count_more d i));
    begun = r ∙ rw (p.begun, h, p.before_it) (sym (count_more begins i));
    led = l ∙ rw (p.led, h) (sym (leads_more i));
    before_it = h ∙ ap (λ (k : ℕ). d (before n k)) (sym (add-one i));
  }

  -- None of them is more than i.
  pub passed_most : (i cells runs lead : ℕ) (last : Bool) → Passed i cells runs lead last → (cells ≤ i) × (runs ≤ i) × (lead ≤ i)
  passed_most i cells runs lead last p = (
    omega (arith, p.differed, those_most d i 0),
    omega (arith, p.begun, those_most begins i 0),
    omega (arith, p.led, leading_most d i 0),
  )

  same_those : (t u : ℕ → Bool) (m i : ℕ) → ((j : ℕ) → t j ≡ u j) → those t m i ≡ those u m i
  same_those t u zero i h = refl
  same_those t u (suc m) i h = rw (h i, same_those t u m (suc i) h) refl

  -- Where not all differ, those are the starts; where all do, the start is 00H.
  pub some_differ : all n d ≡ false → length (starts_of n d) ≡ length (those begins n 0)
  some_differ a = ap length (same_those (starts n d) begins n 0 (λ j. rw a refl))

  pub all_one : 0 < n → all n d ≡ true → length (starts_of n d) ≡ 1
  all_one h a =
      let z : n ≡ 1 + (n - 1) = omega arith in
      let first : starts n d 0 ≡ true = start_if n d 0 true a (differs_first (d 0) refl) in
      let rest : those (starts n d) (n - 1) 1 ≡ [] = those_none (starts n d) (n - 1) 1 (λ j g l. later j g (d j) refl) in
      ap (λ (m : ℕ). length (those (starts n d) m 0)) z ∙ ap length (those_split (starts n d) 1 (n - 1) 0)
      ∙ rw (first, rest) refl
    where
      differs_first : (b : Bool) → d 0 ≡ b → d 0 ≡ true
      differs_first true e = e
      differs_first false e = absurd (true≢false (sym a ∙ not_all n d 0 h e))

      later : (j : ℕ) → 1 ≤ j → (b : Bool) → d j ≡ b → starts n d j ≡ false
      later j g true e = start_if n d j true a e ∙ ne_eqb j 0 (λ q. omega arith)
      later j g false e = starts_not n d j e

  -- What is found behind the last cell.
  pub surveyed : (cells runs lead : ℕ) (last : Bool) (r : Survey) → 0 < n → Passed n cells runs lead last
      → r ≡ whether (eqb cells n) (record { cells = cells; runs = 1; front = 0 }) (record { cells = cells; runs = runs; front = whether last lead 0 }) → Surveyed n d r
  surveyed cells runs lead last r h p e = rw e (rw (p.differed, p.begun, p.led, p.before_it, before_end n h) (go (all n d) refl))
    where
      go : (a : Bool) → all n d ≡ a
          → Surveyed n d (whether (all n d) (record { cells = length (differing n d); runs = 1; front = 0 })
          (record { cells = length (differing n d); runs = length (those begins n 0); front = whether (d (n - 1)) (leading d n 0) 0 }))
      go true a = rw a (record { cells = refl; runs = sym (all_one h a); front = rw a refl })
      go false a = rw a (record { cells = refl; runs = sym (some_differ a); front = rw a refl })
