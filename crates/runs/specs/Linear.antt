-- The runs as code writes them: once around the ring from a front before which no run starts, cell by cell, a strobe being open or not. The argument:
-- where no strobe is open, a cell that differs starts a run, and where one is open, none does; so what is written from a cell on is what is left of the
-- open run, and the runs that start ahead. For the same reason the cell behind the last one that differs, in the order in which they are written, is the
-- cell behind the last run.
use Prim.Native.Nat.{ℕ, zero, suc, ◌+◌, ◌-◌, ◌<◌, ◌≤◌}
use native.Mathlib.Omega.{arith}
use Rattle.std.specs.Prelude.{◌≡◌, ◌⊎◌, Bool, ◌&&◌, List, [], ◌∷◌, ◌++◌, map, length, eqb}
use Rattle.std.proofs.Math.Path.{refl, ap}
use Rattle.std.proofs.Common.{sym, ◌∙◌, true≢false, append_assoc, append-nil}
use Rattle.std.proofs.Math.Logic.{inl, inr}
use Rattle.std.proofs.Math.Bool.{true, false, not}
use borrow.Author.Tests.{eqb-true, ne_eqb}
use Rattle.rules.specs.Choice.{whether}
use Rattle.terms.specs.declared.Event.{Event}
use Rattle.terms.specs.declared.Event.TheVariants.{Falls, ByteIn, Rises}
use Rattle.terms.specs.Event.{strobe}
use Rattle.runs.specs.Runs.{those, before, behind, differing, all, starts, starts_of, row, row_end, last_end, run_strobe, strobes_of, run_events}
use Rattle.runs.specs.Walk.{walk, step_on, step_round, before_behind, behind_inside, walk_all}

-- A strobe that is low rises.
abbrev pub rises_if : Bool → List Event
rises_if low = whether low (Rises ∷ []) []

-- What is written at a cell, by whether a strobe is low, and whether the cell differs: its byte, at the start of a run behind a fall and the address; or
-- the end of a run.
abbrev pub cell_events : Bool → Bool → ℕ → ℕ → List Event
cell_events low true i b = whether low [] (Falls ∷ ByteIn (0xC0 + i) ∷ []) ++ (ByteIn b ∷ [])
cell_events low false i b = rises_if low

-- The cells of which t holds among m from cell i on around the ring, in the order in which one comes to them.
abbrev pub those_ahead : ℕ → (ℕ → Bool) → ℕ → ℕ → List ℕ
those_ahead n t zero i = []
those_ahead n t (suc m) i = whether (t i) (i ∷ those_ahead n t m (behind n i)) (those_ahead n t m (behind n i))

module _ (n : ℕ) (d : ℕ → Bool) (w : ℕ → ℕ) where
  -- What is written from cell i on, m cells around the ring; at the end a strobe that is low rises.
  abbrev pub goes : ℕ → ℕ → Bool → List Event
  goes zero i low = rises_if low
  goes (suc m) i low = cell_events low (d i) i (w i) ++ goes m (behind n i) (d i)

-- The cell behind the last that differs among m from cell i on around the ring; e where none does.
abbrev pub goes_end : ℕ → (ℕ → Bool) → ℕ → ℕ → ℕ → ℕ
goes_end n d zero i e = e
goes_end n d (suc m) i e = goes_end n d m (behind n i) (whether (d i) (behind n i) e)

-- Where writing may begin: a cell of the ring before which no run starts, and at which one starts if it differs.
pub record Front (n : ℕ) (d : ℕ → Bool) (f : ℕ) : Type 0 where
  pub inside : f < n
  pub none_before : (j : ℕ) → j < f → starts n d j ≡ false
  pub opens : d f ≡ true → starts n d f ≡ true

-- Of two tests that hold together the first holds.
pub and_left : (a b : Bool) → (a && b) ≡ true → a ≡ true
and_left true b e = refl
and_left false b e = absurd (true≢false (sym e))

-- How many numbers are among m from i on: at most m, and fewer where one is not.
pub those_most : (t : ℕ → Bool) (m i : ℕ) → length (those t m i) ≤ m
those_most t zero i = omega arith
those_most t (suc m) i = go (t i) (those_most t m (suc i))
  where
    go : (b : Bool) → length (those t m (suc i)) ≤ m → length (whether b (i ∷ those t m (suc i)) (those t m (suc i))) ≤ suc m
    go true h = omega arith
    go false h = omega arith

pub those_fewer : (t : ℕ → Bool) (m i j : ℕ) → i ≤ j → j < i + m → t j ≡ false → length (those t m i) < m
those_fewer t zero i j h g e = absurd (omega arith)
those_fewer t (suc m) i j h g e = go (t i) refl (λ a b. those_fewer t m (suc i) j a b e)
  where
    go : (b : Bool) → t i ≡ b → (suc i ≤ j → j < suc i + m → length (those t m (suc i)) < m)
        → length (whether b (i ∷ those t m (suc i)) (those t m (suc i))) < suc m
    go false p more = let l = those_most t m (suc i) in omega arith
    go true p more =
        let other : ¬ (j ≡ i) = λ q. true≢false (sym p ∙ ap t (sym q) ∙ e) in
        let l = more (omega arith) (omega arith) in
        omega arith

module _ (n : ℕ) (d : ℕ → Bool) where
  -- Where one cell does not differ, not all do.
  pub not_all : (i : ℕ) → i < n → d i ≡ false → all n d ≡ false
  not_all i h e = ne_eqb (length (differing n d)) n (λ q. let l = those_fewer d n 0 i (omega arith) (omega arith) e in omega arith)

  pub starts_not : (i : ℕ) → d i ≡ false → starts n d i ≡ false
  starts_not i e = rw e refl

  -- What makes a start, by whether all differ.
  pub start_if : (i : ℕ) (a : Bool) → all n d ≡ a → d i ≡ true → starts n d i ≡ whether a (eqb i 0) (not (d (before n i)))
  start_if i a e p = rw (p, e) refl

  -- Behind a cell that does not differ, one that does is a start.
  behind_equal : (i : ℕ) → i < n → d i ≡ false → d (behind n i) ≡ true → starts n d (behind n i) ≡ true
  behind_equal i h e p = start_if (behind n i) false (not_all i h e) p ∙ ap (λ (j : ℕ). not (d j)) (before_behind n i h) ∙ ap not e

  -- The starts ahead.
  abbrev pub ahead : ℕ → ℕ → List ℕ
  ahead m i = those_ahead n (starts n d) m i

  module _ (f : ℕ) (front : Front n d f) where
    -- Cell i stands m cells before the end, which is the front again; if all differ, the front is 00H.
    record Left (m i : ℕ) : Type 0 where
      inside : i < n
      ends : walk n m i ≡ f
      unbroken : all n d ≡ true → 0 < m → m + i ≡ n

    next_left : (m i : ℕ) → Left (suc m) i → Left m (behind n i)
    unfolding walk
    next_left m i l = record { inside = behind_inside n i l.inside; ends = l.ends; unbroken = unbroken }
      where
        unbroken : all n d ≡ true → 0 < m → m + behind n i ≡ n
        unbroken a p =
            let z = l.unbroken a (omega arith) in
            let b = step_on n i (omega arith) in
            omega arith

    -- The rest of a run that is open at the end is empty: it has no cells left to take, or the cell at the front does not differ.
    Over : ℕ → Type 0
    Over e = (e ≡ 0) ⊎ (d (before n f) ≡ true → d f ≡ false)

    over : (e : ℕ) → Over e → d (before n f) ≡ true → (row n d e f ≡ []) × (row_end n d e f ≡ f)
    unfolding Over
    over zero o p = (refl, refl)
    over (suc e) (inl z) p = absurd (omega arith)
    over (suc e) (inr h) p = rw (h p) (refl, refl)

    over_here : (i e : ℕ) → Left zero i → d (before n i) ≡ true → Over e → (row n d (0 + e) i ≡ []) × (row_end n d (0 + e) i ≡ i)
    unfolding walk
    over_here i e l p o =
        let z : 0 + e ≡ e = omega arith in
        rw (z, l.ends) (over e o (ap (λ (j : ℕ). d (before n j)) (sym l.ends) ∙ p))

    -- Where a strobe is open, no run starts.
    no_start : (m i : ℕ) → Left (suc m) i → suc m < n → d (before n i) ≡ true → starts n d i ≡ false
    no_start m i l h p = go (d i) refl (all n d) refl
      where
        go : (b : Bool) → d i ≡ b → (a : Bool) → all n d ≡ a → starts n d i ≡ false
        go false q a e = starts_not i q
        go true q true e = start_if i true e q ∙ ne_eqb i 0 (λ z. let u = l.unbroken e (omega arith) in omega arith)
        go true q false e = start_if i false e q ∙ ap not p

    -- A run that starts with m cells left behind it: when it comes round to the front, it is over.
    comes_over : (m i : ℕ) → Left (suc m) i → suc m ≤ n → d i ≡ true → starts n d i ≡ true → Over (n - suc m)
    unfolding Over
    comes_over m i l h p q = go (d f) refl (all n d) refl
      where
        go : (b : Bool) → d f ≡ b → (a : Bool) → all n d ≡ a → (n - suc m ≡ 0) ⊎ (d (before n f) ≡ true → d f ≡ false)
        go false z a e = inr (λ _. z)
        go true z true e =
            let u = l.unbroken e (omega arith) in
            let first : i ≡ 0 = eqb-true i 0 (sym (start_if i true e p) ∙ q) in
            inl (omega arith)
        go true z false e = inr (λ r. absurd (true≢false (sym (front.opens z) ∙ start_if f false e z ∙ ap not r)))

    -- The cell behind the last that differs, from a cell that stands m before the end: behind the open run, or behind the last of those ahead.
    record Ended (m : ℕ) : Type 0 where
      under : (i e : ℕ) → Left m i → m < n → d (before n i) ≡ true → Over e → goes_end n d m i i ≡ last_end n d (row_end n d (m + e) i) (ahead m i)
      between : (i x : ℕ) → Left m i → m ≤ n → (d i ≡ true → starts n d i ≡ true) → goes_end n d m i x ≡ last_end n d x (ahead m i)

    end_none : Ended zero
    end_none = record { under = λ i e l h p o. sym (over_here i e l p o).1; between = λ i x l h c. refl }

    end_more : (m : ℕ) → Ended m → Ended (suc m)
    end_more m more = record { under = λ i e l h p o. opened i e l h p o (d i) refl; between = λ i x l h c. shut i x l h c (d i) refl }
      where
        opened : (i e : ℕ) → Left (suc m) i → suc m < n → d (before n i) ≡ true → Over e → (b : Bool) → d i ≡ b
            → goes_end n d (suc m) i i ≡ last_end n d (row_end n d (suc m + e) i) (ahead (suc m) i)
        opened i e l h p o true q =
            let z : suc m + e ≡ suc (m + e) = omega arith in
            rw (z, no_start m i l h p, q) (more.under (behind n i) e (next_left m i l) (omega arith) (ap d (before_behind n i l.inside) ∙ q) o)
        opened i e l h p o false q =
            let z : suc m + e ≡ suc (m + e) = omega arith in
            rw (z, no_start m i l h p, q) (more.between (behind n i) i (next_left m i l) (omega arith) (behind_equal i l.inside q))

        shut : (i x : ℕ) → Left (suc m) i → suc m ≤ n → (d i ≡ true → starts n d i ≡ true) → (b : Bool) → d i ≡ b
            → goes_end n d (suc m) i x ≡ last_end n d x (ahead (suc m) i)
        shut i x l h c true q =
            let z : n ≡ suc (m + (n - suc m)) = omega arith in
            let r = more.under (behind n i) (n - suc m) (next_left m i l) (omega arith) (ap d (before_behind n i l.inside) ∙ q) (comes_over m i l h q (c q)) in
            let e : row_end n d n i ≡ row_end n d (m + (n - suc m)) (behind n i) = ap (λ (k : ℕ). row_end n d k i) z ∙ rw q refl in
            rw (c q, q) (r ∙ ap (λ (k : ℕ). last_end n d k (ahead m (behind n i))) (sym e))
        shut i x l h c false q = rw (starts_not i q, q) (more.between (behind n i) x (next_left m i l) (omega arith) (behind_equal i l.inside q))

    end : (m : ℕ) → Ended m
    end zero = end_none
    end (suc m) = end_more m (end m)

    -- If all differ, the front is 00H.
    front_first : all n d ≡ true → f ≡ 0
    front_first a = go (d f) refl
      where
        go : (b : Bool) → d f ≡ b → f ≡ 0
        go true e = eqb-true f 0 (sym (start_if f true a e) ∙ front.opens e)
        go false e = absurd (true≢false (sym a ∙ not_all f front.inside e))

    once_around : Left n f
    once_around = record {
      inside = front.inside;
      ends = walk_all n f front.inside;
      unbroken = λ a h. let z = front_first a in omega arith;
    }

    module _ (w : ℕ → ℕ) where
      -- What is written from a cell that stands m before the end: where a strobe is open, what is left of its run and then the runs ahead; where none is
      -- open, the runs ahead.
      record Written (m : ℕ) : Type 0 where
        under : (i e : ℕ) → Left m i → m < n → d (before n i) ≡ true → Over e
            → goes n d w m i true ≡ map ByteIn (map w (row n d (m + e) i)) ++ (Rises ∷ strobes_of n d w (ahead m i))
        between : (i : ℕ) → Left m i → m ≤ n → (d i ≡ true → starts n d i ≡ true) → goes n d w m i false ≡ strobes_of n d w (ahead m i)

      write_none : Written zero
      write_none = record {
        under = λ i e l h p o. rw (over_here i e l p o).0 refl;
        between = λ i l h c. refl;
      }

      write_more : (m : ℕ) → Written m → Written (suc m)
      write_more m more = record { under = λ i e l h p o. opened i e l h p o (d i) refl; between = λ i l h c. shut i l h c (d i) refl }
        where
          opened : (i e : ℕ) → Left (suc m) i → suc m < n → d (before n i) ≡ true → Over e → (b : Bool) → d i ≡ b
              → goes n d w (suc m) i true ≡ map ByteIn (map w (row n d (suc m + e) i)) ++ (Rises ∷ strobes_of n d w (ahead (suc m) i))
          opened i e l h p o true q =
              let z : suc m + e ≡ suc (m + e) = omega arith in
              let r = more.under (behind n i) e (next_left m i l) (omega arith) (ap d (before_behind n i l.inside) ∙ q) o in
              rw (z, no_start m i l h p, q) (ap (λ (x : List Event). ByteIn (w i) ∷ x) r)
          opened i e l h p o false q =
              let z : suc m + e ≡ suc (m + e) = omega arith in
              let r = more.between (behind n i) (next_left m i l) (omega arith) (behind_equal i l.inside q) in
              rw (z, no_start m i l h p, q) (ap (λ (x : List Event). Rises ∷ x) r)

          shut : (i : ℕ) → Left (suc m) i → suc m ≤ n → (d i ≡ true → starts n d i ≡ true) → (b : Bool) → d i ≡ b
              → goes n d w (suc m) i false ≡ strobes_of n d w (ahead (suc m) i)
          shut i l h c true q =
              let z : n ≡ suc (m + (n - suc m)) = omega arith in
              let r = more.under (behind n i) (n - suc m) (next_left m i l) (omega arith) (ap d (before_behind n i l.inside) ∙ q) (comes_over m i l h q (c q)) in
              let k = strobe_of i (m + (n - suc m)) z q in
              rw (c q, q) (ap (λ (x : List Event). Falls ∷ ByteIn (0xC0 + i) ∷ ByteIn (w i) ∷ x) r ∙ sym (ap (λ (x : List Event). x ++ strobes_of n d w (ahead m (behind n i))) k ∙ joined i (m + (n - suc m)) (strobes_of n d w (ahead m (behind n i)))))
            where
              -- The strobe of a run: its first cell, and the row behind it.
              strobe_of : (i k : ℕ) → n ≡ suc k → d i ≡ true
                  → run_strobe n d w i ≡ Falls ∷ ByteIn (0xC0 + i) ∷ ByteIn (w i) ∷ (map ByteIn (map w (row n d k (behind n i))) ++ (Rises ∷ []))
              strobe_of i k e p = ap (λ (x : ℕ). strobe ((0xC0 + i) ∷ map w (row n d x i))) e ∙ rw p refl

              joined : (i k : ℕ) (rest : List Event)
                  → (Falls ∷ ByteIn (0xC0 + i) ∷ ByteIn (w i) ∷ (map ByteIn (map w (row n d k (behind n i))) ++ (Rises ∷ []))) ++ rest
                  ≡ Falls ∷ ByteIn (0xC0 + i) ∷ ByteIn (w i) ∷ (map ByteIn (map w (row n d k (behind n i))) ++ (Rises ∷ rest))
              joined i k rest =
                  ap (λ (x : List Event). Falls ∷ ByteIn (0xC0 + i) ∷ ByteIn (w i) ∷ x) (append_assoc (map ByteIn (map w (row n d k (behind n i)))) (Rises ∷ []) rest)
          shut i l h c false q =
              let r = more.between (behind n i) (next_left m i l) (omega arith) (behind_equal i l.inside q) in
              rw (starts_not i q, q) r

      written : (m : ℕ) → Written m
      written zero = write_none
      written (suc m) = write_more m (written m)

-- Those among m and k numbers, one behind the other; none of them; and the way once around the ring, as these.
pub those_split : (t : ℕ → Bool) (m k i : ℕ) → those t (m + k) i ≡ those t m i ++ those t k (i + m)
those_split t zero k i =
    let z : 0 + k ≡ k = omega arith in
    let y : i + 0 ≡ i = omega arith in
    rw (z, y) refl
those_split t (suc m) k i =
    let z : suc m + k ≡ suc (m + k) = omega arith in
    let y : i + suc m ≡ suc i + m = omega arith in
    rw (z, y) (go (t i) (those_split t m k (suc i)))
  where
    go : (b : Bool) → those t (m + k) (suc i) ≡ those t m (suc i) ++ those t k (suc i + m)
        → whether b (i ∷ those t (m + k) (suc i)) (those t (m + k) (suc i)) ≡ whether b (i ∷ those t m (suc i)) (those t m (suc i)) ++ those t k (suc i + m)
    go true more = ap (λ (l : List ℕ). i ∷ l) more
    go false more = more

pub those_none : (t : ℕ → Bool) (m i : ℕ) → ((j : ℕ) → i ≤ j → j < i + m → t j ≡ false) → those t m i ≡ []
those_none t zero i h = refl
those_none t (suc m) i h = rw (h i (omega arith) (omega arith)) (those_none t m (suc i) (λ j a b. h j (omega arith) (omega arith)))

module _ (n : ℕ) (t : ℕ → Bool) where
  to_end : (m k i : ℕ) → 0 < m → m + i ≡ n → those_ahead n t (m + k) i ≡ those t m i ++ those_ahead n t k 0
  to_end zero k i h e = absurd (omega arith)
  to_end (suc zero) k i h e =
      let z : 1 + k ≡ suc k = omega arith in
      rw z (rw (step_round n i (omega arith)) (by (t i)))
    where
      by : (b : Bool) → whether b (i ∷ those_ahead n t k 0) (those_ahead n t k 0) ≡ whether b (i ∷ []) [] ++ those_ahead n t k 0
      by true = refl
      by false = refl
  to_end (suc (suc m)) k i h e =
      let z : suc (suc m) + k ≡ suc (suc m + k) = omega arith in
      rw z (rw (step_on n i (omega arith)) (by (t i) (to_end (suc m) k (suc i) (omega arith) (omega arith))))
    where
      by : (b : Bool) → those_ahead n t (suc m + k) (suc i) ≡ those t (suc m) (suc i) ++ those_ahead n t k 0
          → whether b (i ∷ those_ahead n t (suc m + k) (suc i)) (those_ahead n t (suc m + k) (suc i))
          ≡ whether b (i ∷ those t (suc m) (suc i)) (those t (suc m) (suc i)) ++ those_ahead n t k 0
      by true more = ap (λ (l : List ℕ). i ∷ l) more
      by false more = more

  from_first : (m i : ℕ) → m + i < n → those_ahead n t m i ≡ those t m i
  from_first zero i h = refl
  from_first (suc m) i h =
      let more = from_first m (suc i) (omega arith) in
      rw (step_on n i (omega arith), more) refl

  -- Once around from cell f: those from f up, and then those below it.
  pub once : (f : ℕ) → f < n → those_ahead n t n f ≡ those t (n - f) f ++ those t f 0
  once f h =
      let z : n ≡ (n - f) + f = omega arith in
      ap (λ (m : ℕ). those_ahead n t m f) z ∙ to_end (n - f) f f (omega arith) (omega arith) ∙ ap (λ (l : List ℕ). those t (n - f) f ++ l) (from_first f 0 (omega arith))

  pub in_order : (f : ℕ) → f < n → those t n 0 ≡ those t f 0 ++ those t (n - f) f
  in_order f h =
      let z : n ≡ f + (n - f) = omega arith in
      let y : 0 + f ≡ f = omega arith in
      ap (λ (m : ℕ). those t m 0) z ∙ those_split t f (n - f) 0 ∙ ap (λ (m : ℕ). those t f 0 ++ those t (n - f) m) y

module _ (n : ℕ) (d : ℕ → Bool) (f : ℕ) (front : Front n d f) where
  -- The starts ahead, once around from the front, are the starts in rising order.
  starts_ahead : ahead n d n f ≡ starts_of n d
  starts_ahead =
      let none = those_none (starts n d) f 0 (λ j _ h. front.none_before j (omega arith)) in
      once n (starts n d) f front.inside
      ∙ ap (λ (l : List ℕ). those (starts n d) (n - f) f ++ l) none
      ∙ append-nil (those (starts n d) (n - f) f)
      ∙ sym (in_order n (starts n d) f front.inside ∙ ap (λ (l : List ℕ). l ++ those (starts n d) (n - f) f) none)

  -- Once around from the front, the last cell that differs is the last of the last run.
  pub goes_ends : (e : ℕ) → goes_end n d n f e ≡ last_end n d e (starts_of n d)
  goes_ends e = (end n d f front n).between f e (once_around n d f front) (omega arith) front.opens ∙ ap (last_end n d e) starts_ahead

-- Once around from the front, the runs are written.
pub goes_runs : (n : ℕ) (d : ℕ → Bool) (w : ℕ → ℕ) (f : ℕ) (front : Front n d f) → goes n d w n f false ≡ run_events n d w
goes_runs n d w f front =
    (written n d f front w n).between f (once_around n d f front) (omega arith) front.opens
    ∙ ap (strobes_of n d w) (starts_ahead n d f front)
