-- The runs are right: their starts rise, no cell is in two of them or twice in one, together they are the cells that differ, and no two are adjacent around the ring. The
-- argument: a cell of a run is so many steps on from its start, and all cells on the way differ; going back from a cell that differs, one comes to a
-- start, and to one only.
use Prim.Native.Nat.{ℕ, zero, suc, ◌+◌, ◌-◌, ◌<◌, ◌≤◌}
use native.Mathlib.Omega.{arith}
use Rattle.std.proofs.Math.Decide.{ℕ_discrete}
use Rattle.std.specs.Prelude.{◌≡◌, ◌⊎◌, Bool, not, get_or, ltb}
use Rattle.std.proofs.Math.Path.{refl}
use Rattle.std.proofs.Common.{sym, ap, ◌∙◌, true≢false, eqb-true, eq-eqb, ltb-true, ltb-false}
use Rattle.std.proofs.Math.Logic.{inl, inr}
use Rattle.std.proofs.Math.Bool.{true, false}
use mathlib.Core.List.Memᴰ
use mathlib.Core.List.{List, [], ◌∷◌, Memᴰ}
use Rattle.std.proofs.Math.ListN.{length}
use Rattle.rules.specs.Choice.{whether}
use Rattle.runs.specs.Runs.{those, before, behind, differing, all, starts, starts_of, row, row_end, run, run_end}
use Rattle.runs.specs.Walk.{walk, walk_apart, before_behind, walk_inside, walk_more, walk_back, walk_one, walk_up, reached}
use Rattle.runs.specs.Linear.{those_most, those_none, not_all, starts_not, start_if, and_left}

-- Which numbers are among those of which t holds.
pub among : (t : ℕ → Bool) (m i j : ℕ) → Memᴰ j (those t m i) → (i ≤ j) × (j < i + m) × (t j ≡ true)
among t zero i j h = absurd (Memᴰ.not-nil h)
among t (suc m) i j h = go (t i) refl (λ g. among t m (suc i) j g) h
  where
    further : (suc i ≤ j) × (j < suc i + m) × (t j ≡ true) → (i ≤ j) × (j < i + suc m) × (t j ≡ true)
    further r = (omega (arith, r.0), omega (arith, r.1), r.2)

    first : t i ≡ true → (j ≡ i) ⊎ Memᴰ j (those t m (suc i)) → (Memᴰ j (those t m (suc i)) → (suc i ≤ j) × (j < suc i + m) × (t j ≡ true))
        → (i ≤ j) × (j < i + suc m) × (t j ≡ true)
    first e (inl p) more = (omega arith, omega arith, ap t p ∙ e)
    first e (inr g) more = further (more g)

    go : (b : Bool) → t i ≡ b → (Memᴰ j (those t m (suc i)) → (suc i ≤ j) × (j < suc i + m) × (t j ≡ true))
        → Memᴰ j (whether b (i ∷ those t m (suc i)) (those t m (suc i))) → (i ≤ j) × (j < i + suc m) × (t j ≡ true)
    go true e more g = first e (Memᴰ.cases_cons g) more
    go false e more g = further (more g)

pub has : (t : ℕ → Bool) (m i j : ℕ) → i ≤ j → j < i + m → t j ≡ true → Memᴰ j (those t m i)
has t zero i j h g e = absurd (omega arith)
has t (suc m) i j h g e = go (t i) refl (ℕ_discrete j i) (λ a b. has t m (suc i) j a b e)
  where
    go : (b : Bool) → t i ≡ b → Dec (j ≡ i) → (suc i ≤ j → j < suc i + m → Memᴰ j (those t m (suc i)))
        → Memᴰ j (whether b (i ∷ those t m (suc i)) (those t m (suc i)))
    go true p (yes q) more = Memᴰ.head q
    go true p (no q) more = Memᴰ.tail (more (omega arith) (omega arith))
    go false p (yes q) more = absurd (true≢false (sym e ∙ ap t q ∙ p))
    go false p (no q) more = more (omega arith) (omega arith)

-- They rise: none is below the first, and each is below those behind it.
those_least : (t : ℕ → Bool) (m i a : ℕ) → a < length (those t m i) → i ≤ get_or (those t m i) a 0
those_least t zero i a h = absurd (omega arith)
those_least t (suc m) i a h = go (t i) a h (λ b g. those_least t m (suc i) b g)
  where
    go : (b : Bool) (a : ℕ) → a < length (whether b (i ∷ those t m (suc i)) (those t m (suc i)))
        → ((c : ℕ) → c < length (those t m (suc i)) → suc i ≤ get_or (those t m (suc i)) c 0) → i ≤ get_or (whether b (i ∷ those t m (suc i)) (those t m (suc i))) a 0
    go true zero g more = omega arith
    go true (suc a) g more = let l = more a (omega arith) in omega arith
    go false a g more = let l = more a g in omega arith

those_rise : (t : ℕ → Bool) (m i a b : ℕ) → a < b → b < length (those t m i) → get_or (those t m i) a 0 < get_or (those t m i) b 0
those_rise t zero i a b h g = absurd (omega arith)
those_rise t (suc m) i a b h g = go (t i) a b h g (λ x y p q. those_rise t m (suc i) x y p q)
  where
    go : (c : Bool) (a b : ℕ) → a < b → b < length (whether c (i ∷ those t m (suc i)) (those t m (suc i)))
        → ((x y : ℕ) → x < y → y < length (those t m (suc i)) → get_or (those t m (suc i)) x 0 < get_or (those t m (suc i)) y 0)
        → get_or (whether c (i ∷ those t m (suc i)) (those t m (suc i))) a 0 < get_or (whether c (i ∷ those t m (suc i)) (those t m (suc i))) b 0
    go true a zero h g more = absurd (omega arith)
    go true zero (suc b) h g more = let l = those_least t m (suc i) b (omega arith) in omega arith
    go true (suc a) (suc b) h g more = more a b (omega arith) (omega arith)
    go false a b h g more = more a b h g

-- All m are there where each of them is.
all_there : (t : ℕ → Bool) (m i : ℕ) → ((j : ℕ) → i ≤ j → j < i + m → t j ≡ true) → length (those t m i) ≡ m
all_there t zero i h = refl
all_there t (suc m) i h = rw (h i (omega arith) (omega arith)) (ap suc (all_there t m (suc i) (λ j a b. h j (omega arith) (omega arith))))

-- Where not all are there, one is not.
one_missing : (t : ℕ → Bool) (m i : ℕ) → length (those t m i) < m → (j : ℕ) × (i ≤ j) × (j < i + m) × (t j ≡ false)
one_missing t zero i h = absurd (omega arith)
one_missing t (suc m) i h = go (t i) refl h (λ g. one_missing t m (suc i) g)
  where
    go : (b : Bool) → t i ≡ b → length (whether b (i ∷ those t m (suc i)) (those t m (suc i))) < suc m
        → (length (those t m (suc i)) < m → (j : ℕ) × (suc i ≤ j) × (j < suc i + m) × (t j ≡ false)) → (j : ℕ) × (i ≤ j) × (j < i + suc m) × (t j ≡ false)
    go false e g more = (i, omega arith, omega arith, e)
    go true e g more =
        let r = more (omega arith) in
        (r.0, omega (arith, r.1), omega (arith, r.2), r.3)

module _ (n : ℕ) (d : ℕ → Bool) where
  -- All cells differ, or one does not.
  pub all_differ : ((i : ℕ) → i < n → d i ≡ true) → all n d ≡ true
  all_differ h = eq-eqb (length (differing n d)) n (all_there d n 0 (λ j _ g. h j (omega arith)))

  one_equal : all n d ≡ false → (i : ℕ) × (i < n) × (d i ≡ false)
  one_equal e = go (ℕ_discrete (length (differing n d)) n)
    where
      go : Dec (length (differing n d) ≡ n) → (i : ℕ) × (i < n) × (d i ≡ false)
      go (yes p) = absurd (true≢false (sym (eq-eqb (length (differing n d)) n p) ∙ e))
      go (no p) =
          let l = those_most d n 0 in
          let r = one_missing d n 0 (omega arith) in
          (r.0, omega (arith, r.2), r.3)

  -- Every start is a cell of the ring; starts rise.
  pub start_inside : (i : ℕ) → Memᴰ i (starts_of n d) → (i < n) × (starts n d i ≡ true)
  start_inside i h = let r = among (starts n d) n 0 i h in (omega (arith, r.1), r.2)

  pub starts_rise : (a b : ℕ) → a < b → b < length (starts_of n d) → get_or (starts_of n d) a 0 < get_or (starts_of n d) b 0
  starts_rise = those_rise (starts n d) n 0

  differs_if : (i : ℕ) → starts n d i ≡ true → d i ≡ true
  differs_if i h = and_left (d i) _ h

  -- All cells from i on differ, t steps far.
  abbrev DiffersTo : ℕ → ℕ → Type 0
  DiffersTo t i = (s : ℕ) → s ≤ t → d (walk n s i) ≡ true

  -- The cells of a row are those to which all cells from its first on differ.
  in_row : (m i j : ℕ) → Memᴰ j (row n d m i) → (t : ℕ) × (t < m) × (walk n t i ≡ j) × DiffersTo t i
  unfolding walk
  in_row zero i j h = absurd (Memᴰ.not-nil h)
  in_row (suc m) i j h = go (d i) refl h (λ g. in_row m (behind n i) j g)
    where
      extended : (t : ℕ) → d i ≡ true → DiffersTo t (behind n i) → DiffersTo (suc t) i
      extended t e h zero g = e
      extended t e h (suc s) g = h s (omega arith)

      first : d i ≡ true → (j ≡ i) ⊎ Memᴰ j (row n d m (behind n i))
          → (Memᴰ j (row n d m (behind n i)) → (t : ℕ) × (t < m) × (walk n t (behind n i) ≡ j) × DiffersTo t (behind n i))
          → (t : ℕ) × (t < suc m) × (walk n t i ≡ j) × DiffersTo t i
      first e (inl p) more = (0, omega arith, sym p, λ s g. here s g)
        where
          here : (s : ℕ) → s ≤ 0 → d (walk n s i) ≡ true
          here zero g = e
          here (suc s) g = absurd (omega arith)
      first e (inr g) more =
          let r = more g in
          (suc r.0, omega (arith, r.1), r.2, extended r.0 e r.3)

      go : (b : Bool) → d i ≡ b → Memᴰ j (whether b (i ∷ row n d m (behind n i)) [])
          → (Memᴰ j (row n d m (behind n i)) → (t : ℕ) × (t < m) × (walk n t (behind n i) ≡ j) × DiffersTo t (behind n i))
          → (t : ℕ) × (t < suc m) × (walk n t i ≡ j) × DiffersTo t i
      go true e g more = first e (Memᴰ.cases_cons g) more
      go false e g more = absurd (Memᴰ.not-nil g)

  row_has : (m t i : ℕ) → t < m → DiffersTo t i → Memᴰ (walk n t i) (row n d m i)
  unfolding walk
  row_has zero t i h g = absurd (omega arith)
  row_has (suc m) zero i h g = rw (g 0 (omega arith)) (Memᴰ.head refl)
  row_has (suc m) (suc t) i h g = rw (g 0 (omega arith)) (Memᴰ.tail (row_has m t (behind n i) (omega arith) (λ s p. g (suc s) (omega arith))))

  -- The cells of a run are cells of the ring that differ.
  pub run_inside : (i j : ℕ) → i < n → Memᴰ j (run n d i) → (j < n) × (d j ≡ true)
  run_inside i j h g =
      let r = in_row n i j g in
      (rw (← r.2) (walk_inside n r.0 i h), ap d (sym r.2) ∙ r.3 r.0 (omega arith))

  -- The last cell that does not differ on a way to one that does; all behind it differ.
  last_equal : (t e : ℕ) → d e ≡ false → d (walk n t e) ≡ true
      → (u : ℕ) × (u < t) × (d (walk n u e) ≡ false) × ((s : ℕ) → u < s → s ≤ t → d (walk n s e) ≡ true)
  unfolding walk
  last_equal zero e p q = absurd (true≢false (sym q ∙ p))
  last_equal (suc t) e p q = go (d (walk n t e)) refl (λ r. last_equal t e p r)
    where
      go : (b : Bool) → d (walk n t e) ≡ b
          → (d (walk n t e) ≡ true → (u : ℕ) × (u < t) × (d (walk n u e) ≡ false) × ((s : ℕ) → u < s → s ≤ t → d (walk n s e) ≡ true))
          → (u : ℕ) × (u < suc t) × (d (walk n u e) ≡ false) × ((s : ℕ) → u < s → s ≤ suc t → d (walk n s e) ≡ true)
      go false z more = (t, omega arith, z, λ s g h. let y : s ≡ suc t = omega arith in rw y q)
      go true z more =
          let r = more z in
          (r.0, omega (arith, r.1), r.2, λ s g h. at s g h (ℕ_discrete s (suc t)) r.3)
        where
          at : {u : ℕ} (s : ℕ) → u < s → s ≤ suc t → Dec (s ≡ suc t) → ((s : ℕ) → u < s → s ≤ t → d (walk n s e) ≡ true) → d (walk n s e) ≡ true
          at s g h (yes y) all = rw y q
          at s g h (no y) all = all s g (omega arith)

  -- Together the runs are the cells that differ.
  pub covered : (j : ℕ) → j < n → d j ≡ true → (i : ℕ) × Memᴰ i (starts_of n d) × Memᴰ j (run n d i)
  covered j h e = go (all n d) refl
    where
      differs_all : all n d ≡ true → (i : ℕ) → i < n → d i ≡ true
      differs_all a i g = by (d i) refl
        where
          by : (b : Bool) → d i ≡ b → d i ≡ true
          by true q = q
          by false q = absurd (true≢false (sym a ∙ not_all n d i g q))

      go : (a : Bool) → all n d ≡ a → (i : ℕ) × Memᴰ i (starts_of n d) × Memᴰ j (run n d i)
      go true a =
          let z : j + 0 < n = omega arith in
          let y : j + 0 ≡ j = omega arith in (
            0,
            has (starts n d) n 0 0 (omega arith) (omega arith) (start_if n d 0 true a (differs_all a 0 (omega arith))),
            rw (← y, ← walk_up n j 0 z) (row_has n j 0 h (λ s _. differs_all a (walk n s 0) (walk_inside n s 0 (omega arith)))),
          )
      go false a =
          let (z, inside, equal) = one_equal a in
          let (t, near, comes) = reached n z j inside h in
          let (u, below, last, rest) = last_equal t z equal (ap d comes ∙ e) in
          let i : ℕ = walk n (suc u) z in
          let inside' : i < n = walk_inside n (suc u) z inside in
          let y : suc u + (t - suc u) ≡ t = omega arith in
          let to : walk n (t - suc u) i ≡ j = sym (walk_more n (suc u) (t - suc u) z) ∙ ap (λ (m : ℕ). walk n m z) y ∙ comes in
          let start : starts n d i ≡ true = start_if n d i false a (rest (suc u) (omega arith) (omega arith)) ∙ ap (λ (x : ℕ). not (d x)) (walk_back n u z inside) ∙ ap not last in (
            i,
            has (starts n d) n 0 i (omega arith) (omega arith) start,
            Memᴰ.cast (sym to) (row_has n (t - suc u) i (omega arith) (λ s g. ap d (sym (walk_more n (suc u) s z)) ∙ rest (suc u + s) (omega arith) (omega arith))),
          )

  -- No cell is in two runs.
  pub disjoint : (i j c : ℕ) → Memᴰ i (starts_of n d) → Memᴰ j (starts_of n d) → Memᴰ c (run n d i) → Memᴰ c (run n d j) → i ≡ j
  disjoint i j c p q g h = go (ℕ_discrete a.0 b.0) (ltb a.0 b.0) refl
    where
      a : (t : ℕ) × (t < n) × (walk n t i ≡ c) × DiffersTo t i
      a = in_row n i c g

      b : (t : ℕ) × (t < n) × (walk n t j ≡ c) × DiffersTo t j
      b = in_row n j c h

      -- A start that lies on the way from another is that other: behind a cell that differs a run starts only if all differ, and then at 00H.
      one : (i j t u : ℕ) → Memᴰ i (starts_of n d) → Memᴰ j (starts_of n d) → walk n t i ≡ walk n u j → t < u → DiffersTo u j → i ≡ j
      one i j t u p q e l all-on =
          let (inside, is) = start_inside i p in
          let (inside', is') = start_inside j q in
          let y : (u - t) + t ≡ u = omega arith in
          let v : suc (u - suc t) ≡ u - t = omega arith in
          let k : i ≡ walk n (suc (u - suc t)) j =
          walk_one n t i (walk n (suc (u - suc t)) j) inside (walk_inside n (suc (u - suc t)) j inside')
          (e ∙ ap (λ (m : ℕ). walk n m j) (sym y) ∙ walk_more n (u - t) t j ∙ ap (λ (m : ℕ). walk n t (walk n m j)) (sym v)) in
          let back : d (before n i) ≡ true = ap (λ (x : ℕ). d (before n x)) k ∙ ap d (walk_back n (u - suc t) j inside') ∙ all-on (u - suc t) (omega arith) in
          by (all n d) refl inside is is' back
        where
          by : (a : Bool) → all n d ≡ a → i < n → starts n d i ≡ true → starts n d j ≡ true → d (before n i) ≡ true → i ≡ j
          by true a inside is is' back = at_first a i is ∙ sym (at_first a j is')
            where
              at_first : all n d ≡ true → (x : ℕ) → starts n d x ≡ true → x ≡ 0
              at_first a x s = eqb-true x 0 (sym (start_if n d x true a (differs_if x s)) ∙ s)
          by false a inside is is' back = absurd (true≢false (sym is ∙ start_if n d i false a (differs_if i is) ∙ ap not back))

      go : Dec (a.0 ≡ b.0) → (t : Bool) → ltb a.0 b.0 ≡ t → i ≡ j
      go (yes e) t z =
          walk_one n a.0 i j (start_inside i p).0 (start_inside j q).0 (a.2 ∙ sym b.2 ∙ ap (λ (m : ℕ). walk n m j) (sym e))
      go (no e) true z = one i j a.0 b.0 p q (a.2 ∙ sym b.2) (ltb-true a.0 b.0 z) b.3
      go (no e) false z =
          let l = ltb-false a.0 b.0 z in
          sym (one j i b.0 a.0 q p (b.2 ∙ sym a.2) (omega arith) a.3)

  -- A row ends before a cell that does not differ, or has all the cells that it may have.
  row_ends : (m i : ℕ) → (d (row_end n d m i) ≡ false) ⊎ ((s : ℕ) → s < m → d (walk n s i) ≡ true)
  unfolding walk
  row_ends zero i = inr (λ s h. absurd (omega arith))
  row_ends (suc m) i = go (d i) refl (row_ends m (behind n i))
    where
      go : (b : Bool) → d i ≡ b → (d (row_end n d m (behind n i)) ≡ false) ⊎ ((s : ℕ) → s < m → d (walk n s (behind n i)) ≡ true)
          → (d (whether b (row_end n d m (behind n i)) i) ≡ false) ⊎ ((s : ℕ) → s < suc m → d (walk n s i) ≡ true)
      go false e more = inl e
      go true e (inl z) = inl z
      go true e (inr f) = inr at
        where
          at : (s : ℕ) → s < suc m → d (walk n s i) ≡ true
          at zero h = e
          at (suc s) h = f s (omega arith)

  -- Where not all cells differ, neither the cell before a run nor the one behind it does.
  pub apart : (i : ℕ) → Memᴰ i (starts_of n d) → all n d ≡ false → (d (before n i) ≡ false) × (d (run_end n d i) ≡ false)
  apart i h a = (before_it (d (before n i)) refl, behind_it (row_ends n i))
    where
      before_it : (b : Bool) → d (before n i) ≡ b → d (before n i) ≡ false
      before_it false e = e
      before_it true e =
          let is = (start_inside i h).1 in
          absurd (true≢false (sym is ∙ start_if n d i false a (differs_if i is) ∙ ap not e))

      behind_it : (d (run_end n d i) ≡ false) ⊎ ((s : ℕ) → s < n → d (walk n s i) ≡ true) → d (run_end n d i) ≡ false
      behind_it (inl e) = e
      behind_it (inr f) = absurd (true≢false (sym (all_differ each) ∙ a))
        where
          each : (j : ℕ) → j < n → d j ≡ true
          each j g = let (t, near, comes) = reached n i j (start_inside i h).0 g in ap d (sym comes) ∙ f t near

  -- All cells together are one run, from 00H.
  pub one_run : all n d ≡ true → (i : ℕ) → Memᴰ i (starts_of n d) → i ≡ 0
  one_run a i h = let is = (start_inside i h).1 in eqb-true i 0 (sym (start_if n d i true a (differs_if i is)) ∙ is)

  -- A run has no cell twice: its cells are those that one comes to, step by step.
  row_cell : (m i a : ℕ) → a < length (row n d m i) → (get_or (row n d m i) a 0 ≡ walk n a i) × (a < m)
  unfolding walk
  row_cell zero i a h = absurd (omega arith)
  row_cell (suc m) i a h = go (d i) a h (λ b g. row_cell m (behind n i) b g)
    where
      go : (t : Bool) (a : ℕ) → a < length (whether t (i ∷ row n d m (behind n i)) [])
          → ((b : ℕ) → b < length (row n d m (behind n i)) → (get_or (row n d m (behind n i)) b 0 ≡ walk n b (behind n i)) × (b < m))
          → (get_or (whether t (i ∷ row n d m (behind n i)) []) a 0 ≡ walk n a i) × (a < suc m)
      go true zero g more = (refl, omega arith)
      go true (suc a) g more = let r = more a (omega arith) in (r.0, omega (arith, r.1))
      go false a g more = absurd (omega arith)

  pub run_once : (i a b : ℕ) → i < n → a < b → b < length (run n d i) → ¬ (get_or (run n d i) a 0 ≡ get_or (run n d i) b 0)
  run_once i a b h l g e =
      let (x, p) = row_cell n i a (omega arith) in
      let (y, q) = row_cell n i b g in
      let split : (b - a) + a ≡ b = omega arith in
      let meet : walk n a i ≡ walk n a (walk n (b - a) i) = sym x ∙ e ∙ y ∙ ap (λ (m : ℕ). walk n m i) (sym split) ∙ walk_more n (b - a) a i in
      walk_apart n (b - a) i (omega arith) (omega arith) h (sym (walk_one n a i (walk n (b - a) i) h (walk_inside n (b - a) i h) meet))

  -- No two runs are adjacent around the ring: the cell behind one of a run's is in no other run.
  pub not_adjacent : (i j c : ℕ) → Memᴰ i (starts_of n d) → Memᴰ j (starts_of n d) → Memᴰ c (run n d i) → Memᴰ (behind n c) (run n d j) → i ≡ j
  unfolding walk
  not_adjacent i j c p q g h = go u refl
    where
      inside : c < n
      inside = (run_inside i c (start_inside i p).0 g).0

      r : (t : ℕ) × (t < n) × (walk n t j ≡ behind n c) × DiffersTo t j
      r = in_row n j (behind n c) h

      u : ℕ
      u = r.0

      -- The cell before a start differs only if all do, and then each start is 00H.
      first : (a : Bool) → all n d ≡ a → j ≡ behind n c → i ≡ j
      first true a e = one_run a i p ∙ sym (one_run a j q)
      first false a e =
          let back : before n j ≡ c = ap (before n) e ∙ before_behind n c inside in
          absurd (true≢false (sym (run_inside i c (start_inside i p).0 g).1 ∙ ap d (sym back) ∙ (apart j q a).0))

      go : (t : ℕ) → t ≡ u → i ≡ j
      go zero e = first (all n d) refl (ap (λ (m : ℕ). walk n m j) e ∙ r.2)
      go (suc t) e =
          let here : walk n t j ≡ c =
          sym (walk_back n t j (start_inside j q).0) ∙ ap (λ (m : ℕ). before n (walk n m j)) e ∙ ap (before n) r.2 ∙ before_behind n c inside in
          disjoint i j c p q g (Memᴰ.cast (sym here) (row_has n t j (omega (arith, r.1)) (λ s k. r.3 s (omega arith))))

  -- Nothing differs: there is no run; else there is one.
  pub none_differs : length (differing n d) ≡ 0 → (i : ℕ) → i < n → d i ≡ false
  none_differs e i h = go (d i) refl
    where
      empty : (l : List ℕ) → length l ≡ 0 → Memᴰ i l → ⊥
      empty [] z g = Memᴰ.not-nil g
      empty (x ∷ l) z g = absurd (omega arith)

      go : (b : Bool) → d i ≡ b → d i ≡ false
      go false p = p
      go true p = absurd (empty (differing n d) e (has d n 0 i (omega arith) (omega arith) p))

  pub no_starts : length (differing n d) ≡ 0 → starts_of n d ≡ []
  no_starts e = those_none (starts n d) n 0 (λ j _ h. starts_not n d j (none_differs e j (omega arith)))

  pub some_starts : ¬ (length (differing n d) ≡ 0) → (i : ℕ) × (is : List ℕ) × (starts_of n d ≡ i ∷ is)
  some_starts h = go (starts_of n d) refl
    where
      first : (l : List ℕ) → ¬ (length l ≡ 0) → (i : ℕ) × Memᴰ i l
      first [] z = absurd (z refl)
      first (x ∷ l) z = (x, Memᴰ.head refl)

      go : (l : List ℕ) → starts_of n d ≡ l → (i : ℕ) × (is : List ℕ) × (starts_of n d ≡ i ∷ is)
      go (i ∷ is) e = (i, is, e)
      go [] e =
          let (j, m) = first (differing n d) h in
          let (a, b, c) = among d n 0 j m in
          let (i, s, r) = covered j (omega arith) c in
          absurd (Memᴰ.not-nil (rw e at s))
