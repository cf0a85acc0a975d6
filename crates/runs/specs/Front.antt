-- The front, from which code goes around the ring: behind the cells at 00H that belong to a run which goes round, if there is one. The argument: where
-- the last cell differs, and not all do, the cells that differ from 00H on are the end of the last run, and the first that does not is the front.
use Rattle.std.specs.Prelude.{ℕ, zero, suc, ◌+◌, ◌-◌, ◌<◌, ◌≤◌, ◌≡◌, refl, ◌⊎◌, Bool, true, false, not, ◌&&◌, eqb}
use Rattle.std.proofs.Common.{arith, sym, ap, ◌∙◌, inl, inr, true≢false}
use Rattle.std.proofs.Math.Decide.{ℕ_discrete}
use Rattle.std.proofs.Math.Dec.{eqb-zero-suc, eqb-suc-suc}
use Rattle.rules.specs.Choice.{whether}
use Rattle.runs.specs.Runs.{all, starts}
use Rattle.runs.specs.Linear.{Front, start_if}
use Rattle.runs.specs.Right.{all_differ}

-- How many of the m cells from i on differ before one that does not.
abbrev pub leading : (ℕ → Bool) → ℕ → ℕ → ℕ
leading d zero i = 0
leading d (suc m) i = whether (d i) (suc (leading d m (suc i))) 0

-- The front of the ring.
abbrev pub front_of : ℕ → (ℕ → Bool) → ℕ
front_of n d = whether (all n d) 0 (whether (d (n - 1)) (leading d n 0) 0)

module _ (d : ℕ → Bool) where
  pub leading_most : (m i : ℕ) → leading d m i ≤ m
  leading_most zero i = omega arith
  leading_most (suc m) i = go (d i) (leading_most m (suc i))
    where
      go : (b : Bool) → leading d m (suc i) ≤ m → whether b (suc (leading d m (suc i))) 0 ≤ suc m
      go true h = omega arith
      go false h = omega arith

  leading_differ : (m i j : ℕ) → i ≤ j → j < i + leading d m i → d j ≡ true
  leading_differ zero i j h g = absurd (omega arith)
  leading_differ (suc m) i j h g = go (d i) refl g (λ a b. leading_differ m (suc i) j a b) (ℕ_discrete j i)
    where
      go : (b : Bool) → d i ≡ b → j < i + whether b (suc (leading d m (suc i))) 0 → (suc i ≤ j → j < suc i + leading d m (suc i) → d j ≡ true) → Dec (j ≡ i) → d j ≡ true
      go true e g more (yes p) = ap d p ∙ e
      go true e g more (no p) = more (omega arith) (omega arith)
      go false e g more p = absurd (omega arith)

  leading_stops : (m i : ℕ) → leading d m i < m → d (i + leading d m i) ≡ false
  leading_stops zero i h = absurd (omega arith)
  leading_stops (suc m) i h = go (d i) refl h (λ g. leading_stops m (suc i) g)
    where
      go : (b : Bool) → d i ≡ b → whether b (suc (leading d m (suc i))) 0 < suc m → (leading d m (suc i) < m → d (suc i + leading d m (suc i)) ≡ false)
          → d (i + whether b (suc (leading d m (suc i))) 0) ≡ false
      go true e g more =
          let z : i + suc (leading d m (suc i)) ≡ suc i + leading d m (suc i) = omega arith in
          ap d z ∙ more (omega arith)
      go false e g more =
          let z : i + 0 ≡ i = omega arith in
          ap d z ∙ e

  -- One cell more.
  pub leading_more : (m i : ℕ) → leading d (suc m) i ≡ whether (eqb (leading d m i) m && d (i + m)) (suc (leading d m i)) (leading d m i)
  leading_more zero i =
      let z : i + 0 ≡ i = omega arith in
      rw z refl
  leading_more (suc m) i =
      let z : i + suc m ≡ suc i + m = omega arith in
      rw z (go (d i) (leading_more m (suc i)))
    where
      go : (b : Bool) → leading d (suc m) (suc i) ≡ whether (eqb (leading d m (suc i)) m && d (suc i + m)) (suc (leading d m (suc i))) (leading d m (suc i))
          → whether b (suc (leading d (suc m) (suc i))) 0
          ≡ whether (eqb (whether b (suc (leading d m (suc i))) 0) (suc m) && d (suc i + m)) (suc (whether b (suc (leading d m (suc i))) 0)) (whether b (suc (leading d m (suc i))) 0)
      go true h = rw (eqb-suc-suc (leading d m (suc i)) m) (ap suc h ∙ both (eqb (leading d m (suc i)) m && d (suc i + m)) (leading d m (suc i)))
        where
          both : (b : Bool) (x : ℕ) → suc (whether b (suc x) x) ≡ whether b (suc (suc x)) (suc x)
          both true x = refl
          both false x = refl
      go false h = rw (eqb-zero-suc m) refl

module _ (n : ℕ) (d : ℕ → Bool) (some : 0 < n) where
  -- The front is one from which the runs can be written.
  pub front_is : Front n d (front_of n d)
  front_is = go (all n d) refl (d (n - 1)) refl
    where
      at_first : (starts n d 0 ≡ true) ⊎ (d 0 ≡ false) → Front n d 0
      at_first h = record { inside = some; none_before = λ j g. absurd (omega arith); opens = by h }
        where
          by : (starts n d 0 ≡ true) ⊎ (d 0 ≡ false) → d 0 ≡ true → starts n d 0 ≡ true
          by (inl s) e = s
          by (inr z) e = absurd (true≢false (sym e ∙ z))

      round : all n d ≡ false → d (n - 1) ≡ true → Front n d (leading d n 0)
      round a l = record { inside = inside; none_before = none; opens = λ e. absurd (true≢false (sym e ∙ stops)) }
        where
          inside : leading d n 0 < n
          inside = go (ℕ_discrete (leading d n 0) n)
            where
              go : Dec (leading d n 0 ≡ n) → leading d n 0 < n
              go (yes p) = absurd (true≢false (sym (all_differ n d (λ j g. leading_differ d n 0 j (omega arith) (omega arith))) ∙ a))
              go (no p) = let m = leading_most d n 0 in omega arith

          stops : d (leading d n 0) ≡ false
          stops = let z : 0 + leading d n 0 ≡ leading d n 0 = omega arith in ap d (sym z) ∙ leading_stops d n 0 inside

          none : (j : ℕ) → j < leading d n 0 → starts n d j ≡ false
          none zero g = start_if n d 0 false a (leading_differ d n 0 0 (omega arith) (omega arith)) ∙ ap not l
          none (suc j) g =
              start_if n d (suc j) false a (leading_differ d n 0 (suc j) (omega arith) (omega arith)) ∙ ap not (leading_differ d n 0 j (omega arith) (omega arith))

      go : (a : Bool) → all n d ≡ a → (l : Bool) → d (n - 1) ≡ l → Front n d (front_of n d)
      go true a l e = rw a (at_first (by (d 0) refl))
        where
          by : (b : Bool) → d 0 ≡ b → (starts n d 0 ≡ true) ⊎ (d 0 ≡ false)
          by true q = inl (start_if n d 0 true a q)
          by false q = inr q
      go false a false e = rw (a, e) (at_first (by (d 0) refl))
        where
          by : (b : Bool) → d 0 ≡ b → (starts n d 0 ≡ true) ⊎ (d 0 ≡ false)
          by true q = inl (start_if n d 0 false a q ∙ ap not e)
          by false q = inr q
      go false a true e = rw (a, e) (round a e)
