-- Going on around a ring of n cells. The argument: a step on and a step back undo each other, so two that go on equally far meet only if they started
-- at the same cell, n steps lead back, and from every cell each other one is less than n steps away.
use Prim.Native.Nat.{ℕ, zero, suc, ◌+◌, ◌-◌, ◌<◌, ◌≤◌}
use native.Mathlib.Omega.{arith}
use Rattle.std.specs.Prelude.{◌≡◌, Bool, true, false, ltb}
use Rattle.std.proofs.Math.Path.{refl, sym, ap}
use Rattle.std.proofs.Common.{◌∙◌, ltb-true, ltb-false, lt-ltb, le-ltb}
use Rattle.runs.specs.Runs.{before, behind}

-- The cell t steps on from cell i.
unfoldable pub walk : ℕ → ℕ → ℕ → ℕ
walk n zero i = i
walk n (suc t) i = walk n t (behind n i)

pub step_on : (n i : ℕ) → i + 1 < n → behind n i ≡ suc i
step_on n i h = rw (lt-ltb (i + 1) n h) (omega arith)

pub step_round : (n i : ℕ) → n ≤ i + 1 → behind n i ≡ 0
step_round n i h = rw (le-ltb (i + 1) n h) refl

pub behind_inside : (n i : ℕ) → i < n → behind n i < n
behind_inside n i h = go (ltb (i + 1) n) refl
  where
    go : (t : Bool) → ltb (i + 1) n ≡ t → behind n i < n
    go true e = rw e (ltb-true (i + 1) n e)
    go false e = rw e (omega arith)

pub before_behind : (n i : ℕ) → i < n → before n (behind n i) ≡ i
before_behind n i h = go (ltb (i + 1) n) refl
  where
    go : (t : Bool) → ltb (i + 1) n ≡ t → before n (behind n i) ≡ i
    go true e = let q : i + 1 < n = ltb-true (i + 1) n e in ap (before n) (step_on n i q)
    go false e = let q : n ≤ i + 1 = ltb-false (i + 1) n e in ap (before n) (step_round n i q) ∙ omega arith

module _ (n : ℕ) where
  pub walk_inside : (t i : ℕ) → i < n → walk n t i < n
  unfolding walk
  walk_inside zero i h = h
  walk_inside (suc t) i h = walk_inside t (behind n i) (behind_inside n i h)

  pub walk_more : (t u i : ℕ) → walk n (t + u) i ≡ walk n u (walk n t i)
  unfolding walk
  walk_more zero u i = let z : 0 + u ≡ u = omega arith in ap (λ (m : ℕ). walk n m i) z
  walk_more (suc t) u i = let z : suc t + u ≡ suc (t + u) = omega arith in ap (λ (m : ℕ). walk n m i) z ∙ walk_more t u (behind n i)

  -- The last step is one on.
  pub walk_last : (t i : ℕ) → walk n (suc t) i ≡ behind n (walk n t i)
  unfolding walk
  walk_last zero i = refl
  walk_last (suc t) i = walk_last t (behind n i)

  pub walk_back : (t i : ℕ) → i < n → before n (walk n (suc t) i) ≡ walk n t i
  walk_back t i h = ap (before n) (walk_last t i) ∙ before_behind n (walk n t i) (walk_inside t i h)

  -- Equally far on, two cells meet only if they are one.
  pub walk_one : (t i j : ℕ) → i < n → j < n → walk n t i ≡ walk n t j → i ≡ j
  unfolding walk
  walk_one zero i j h g e = e
  walk_one (suc t) i j h g e =
      let b : behind n i ≡ behind n j = walk_one t (behind n i) (behind n j) (behind_inside n i h) (behind_inside n j g) e in
      sym (before_behind n i h) ∙ ap (before n) b ∙ before_behind n j g

  -- On to a cell further up, without going round; and round to 00H.
  pub walk_up : (t i : ℕ) → t + i < n → walk n t i ≡ t + i
  unfolding walk
  walk_up zero i h = omega arith
  walk_up (suc t) i h = ap (walk n t) (step_on n i (omega arith)) ∙ walk_up t (suc i) (omega arith) ∙ omega arith

  pub walk_round : (t i : ℕ) → 0 < t → t + i ≡ n → walk n t i ≡ 0
  unfolding walk
  walk_round zero i h e = absurd (omega arith)
  walk_round (suc t) i h e = walk_last t i ∙ ap (behind n) (walk_up t i (omega arith)) ∙ step_round n (t + i) (omega arith)

  -- n steps lead back.
  pub walk_all : (i : ℕ) → i < n → walk n n i ≡ i
  walk_all i h =
      let z : (n - i) + i ≡ n = omega arith in
      ap (λ (m : ℕ). walk n m i) (sym z)
      ∙ walk_more (n - i) i i
      ∙ ap (walk n i) (walk_round (n - i) i (omega arith) z)
      ∙ walk_up i 0 (omega arith)
      ∙ omega arith

  -- Every cell is less than n steps away.
  pub reached : (i j : ℕ) → i < n → j < n → (t : ℕ) × (t < n) × (walk n t i ≡ j)
  reached i j h g = go (ltb j i) refl
    where
      go : (t : Bool) → ltb j i ≡ t → (t : ℕ) × (t < n) × (walk n t i ≡ j)
      go false e = let q : i ≤ j = ltb-false j i e in (j - i, omega arith, walk_up (j - i) i (omega arith) ∙ omega arith)
      go true e =
          let q : j < i = ltb-true j i e in (
            (n - i) + j,
            omega arith,
            walk_more (n - i) j i ∙ ap (walk n j) (walk_round (n - i) i (omega arith) (omega arith)) ∙ walk_up j 0 (omega arith) ∙ omega arith,
          )

  -- Less than n steps lead to no cell twice.
  pub walk_apart : (t i : ℕ) → 0 < t → t < n → i < n → ¬ (walk n t i ≡ i)
  walk_apart t i h g k e = go (ltb (t + i) n) refl
    where
      go : (b : Bool) → ltb (t + i) n ≡ b → ⊥
      go true q = let z = walk_up t i (ltb-true (t + i) n q) in omega arith
      go false q =
          let l = ltb-false (t + i) n q in
          let split : (n - i) + (t - (n - i)) ≡ t = omega arith in
          let z : walk n t i ≡ t - (n - i) =
          ap (λ (m : ℕ). walk n m i) (sym split) ∙ walk_more (n - i) (t - (n - i)) i ∙ ap (walk n (t - (n - i))) (walk_round (n - i) i (omega arith) (omega arith))
          ∙ walk_up (t - (n - i)) 0 (omega arith) ∙ omega arith in
          omega arith
