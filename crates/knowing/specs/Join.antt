-- The laws of what several ways have in common: it is known to be v exactly where every way is.
use Rattle.std.specs.Prelude.{ℕ, zero, suc, ◌<◌, ◌≡◌, refl, Bool, true, false, eqb}
use Rattle.std.proofs.Common.{arith, sym, ◌∙◌, ap, eqb-true, eq-eqb}
use Rattle.std.proofs.Math.Decide.{ℕ_discrete}
use Rattle.knowing.specs.Standing.{Standing, known, unknown}
use Rattle.knowing.specs.Know.{join, common, kept_if}

-- Known is not unknown.
pub not_known : (v : ℕ) → unknown ≡ known v → ⊥
not_known v e =
    let z : ◌≡◌ {A = ℕ} 0 1 = cc in
    omega arith

pub known_one : (v w : ℕ) → known v ≡ known w → v ≡ w
known_one v w e = cc

pub join_both : (s t : Standing) (v : ℕ) → s ≡ known v → t ≡ known v → join s t ≡ known v
unfolding join kept_if
join_both s t v p q = rw (p, q, eq-eqb v v refl) refl

kept_test : (b : Bool) (v w : ℕ) → kept_if b v ≡ known w → (b ≡ true) × (v ≡ w)
unfolding kept_if
kept_test true v w e = (refl, known_one v w e)
kept_test false v w e = absurd (not_known w e)

pub join_known : (s t : Standing) (v : ℕ) → join s t ≡ known v → (s ≡ known v) × (t ≡ known v)
unfolding join
join_known (known a) (known b) v e =
    let h = kept_test (eqb a b) a v e in
    (ap known h.1, ap known (sym (eqb-true a b h.0) ∙ h.1))
join_known (known a) unknown v e = absurd (not_known v e)
join_known unknown (known b) v e = absurd (not_known v e)
join_known unknown unknown v e = absurd (not_known v e)

pub common_all : (n : ℕ) (s : ℕ → Standing) (v : ℕ) → 0 < n → ((w : ℕ) → w < n → s w ≡ known v) → common n s ≡ known v
unfolding common
common_all zero s v p h = absurd (omega arith)
common_all (suc zero) s v p h = h zero (omega arith)
common_all (suc (suc n)) s v p h = join_both _ _ v (common_all (suc n) s v (omega arith) (λ w l. h w (omega arith))) (h (suc n) (omega arith))

last_or_earlier : (n w : ℕ) (s : ℕ → Standing) (v : ℕ) → w < suc (suc n) → s (suc n) ≡ known v → (w < suc n → s w ≡ known v) → Dec (w ≡ suc n) → s w ≡ known v
last_or_earlier n w s v l last earlier (yes p) = rw p last
last_or_earlier n w s v l last earlier (no p) = earlier (omega arith)

pub common_each : (n : ℕ) (s : ℕ → Standing) (v : ℕ) → common n s ≡ known v → (w : ℕ) → w < n → s w ≡ known v
unfolding common
common_each zero s v e w l = absurd (omega arith)
common_each (suc zero) s v e w l =
    let z : w ≡ zero = omega arith in
    rw z e
common_each (suc (suc n)) s v e w l =
    let both = join_known (common (suc n) s) (s (suc n)) v e in
    last_or_earlier n w s v l both.1 (λ h. common_each (suc n) s v both.0 w h) (ℕ_discrete w (suc n))

-- Standings that are known to the same values are one.
pub same_standing : (s t : Standing) → ((v : ℕ) → s ≡ known v → t ≡ known v) → ((v : ℕ) → t ≡ known v → s ≡ known v) → s ≡ t
same_standing (known v) t h k = sym (h v refl)
same_standing unknown (known w) h k = k w refl
same_standing unknown unknown h k = refl

-- All ways are the same.
pub common_same : (n : ℕ) (s : ℕ → Standing) (a : Standing) → 0 < n → ((w : ℕ) → w < n → s w ≡ a) → common n s ≡ a
common_same n s a p h =
    same_standing (common n s) a
    (λ v e. sym (h 0 p) ∙ common_each n s v e 0 p)
    (λ v e. common_all n s v p (λ w l. h w l ∙ e))

-- One way has a, all others b, and there is another.
pub common_two : (n : ℕ) (s : ℕ → Standing) (a b : Standing) (m o : ℕ) → m < n → o < n → ¬ (o ≡ m) → s m ≡ a → ((w : ℕ) → w < n → ¬ (w ≡ m) → s w ≡ b) → common n s ≡ join a b
common_two n s a b m o lm lo d ha hb =
    same_standing (common n s) (join a b)
    (λ v e. join_both a b v (sym ha ∙ common_each n s v e m lm) (sym (hb o lo d) ∙ common_each n s v e o lo))
    (λ v e.
    let j = join_known a b v e in
    common_all n s v (omega arith) (λ w l. by w l (ℕ_discrete w m) j.0 j.1))
  where
    by : (w : ℕ) → w < n → Dec (w ≡ m) → {v : ℕ} → a ≡ known v → b ≡ known v → s w ≡ known v
    by w l (yes p) x y = rw p (ha ∙ x)
    by w l (no p) x y = hb w l p ∙ y

-- Two ways differ.
pub common_apart : (n : ℕ) (s : ℕ → Standing) (i j v w : ℕ) → i < n → j < n → ¬ (v ≡ w) → s i ≡ known v → s j ≡ known w → common n s ≡ unknown
common_apart n s i j v w li lj d p q =
    same_standing (common n s) unknown
    (λ u e. absurd (d (known_one v w (sym p ∙ common_each n s u e i li ∙ sym (common_each n s u e j lj) ∙ q))))
    (λ u e. absurd (not_known u e))

-- What is unknown one way is unknown.
pub join_not : (s t : Standing) → s ≡ unknown → unknown ≡ join s t
unfolding join
join_not (known v) t e = absurd (not_known v (sym e))
join_not unknown (known w) e = refl
join_not unknown unknown e = refl

pub join_nor : (s t : Standing) → t ≡ unknown → unknown ≡ join s t
unfolding join
join_nor (known v) (known w) e = absurd (not_known w (sym e))
join_nor unknown (known w) e = absurd (not_known w (sym e))
join_nor (known v) unknown e = refl
join_nor unknown unknown e = refl

-- What is different two ways is unknown.
pub join_other : (s t : Standing) (v w : ℕ) → s ≡ known v → t ≡ known w → ¬ (v ≡ w) → unknown ≡ join s t
join_other s t v w p q d =
    sym (same_standing (join s t) unknown
    (λ u e.
    let h = join_known s t u e in
    absurd (d (known_one v u (sym p ∙ h.0) ∙ sym (known_one w u (sym q ∙ h.1)))))
    (λ u e. absurd (not_known u e)))

-- What the ways have in common goes by each way alone.
pub common_ways : (n : ℕ) (s t : ℕ → Standing) → ((w : ℕ) → s w ≡ t w) → common n s ≡ common n t
unfolding common
common_ways zero s t h = refl
common_ways (suc zero) s t h = h zero
common_ways (suc (suc n)) s t h = rw (common_ways (suc n) s t h, h (suc n)) refl

-- The order of two ways does not matter.
pub join_swap : (s t : Standing) → join s t ≡ join t s
join_swap s t =
    same_standing (join s t) (join t s)
    (λ v e.
    let h = join_known s t v e in
    join_both t s v h.1 h.0)
    (λ v e.
    let h = join_known t s v e in
    join_both s t v h.1 h.0)

-- What is common to a way and to another is common to that one again.
pub join_again : (s t : Standing) → join (join s t) t ≡ join s t
join_again s t =
    same_standing (join (join s t) t) (join s t)
    (λ v e. (join_known (join s t) t v e).0)
    (λ v e. join_both (join s t) t v e (join_known s t v e).1)

-- Of three ways the second may come last.
pub join_late : (s t u : Standing) → join (join s t) u ≡ join (join s u) t
join_late s t u = same_standing (join (join s t) u) (join (join s u) t) (late s t u) (late s u t)
  where
    late : (s t u : Standing) (v : ℕ) → join (join s t) u ≡ known v → join (join s u) t ≡ known v
    late s t u v e =
        let h = join_known (join s t) u v e in
        let g = join_known s t v h.0 in
        join_both (join s u) t v (join_both s u v g.0 h.1) g.1

-- A way has in common with itself what it has.
pub join_itself : (s : Standing) → join s s ≡ s
unfolding join
join_itself (known v) = join_both (known v) (known v) v refl refl
join_itself unknown = refl
