-- Where nothing is known of what a rule looks at, and two of its ways do nothing, it makes nothing of what is unknown. The argument: what is unknown one way
-- is unknown, and the fact looked at is another number on each of the two ways.
use Rattle.std.specs.Prelude.{ℕ, ◌<◌, ◌≤◌, ◌≡◌, refl}
use Rattle.std.proofs.Common.{arith, sym, ap, ◌∙◌}
use Rattle.std.proofs.Math.Path.{subst⁻¹}
use Rattle.rules.specs.Rule.{Rule, gives, look}
use Rattle.rules.specs.Change.{keep}
use Rattle.rules.specs.Touch.{Leaves}
use Rattle.knowing.specs.Standing.{Standing, known, unknown}
use Rattle.knowing.specs.Know.{learn, lifted, common, know}
use Rattle.knowing.specs.Join.{not_known, common_each, common_same, common_apart, same_standing}
use Rattle.knowing.specs.Look.{look_known, look_unknown}
use Rattle.knowing.specs.Changed.{learn_here, learn_other}

-- What is unknown one way is unknown.
pub common_lost : (n : ℕ) (s : ℕ → Standing) (i : ℕ) → i < n → s i ≡ unknown → common n s ≡ unknown
common_lost n s i h e = same_standing (common n s) unknown (λ v q. absurd (not_known v (sym e ∙ common_each n s v q i h))) (λ v q. absurd (not_known v q))

-- The values i and j of the fact g are two ways that do nothing.
module _ {F : Type 0} (same? : Discrete F) (range : F → ℕ) (g : F) (κ : ℕ → Rule F F) (i j : ℕ) (hi : i < range g) (hj : j < range g) (apart : ¬ (i ≡ j))
    (idle : κ i ≡ gives keep) (still : κ j ≡ gives keep) where
  pub look_lost : (k : F → Standing) → k g ≡ unknown → (f : F) → k f ≡ unknown → k f ≡ know same? range (look g κ) k f
  look_lost k u f e = look_unknown same? range g κ k f (k f) u (e ∙ sym (by (same? f g)))
    where
      ways : ℕ → Standing
      ways w = know same? range (κ w) (learn same? g w k) f

      nothing : (w : ℕ) → κ w ≡ gives keep → ways w ≡ learn same? g w k f
      nothing w q = subst⁻¹ (λ (rule : Rule F F). know same? range rule (learn same? g w k) f ≡ learn same? g w k f) q refl

      by : Dec (f ≡ g) → common (range g) ways ≡ unknown
      by (yes p) =
          common_apart (range g) ways i j i j hi hj apart
          (nothing i idle ∙ ap (learn same? g i k) p ∙ learn_here same? k g i) (nothing j still ∙ ap (learn same? g j k) p ∙ learn_here same? k g j)
      by (no n) = common_lost (range g) ways i hi (nothing i idle ∙ learn_other same? k g i f n ∙ e)

-- What a rule leaves alone is known after it as before, since no fact has fewer than two values.
module _ {F : Type 0} (same? : Discrete F) (range : F → ℕ) (two : (f : F) → 2 ≤ range f) (f : F) where
  pub know_leaves : (rule : Rule F F) (k : F → Standing) → Leaves f rule → k f ≡ know same? range rule k f
  know_leaves (gives φ) k h = sym (ap (lifted k) h)
  know_leaves (look g κ) k h = by (k g) refl (λ w l. know_leaves (κ w) l (h w))
    where
      ways : k g ≡ unknown → ((w : ℕ) (l : F → Standing) → l f ≡ know same? range (κ w) l f) → Dec (f ≡ g)
          → k f ≡ common (range g) (λ w. know same? range (κ w) (learn same? g w k) f)
      ways u ih (yes p) =
          let t = two g in
          let at : (w : ℕ) → know same? range (κ w) (learn same? g w k) f ≡ known w = λ w. sym (ih w (learn same? g w k)) ∙ ap (learn same? g w k) p ∙ learn_here same? k g w in
          ap k p ∙ u ∙ sym (common_apart (range g) _ 0 1 0 1 (omega (arith, t)) (omega (arith, t)) (λ e. absurd (omega (arith, e))) (at 0) (at 1))
      ways u ih (no n) =
          let t = two g in
          sym (common_same (range g) _ (k f) (omega (arith, t)) (λ w l. sym (ih w (learn same? g w k)) ∙ learn_other same? k g w f n))

      by : (t : Standing) → k g ≡ t → ((w : ℕ) (l : F → Standing) → l f ≡ know same? range (κ w) l f) → k f ≡ know same? range (look g κ) k f
      by (known v) e ih = look_known same? range g κ k f v (k f) e (ih v k)
      by unknown e ih = look_unknown same? range g κ k f (k f) e (ways e ih (same? f g))
