-- A look at a fact that is known, and at one that is not.
use Rattle.std.specs.Prelude.{ℕ, ◌≡◌, refl}
use Rattle.std.proofs.Common.{sym, ap, ◌∙◌}
use Rattle.std.proofs.Math.Path.{subst⁻¹}
use Rattle.rules.specs.Rule.{Form, value, copy, free, Rule, gives, look}
use Rattle.knowing.specs.Standing.{Standing, known, unknown}
use Rattle.knowing.specs.Know.{lifted, learn, join, common, know}
use Rattle.knowing.specs.Join.{common_ways, join_other, join_itself}

module _ {F R : Type 0} (same? : Discrete F) (range : F → ℕ) (g : F) (κ : ℕ → Rule F R) (k : F → Standing) (r : R) where
  abbrev goes : Standing → Standing
  goes t = elim t [ known v ↦ know same? range (κ v) k r | unknown ↦ common (range g) (λ w. know same? range (κ w) (learn same? g w k) r) ]

  pub look_known : (v : ℕ) (s : Standing) → k g ≡ known v → s ≡ know same? range (κ v) k r → s ≡ know same? range (look g κ) k r
  look_known v s e h = h ∙ sym (subst⁻¹ (λ (t : Standing). goes t ≡ know same? range (κ v) k r) e refl)

  pub look_unknown : (s : Standing) → k g ≡ unknown → s ≡ common (range g) (λ w. know same? range (κ w) (learn same? g w k) r) → s ≡ know same? range (look g κ) k r
  look_unknown s e h = h ∙ sym (subst⁻¹ (λ (t : Standing). goes t ≡ common (range g) (λ w. know same? range (κ w) (learn same? g w k) r)) e refl)

-- What a rule makes of a knowledge goes by what is known of each fact, and of a form likewise.
lifted_same : {F : Type 0} (k l : F → Standing) → ((f : F) → k f ≡ l f) → (x : Form F) → lifted k x ≡ lifted l x
lifted_same k l h (value v) = refl
lifted_same k l h (copy g) = h g
lifted_same k l h free = refl

module _ {F : Type 0} (same? : Discrete F) where
  pub learn_same : (g : F) (v : ℕ) (k l : F → Standing) → ((f : F) → k f ≡ l f) → (f : F) → learn same? g v k f ≡ learn same? g v l f
  learn_same g v k l h f = go (same? f g)
    where
      go : (d : Dec (f ≡ g)) → ◌≡◌ {A = Standing} (elim d [ yes e ↦ known v | no n ↦ k f ]) (elim d [ yes e ↦ known v | no n ↦ l f ])
      go (yes e) = refl
      go (no n) = h f

  pub know_same : {R : Type 0} (range : F → ℕ) (rule : Rule F R) (k l : F → Standing) → ((f : F) → k f ≡ l f) → (r : R) → know same? range rule k r ≡ know same? range rule l r
  know_same range (gives φ) k l h r = lifted_same k l h (φ r)
  know_same {R} range (look g κ) k l h r =
      go (λ v. know_same range (κ v) k l h r) (λ w. know_same range (κ w) (learn same? g w k) (learn same? g w l) (learn_same g w k l h) r) (k g) refl
    where
      go : ((v : ℕ) → know same? range (κ v) k r ≡ know same? range (κ v) l r)
          → ((w : ℕ) → know same? range (κ w) (learn same? g w k) r ≡ know same? range (κ w) (learn same? g w l) r)
          → (t : Standing) → k g ≡ t → know same? range (look g κ) k r ≡ know same? range (look g κ) l r
      go one each (known v) e = sym (look_known same? range g κ k r v _ e refl) ∙ one v ∙ look_known same? range g κ l r v _ (sym (h g) ∙ e) refl
      go one each unknown e =
          sym (look_unknown same? range g κ k r _ e refl) ∙ common_ways (range g) _ _ each ∙ look_unknown same? range g κ l r _ (sym (h g) ∙ e) refl

-- Two ways of a look at an unknown fact that do nothing have in common all that is known.
pub idle_ways : {F : Type 0} (same? : Discrete F) (g : F) (k : F → Standing) (v w : ℕ) → ¬ (v ≡ w) → k g ≡ unknown → (f : F) → k f ≡ join (learn same? g v k f) (learn same? g w k f)
idle_ways same? g k v w n u f = go (same? f g)
  where
    go : (d : Dec (f ≡ g)) → k f ≡ join (elim d [ yes e ↦ known v | no n ↦ k f ]) (elim d [ yes e ↦ known w | no n ↦ k f ])
    go (yes e) = ap k e ∙ u ∙ join_other (known v) (known w) v w refl refl n
    go (no m) = sym (join_itself (k f))
