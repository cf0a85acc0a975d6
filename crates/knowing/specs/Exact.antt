-- What `know` says is exact. The argument, by induction on the rule. At a form, the fitting chip that has 0 wherever nothing is known, and the
-- one that has 1 there, show that "unknown" is deserved. At a look at a known fact, every fitting chip goes the one way. At a look at an
-- unknown fact, the fitting chips are those that fit the knowledge with one of its values learnt, for each value.
use Rattle.std.specs.Prelude.{ℕ, ◌≤◌, ◌≡◌, refl}
use Rattle.std.proofs.Common.{arith, sym, ap, ◌∙◌, subst}
use Rattle.std.proofs.Math.Path.{subst⁻¹}
use Rattle.rules.specs.Rule.{Form, value, copy, free, Rule, gives, look, outcome, run}
use Rattle.rules.specs.Range.{Good}
use Rattle.rules.specs.Turn.{Allows}
use Rattle.knowing.specs.Standing.{Standing, known, unknown, Agrees, Fits, Sound, Exact}
use Rattle.knowing.specs.Know.{lifted, learn, common, know}
use Rattle.knowing.specs.Join.{not_known, known_one, common_all, common_each}
use Rattle.knowing.specs.Changed.{learn_sound}
use Rattle.knowing.specs.Fill.{fill, filled, filled_fits, filled_good}

module _ {F : Type 0} (same? : Discrete F) (range : F → ℕ) (two : (f : F) → 2 ≤ range f) where
  -- One thing that is known and what all fitting chips have: a form.
  form_exact : (n : ℕ) (k : F → Standing) → 2 ≤ n → Sound range k → (x : Form F) (v : ℕ)
      → (lifted k x ≡ known v → (c : F → ℕ) → Good range c → Fits k c → (w : ℕ) → Allows n (outcome c x) w → w ≡ v)
      × (((c : F → ℕ) → Good range c → Fits k c → (w : ℕ) → Allows n (outcome c x) w → w ≡ v) → lifted k x ≡ known v)
  form_exact n k m s (value u) v = (
    λ e c g h w a. a ∙ known_one u v e,
    λ all. ap known (all (filled 0 k) (filled_good range 0 (λ f. let t = two f in omega arith) k s) (filled_fits range 0 (λ f. let t = two f in omega arith) k) u refl),
  )
  form_exact n k m s (copy g) v = go (k g) refl
    where
      zero_chip : Good range (filled 0 k)
      zero_chip = filled_good range 0 (λ f. let t = two f in omega arith) k s

      one_chip : Good range (filled 1 k)
      one_chip = filled_good range 1 (λ f. two f) k s

      go : (t : Standing) → k g ≡ t
          → (k g ≡ known v → (c : F → ℕ) → Good range c → Fits k c → (w : ℕ) → w ≡ c g → w ≡ v)
          × (((c : F → ℕ) → Good range c → Fits k c → (w : ℕ) → w ≡ c g → w ≡ v) → k g ≡ known v)
      go (known u) p = (
        λ e c good h w a. a ∙ subst (λ (t : Standing). Agrees t (c g)) e (h g),
        λ all. p ∙ ap known (ap (fill 0) (sym p) ∙ all (filled 0 k) zero_chip (filled_fits range 0 (λ f. let t = two f in omega arith) k) (filled 0 k g) refl),
      )
      go unknown p = (
        λ e c good h w a. absurd (not_known v (sym p ∙ e)),
        λ all. absurd (apart
            (ap (fill 0) (sym p) ∙ all (filled 0 k) zero_chip (filled_fits range 0 (λ f. let t = two f in omega arith) k) (filled 0 k g) refl)
            (ap (fill 1) (sym p) ∙ all (filled 1 k) one_chip (filled_fits range 1 (λ f. two f) k) (filled 1 k g) refl)),
      )
        where
          apart : 0 ≡ v → 1 ≡ v → ⊥
          apart a b = omega arith
  form_exact n k m s free v = (
    λ e. absurd (not_known v e),
    λ all. absurd (apart
        (all (filled 0 k) (filled_good range 0 (λ f. let t = two f in omega arith) k s) (filled_fits range 0 (λ f. let t = two f in omega arith) k) 0 (omega arith))
        (all (filled 0 k) (filled_good range 0 (λ f. let t = two f in omega arith) k s) (filled_fits range 0 (λ f. let t = two f in omega arith) k) 1 (omega arith))),
  )
    where
      apart : 0 ≡ v → 1 ≡ v → ⊥
      apart a b = omega arith

  -- Learning the value of a fact.
  learn_fits : (g : F) (w : ℕ) (k : F → Standing) (c : F → ℕ) → c g ≡ w → Fits k c → Fits (learn same? g w k) c
  learn_fits g w k c e h f = go (same? f g)
    where
      go : (d : Dec (f ≡ g)) → Agrees (elim d [ yes _ ↦ known w | no _ ↦ k f ]) (c f)
      go (yes p) = ap c p ∙ e
      go (no p) = h f

  learnt_value : (g : F) (w : ℕ) (k : F → Standing) (c : F → ℕ) → Fits (learn same? g w k) c → c g ≡ w
  learnt_value g w k c h = go (same? g g) (h g)
    where
      go : (d : Dec (g ≡ g)) → Agrees (elim d [ yes _ ↦ known w | no _ ↦ k g ]) (c g) → c g ≡ w
      go (yes p) a = a
      go (no p) a = absurd (p refl)

  learnt_fits : (g : F) (w : ℕ) (k : F → Standing) (c : F → ℕ) → k g ≡ unknown → Fits (learn same? g w k) c → Fits k c
  learnt_fits g w k c e h f = go (same? f g) (h f)
    where
      go : (d : Dec (f ≡ g)) → Agrees (elim d [ yes _ ↦ known w | no _ ↦ k f ]) (c f) → Agrees (k f) (c f)
      go (yes p) a = subst⁻¹ (λ (s : Standing). Agrees s (c f)) (ap k p ∙ e) tt
      go (no p) a = a

  module _ {R : Type 0} (answers : R → ℕ) (twice : (r : R) → 2 ≤ answers r) where
    -- A look, at a fact that is known, and at one that is not.
    look_exact : (g : F) (κ : ℕ → Rule F R) (k : F → Standing) (r : R) → Sound range k
        → ((w : ℕ) (l : F → Standing) → Sound range l → Exact range answers (κ w) l r (know same? range (κ w) l r))
        → (t : Standing) → k g ≡ t
        → Exact range answers (look g κ) k r (elim t [ known v ↦ know same? range (κ v) k r | unknown ↦ common (range g) (λ w. know same? range (κ w) (learn same? g w k) r) ])
    look_exact g κ k r s ih (known u) p v = (
      λ e c good h w a.
          let z : c g ≡ u = subst (λ (t : Standing). Agrees t (c g)) p (h g) in
          (ih u k s v).0 e c good h w (subst (λ (y : ℕ). Allows (answers r) (run (κ y) c r) w) z a),
      λ all. (ih u k s v).1 (λ c good h w a.
          let z : c g ≡ u = subst (λ (t : Standing). Agrees t (c g)) p (h g) in
          all c good h w (subst⁻¹ (λ (y : ℕ). Allows (answers r) (run (κ y) c r) w) z a)),
    )
    look_exact g κ k r s ih unknown p v = (
      λ e c good h w a.
          (ih (c g) (learn same? g (c g) k) (learn_sound same? k g (c g) range (good g) s) v).0
          (common_each (range g) (λ y. know same? range (κ y) (learn same? g y k) r) v e (c g) (good g))
          c good (learn_fits g (c g) k c refl h) w a,
      λ all. common_all (range g) (λ y. know same? range (κ y) (learn same? g y k) r) v (let t = two g in omega arith) (λ u l.
          (ih u (learn same? g u k) (learn_sound same? k g u range l s) v).1 (λ c good h w a.
          all c good (learnt_fits g u k c p h) w (subst⁻¹ (λ (y : ℕ). Allows (answers r) (run (κ y) c r) w) (learnt_value g u k c h) a))),
    )

    -- What `know` says of r is exactly what all fitting chips agree on.
    pub know_exact : (rule : Rule F R) (k : F → Standing) → Sound range k → (r : R) → Exact range answers rule k r (know same? range rule k r)
    know_exact (gives φ) k s r = λ v. form_exact (answers r) k (twice r) s (φ r) v
    know_exact (look g κ) k s r = look_exact g κ k r s (λ w l t. know_exact (κ w) l t r) (k g) refl

    -- Two standings that are exact are one.
    pub exact_one : (rule : Rule F R) (k : F → Standing) (r : R) (a b : Standing) → Exact range answers rule k r a → Exact range answers rule k r b → a ≡ b
    exact_one rule k r (known v) b ha hb = sym ((hb v).1 ((ha v).0 refl))
    exact_one rule k r unknown (known w) ha hb = (ha w).1 ((hb w).0 refl)
    exact_one rule k r unknown unknown ha hb = refl

    -- A chip that fitted the knowledge fits what the rule makes of both.
    pub know_fits : (rule : Rule F R) (k : F → Standing) → Sound range k → (c : F → ℕ) → Good range c → Fits k c
        → (r : R) (w : ℕ) → Allows (answers r) (run rule c r) w → Agrees (know same? range rule k r) w
    know_fits rule k s c good h r w a = go (know same? range rule k r) refl
      where
        go : (t : Standing) → know same? range rule k r ≡ t → Agrees t w
        go (known v) e = (know_exact rule k s r v).0 e c good h w a
        go unknown e = tt

    -- A knowledge that knows more, and contradicts nothing, ends knowing at least as much, with the same values.
    pub know_more : (rule : Rule F R) (k l : F → Standing) → Sound range k → Sound range l → ((f : F) (v : ℕ) → k f ≡ known v → l f ≡ known v)
        → (r : R) (v : ℕ) → know same? range rule k r ≡ known v → know same? range rule l r ≡ known v
    know_more rule k l s t more r v e =
        (know_exact rule l t r v).1 (λ c good h w a. (know_exact rule k s r v).0 e c good (λ f. less c h f (k f) refl) w a)
      where
        less : (c : F → ℕ) → Fits l c → (f : F) (y : Standing) → k f ≡ y → Agrees y (c f)
        less c h f (known u) q = subst (λ (z : Standing). Agrees z (c f)) (more f u q) (h f)
        less c h f unknown q = tt
