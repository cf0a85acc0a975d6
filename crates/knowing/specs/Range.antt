-- What a rule in range makes of a knowledge in range is in range. The argument, by induction on the rule: a form in range is known to be in range
-- or unknown, and so is what several ways in range have in common.
use Rattle.std.specs.Prelude.{ℕ, ◌<◌, ◌≤◌, ◌≡◌, refl}
use Rattle.std.proofs.Common.{arith, subst}
use Rattle.rules.specs.Rule.{Form, value, copy, free, Rule, gives, look}
use Rattle.rules.specs.Range.{FormIn, Ranged}
use Rattle.knowing.specs.Standing.{Standing, known, unknown, Within, Sound}
use Rattle.knowing.specs.Know.{lifted, learn, common, know}
use Rattle.knowing.specs.Join.{common_each}
use Rattle.knowing.specs.Changed.{learn_sound}

wider : (m n : ℕ) (s : Standing) → m ≤ n → Within m s → Within n s
wider m n (known v) h w = omega arith
wider m n unknown h w = tt

common_within : (m n : ℕ) (s : ℕ → Standing) → 0 < n → ((w : ℕ) → w < n → Within m (s w)) → Within m (common n s)
common_within m n s p h = go (common n s) refl
  where
    go : (t : Standing) → common n s ≡ t → Within m t
    go (known v) e = subst (λ (t : Standing). Within m t) (common_each n s v e 0 p) (h 0 p)
    go unknown e = tt

module _ {F R : Type 0} (same? : Discrete F) (range : F → ℕ) (some : (f : F) → 0 < range f) (answers : R → ℕ) where
  form_within : (k : F → Standing) (n : ℕ) (x : Form F) → Sound range k → FormIn range n x → Within n (lifted k x)
  form_within k n (value v) s h = h
  form_within k n (copy g) s h = wider (range g) n (k g) h (s g)
  form_within k n free s h = tt

  pub know_sound : (rule : Rule F R) (k : F → Standing) → Ranged range answers rule → Sound range k → (r : R) → Within (answers r) (know same? range rule k r)
  know_sound (gives φ) k h s r = form_within k (answers r) (φ r) s (h r)
  know_sound (look g κ) k h s r =
      go (k g) (s g) (λ v l. know_sound (κ v) k (h v l) s r) (λ w l. know_sound (κ w) (learn same? g w k) (h w l) (learn_sound same? k g w range l s) r)
    where
      go : (t : Standing) → Within (range g) t → ((v : ℕ) → v < range g → Within (answers r) (know same? range (κ v) k r))
          → ((w : ℕ) → w < range g → Within (answers r) (know same? range (κ w) (learn same? g w k) r))
          → Within (answers r) (elim t [ known v ↦ know same? range (κ v) k r | unknown ↦ common (range g) (λ w. know same? range (κ w) (learn same? g w k) r) ])
      go (known v) l one each = one v l
      go unknown l one each = common_within (answers r) (range g) (λ w. know same? range (κ w) (learn same? g w k) r) (some g) each
