-- One fact of several: what is known of it after it is set or learnt, and of the others.
use Rattle.std.specs.Prelude.{ℕ, ◌<◌, ◌≡◌, refl}
use Rattle.std.proofs.Math.Path.{subst⁻¹}
use Rattle.rules.specs.Rule.{Form, value}
use Rattle.rules.specs.Change.{change}
use Rattle.knowing.specs.Standing.{Standing, known, Within, Sound}
use Rattle.knowing.specs.Know.{lifted, learn}

module _ {F : Type 0} (same? : Discrete F) (l : F → Standing) (g : F) (v : ℕ) where
  pub set_same : (φ : F → Form F) → lifted l (change same? g (value v) φ g) ≡ known v
  set_same φ = go (same? g g)
    where
      go : (d : Dec (g ≡ g)) → lifted l (elim d [ yes _ ↦ value v | no _ ↦ φ g ]) ≡ known v
      go (yes _) = refl
      go (no n) = absurd (n refl)

  pub set_other : (φ : F → Form F) (f : F) → ¬ (f ≡ g) → lifted l (change same? g (value v) φ f) ≡ lifted l (φ f)
  set_other φ f n = go (same? f g)
    where
      go : (d : Dec (f ≡ g)) → lifted l (elim d [ yes _ ↦ value v | no _ ↦ φ f ]) ≡ lifted l (φ f)
      go (yes p) = absurd (n p)
      go (no _) = refl

  pub learn_here : learn same? g v l g ≡ known v
  learn_here = go (same? g g)
    where
      go : (d : Dec (g ≡ g)) → ◌≡◌ {A = Standing} (elim d [ yes _ ↦ known v | no _ ↦ l g ]) (known v)
      go (yes _) = refl
      go (no n) = absurd (n refl)

  pub learn_other : (f : F) → ¬ (f ≡ g) → learn same? g v l f ≡ l f
  learn_other f n = go (same? f g)
    where
      go : (d : Dec (f ≡ g)) → ◌≡◌ {A = Standing} (elim d [ yes _ ↦ known v | no _ ↦ l f ]) (l f)
      go (yes p) = absurd (n p)
      go (no _) = refl

  -- What is learnt within its range keeps a knowledge in range.
  pub learn_sound : (range : F → ℕ) → v < range g → Sound range l → Sound range (learn same? g v l)
  learn_sound range h s f = go (same? f g)
    where
      go : (d : Dec (f ≡ g)) → Within (range f) (elim d [ yes _ ↦ known v | no _ ↦ l f ])
      go (yes p) = subst⁻¹ (λ (x : F). v < range x) p h
      go (no p) = s f
