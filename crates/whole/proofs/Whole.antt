-- What all ends have in common is what all chips that fit at the end have in common: the known values, since a fact that is not
-- known may as well be 0 as 1.
use Rattle.std.specs.Prelude.{ℕ, ◌<◌, ◌≤◌, ◌≡◌, List, map}
use Rattle.std.proofs.Common.{arith, ap, subst}
use Rattle.rules.specs.Rule.{Rule}
use Rattle.rules.specs.Range.{Ranged}
use Rattle.knowing.specs.Standing.{Standing, known, unknown, Agrees, Sound}
use Rattle.knowing.specs.Fill.{fill, filled, filled_fits, filled_good}
use Rattle.knowing.specs.Turn.{in_turn}
use Rattle.whole.specs.Sentence.{AllEnd}
use Rattle.whole.specs.Clear.{KnowsSteering, Clear}
use Rattle.whole.specs.Usual.{Each, Throughout}
use Rattle.whole.specs.Whole.{ExactAtEnd, turn_sound, ends_fit, fits_end}

agreed : (s : Standing) (v w : ℕ) → s ≡ known v → Agrees s w → w ≡ v
agreed s v w e a = subst (λ (t : Standing). Agrees t w) e a

-- What is v whether the unknown is 0 or 1 is known to be v.
filled_twice : (s : Standing) (v : ℕ) → fill 0 s ≡ v → fill 1 s ≡ v → s ≡ known v
filled_twice (known u) v a b = ap known a
filled_twice unknown v a b = absurd (omega arith)

module _ {E F : Type 0} (same? : Discrete F) (range : F → ℕ) (two : (f : F) → 2 ≤ range f) (move : E → Rule F F) (Carries : E → Type 0)
    (ranged : (e : E) → Carries e → Ranged range range (move e)) where
  -- Where an event is usual at a knowledge, its rule is clear there.
  module _ (Steers : F → Type 0) (Usual : E → (F → Standing) → Type 0) (clear : (e : E) (k : F → Standing) → Usual e k → Clear Steers (move e) k) where
    -- What is known at the end is exactly what all fitting chips end with.
    pub exact_at_end : (es : List E) (k : F → Standing) → Each Carries es → Sound range k → KnowsSteering Steers k → Throughout same? range move Usual es k
        → (f : F) → ExactAtEnd same? range (map move es) k f
    exact_at_end es k b s t h f v = (
      λ e c good fits x ends. agreed (end f) v (x f) e (ends_fit same? range two move Carries ranged es k b s c x good fits ends f),
      λ all. filled_twice (end f) v (at 0 (λ g. let r = two g in omega arith) all) (at 1 two all),
    )
      where
        end : F → Standing
        end = in_turn same? range (map move es) k

        at : (d : ℕ) → ((g : F) → d < range g) → AllEnd range (map move es) k f v → fill d (end f) ≡ v
        at d room all =
            let (c, good, fits, ends) = fits_end same? range two move Carries ranged Steers Usual clear es k b s t h (filled d end) (filled_good range d room end (turn_sound same? range two move Carries ranged es k b s)) (filled_fits range d room end) in
            all c good fits (filled d end) ends
