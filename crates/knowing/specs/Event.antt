-- What a move's rule makes of a knowledge held as a value, in demand 3's own words. One theorem serves every part: F are its facts, `view` reads its
-- knowledge.
use Rattle.std.specs.Prelude.{ℕ, ◌≤◌, ◌≡◌}
use Rattle.std.proofs.Common.{arith, sym, ◌∙◌}
use Rattle.std.proofs.Math.Path.{subst⁻¹}
use Rattle.rules.specs.Rule.{Rule}
use Rattle.rules.specs.Turn.{Result}
use Rattle.rules.specs.Range.{Good, Ranged}
use Rattle.knowing.specs.Standing.{Standing, known, Agrees, Fits, Within, Sound}
use Rattle.knowing.specs.Moves.{AllHave, exactly, still_fits}
use Rattle.knowing.specs.Exact.{know_more}
use Rattle.knowing.specs.Range.{know_sound}
use Rattle.knowing.specs.Ways.{Knows}

module _ {F K : Type 0} (view : K → F → Standing) (same? : Discrete F) (range : F → ℕ) (two : (f : F) → 2 ≤ range f) (rule : Rule F F) (k r : K)
    (met : Knows view view same? range rule k r) where
  -- After the event a fact is known exactly when all chips that fit the earlier knowledge, moved as the rule allows, agree on it, and has their value.
  pub event_exact : Sound range (view k) → (f : F) (v : ℕ) → (view r f ≡ known v → AllHave range rule (view k) f v) × (AllHave range rule (view k) f v → view r f ≡ known v)
  event_exact s f v =
      let x = exactly same? range two rule (view k) s f v in
      (λ q. x.0 (sym (met f) ∙ q), λ a. met f ∙ x.1 a)

  -- Two answers say the same of every fact.
  pub event_one : (q : K) → Knows view view same? range rule k q → (f : F) → view r f ≡ view q f
  event_one q h f = met f ∙ sym (h f)

  -- A chip that fitted still fits, whichever of its results it has become.
  pub event_fits : Sound range (view k) → (c : F → ℕ) → Good range c → Fits (view k) c → (x : F → ℕ) → Result range rule c x → Fits (view r) x
  event_fits s c good h x made f = subst⁻¹ (λ (t : Standing). Agrees t (x f)) (met f) (still_fits same? range two rule (view k) s c good h x made f)

  -- Who knew more, and contradicted nothing, knows at least as much, with the same values.
  pub event_more : (l q : K) → Sound range (view k) → Sound range (view l) → Knows view view same? range rule l q
      → ((f : F) (v : ℕ) → view k f ≡ known v → view l f ≡ known v) → (f : F) (v : ℕ) → view r f ≡ known v → view q f ≡ known v
  event_more l q s t h more f v a = h f ∙ know_more same? range two range two rule (view k) (view l) s t more f v (sym (met f) ∙ a)

  -- Known values stay in range.
  pub event_sound : Ranged range range rule → Sound range (view k) → Sound range (view r)
  event_sound h s f =
      subst⁻¹ (λ (t : Standing). Within (range f) t) (met f) (know_sound same? range (λ g. let t = two g in omega arith) range rule (view k) h s f)
