-- What the proofs of this crate lean on. The argument: a cut_off start is told by what is read at its front; and whether a
-- refusal stands is told by its number, test by test.
use Rattle.std.specs.Prelude.{ℕ, ◌<◌, ◌≡◌, refl, Bool, true, false, ◌||◌, List, length, eqb, Err}
use Rattle.std.proofs.Common.{arith, sym, ◌∙◌, subst, true≢false}
use Rattle.rules.specs.Tests.{Tests}
use Rattle.terms.specs.declared.Part.{Part}
use Rattle.recording.specs.declared.Refusal.TheVariants.{CutShort}
use Rattle.recording.specs.Record.{front, Read}
use Rattle.recording.specs.Append.{Told}
use Rattle.recording.specs.Start as Start
use Rattle.recording.specs.Start.{CutOff, cut_off}
use Rattle.answers.specs.Answer.{Answer, number}
use Rattle.account.specs.Laws.{of_none}
use Rattle.account_fair.specs.Fair.{stands}

-- A test of what does not hold.
pub not_so : {P : Type 0} → (P → ⊥) → Tests false P
not_so never = record { so = λ e. absurd (true≢false (sym e)); back = λ p. absurd (never p) }

-- No bytes are a cut_off start.
pub cut_none : (p : Part) (l : List ℕ) → length l ≡ 0 → Tests true (CutOff p l)
cut_none p l e = record { so = λ _. subst (CutOff p) (of_none l e) Start.none; back = λ _. refl }

cut_read : (p : Part) {l : List ℕ} → 0 < length l → CutOff p l → front p l ≡ Err CutShort
cut_read p some Start.none = absurd (omega (arith, some))
cut_read p some (Start.some b l q) = q

-- Other bytes are one if they are read as cut short, and none if they tell what they are.
pub is_cut : (p : Part) (l : List ℕ) → 0 < length l → front p l ≡ Err CutShort → Tests true (CutOff p l)
is_cut p l some q = record { so = λ _. cut_off p l some q; back = λ _. refl }

pub is_told : (p : Part) (l : List ℕ) (r : Read) → 0 < length l → front p l ≡ r → Told r → Tests false (CutOff p l)
is_told p l r some q told = not_so (λ h. subst Told (sym q ∙ cut_read p some h) told)

-- Which refusals stand, by the first two tests, and then by the third.
module _ (n : ℕ) (a : Answer) (b : Bool) (told : n ≡ number a) (tested : b ≡ (eqb n 5 || eqb n 6)) where
  pub stands_early : b ≡ true → Tests b (stands (number a) ≡ true)
  stands_early taken = record { so = λ _. rw (← told) (first (eqb n 5) (eqb n 6) (sym tested ∙ taken)); back = λ _. taken }
    where
      first : (x y : Bool) → (x || y) ≡ true → (x || y || eqb n 8) ≡ true
      first true y e = refl
      first false true e = refl
      first false false e = absurd (true≢false (sym e))

  pub stands_late : b ≡ false → Tests (eqb n 8) (stands (number a) ≡ true)
  stands_late left = let e = last (eqb n 5) (eqb n 6) (sym tested ∙ left) in
      record { so = λ h. rw (← told) (e ∙ h); back = λ h. sym e ∙ (rw (← told) at h) }
    where
      last : (x y : Bool) → (x || y) ≡ false → (x || y || eqb n 8) ≡ eqb n 8
      last true y e = absurd (true≢false e)
      last false true e = absurd (true≢false e)
      last false false e = refl
