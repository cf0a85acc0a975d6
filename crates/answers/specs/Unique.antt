-- Number and place fix the answer.
use Rattle.std.specs.Prelude.{ℕ, zero, suc, ◌≡◌, refl, Ok, Err}
use Rattle.std.proofs.Common.{sym, ◌∙◌}
use Rattle.terms.specs.declared.Place.{Place}
use Rattle.answers.specs.declared.Refused.TheVariants.{NoPart, OutOfRange, BeyondEnd, TooLong, Unlisted, Foreign, CutShort, Forbidden}
use Rattle.answers.specs.Answer.{Answer, number, place}

-- The answer with a number and a place, and that every answer is the one with its own.
back : ℕ → Place → Answer
back zero at = Ok at
back (suc zero) at = Err (NoPart at)
back (suc (suc zero)) at = Err (OutOfRange at)
back (suc (suc (suc zero))) at = Err (BeyondEnd at)
back (suc (suc (suc (suc zero)))) at = Err (TooLong at)
back (suc (suc (suc (suc (suc zero))))) at = Err (Unlisted at)
back (suc (suc (suc (suc (suc (suc zero)))))) at = Err (Foreign at)
back (suc (suc (suc (suc (suc (suc (suc zero))))))) at = Err (CutShort at)
back (suc (suc (suc (suc (suc (suc (suc (suc n)))))))) at = Err (Forbidden at)

read_back : (a : Answer) → back (number a) (record { 0 = place a }) ≡ a
unfolding back
read_back (Ok at) = refl
read_back (Err (NoPart at)) = refl
read_back (Err (OutOfRange at)) = refl
read_back (Err (BeyondEnd at)) = refl
read_back (Err (TooLong at)) = refl
read_back (Err (Unlisted at)) = refl
read_back (Err (Foreign at)) = refl
read_back (Err (CutShort at)) = refl
read_back (Err (Forbidden at)) = refl

pub same_answer : (a b : Answer) → number a ≡ number b → place a ≡ place b → a ≡ b
same_answer a b n p = sym (read_back a) ∙ (λ i. back (n i) (record { 0 = p i })) ∙ read_back b
