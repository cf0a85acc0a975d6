-- Two answers that meet the promise are equal, the float of a reading to its last bit. The argument: the number, the
-- place and what is said fix the answer, and a number of half degrees is one float.
use Rattle.std.specs.Prelude.{ℕ, ◌-◌, ◌≡◌, refl, T, Ok, Err}
use Rattle.std.proofs.Common.{arith, sym, ap, ◌∙◌, subst}
use Rattle.std.proofs.Math.Path.{subst⁻¹}
use Rattle.std.specs.Float.{binary32}
use Rattle.std.specs.Float.Ieee.{fits}
use Rattle.rules.specs.Choice.{of3}
use Rattle.rules.specs.Where.{where_both}
use Rattle.terms.specs.declared.Part.TheVariants.{Pt6302, Pt6312, Pt6315}
use Rattle.terms.specs.Part.{PartRead}
use Rattle.character_knowledge.specs.View.{kview}
use Rattle.panel.specs.declared.Panel.{Panel}
use Rattle.half_degrees.specs.Laws.{one_float}
use Rattle.field.specs.Said.{Said, reading, no_reading, dark, unknown, not_a_reading}
use Rattle.thermometer.specs.declared.temperatures.Answer.{Answer}
use Rattle.thermometer.specs.declared.temperatures.Answer.TheVariants.{Reading, NoReading, Dark, Unknown, NotAReading, NoPart, OutOfRange, NoField}
use Rattle.thermometer.specs.Answer.{number, place, Says, Reads, Answers, TellsSound, Tells}

-- The float fits its format. This holds of every answer that code hands over.
abbrev pub Fitting : Answer → Type 0
Fitting (Reading f) = T (fits binary32 f)
Fitting NoReading = Unit
Fitting Dark = Unit
Fitting Unknown = Unit
Fitting NotAReading = Unit
Fitting (NoPart at) = Unit
Fitting (OutOfRange at) = Unit
Fitting (NoField at) = Unit

-- An answer of number 0, by what it says.
abbrev pub Form : Said → Answer → Type 0
Form (reading h) r = Reads r h
Form no_reading r = r ≡ NoReading
Form dark r = r ≡ Dark
Form unknown r = r ≡ Unknown
Form not_a_reading r = r ≡ NotAReading

pub by_said : (s : Said) (r : Answer) → number r ≡ 0 → Says r s → Form s r
by_said s (Reading f) n (h, e, v) = subst⁻¹ (λ (x : Said). Form x (Reading f)) e (f, refl, v)
by_said s NoReading n e = subst⁻¹ (λ (x : Said). Form x NoReading) e refl
by_said s Dark n e = subst⁻¹ (λ (x : Said). Form x Dark) e refl
by_said s Unknown n e = subst⁻¹ (λ (x : Said). Form x Unknown) e refl
by_said s NotAReading n e = subst⁻¹ (λ (x : Said). Form x NotAReading) e refl
by_said s (NoPart at) n e = absurd (omega arith)
by_said s (OutOfRange at) n e = absurd (omega arith)
by_said s (NoField at) n e = absurd (omega arith)

one_form : (s : Said) (r q : Answer) → Fitting r → Fitting q → Form s r → Form s q → r ≡ q
one_form (reading h) r q sr sq (f, e, v) (g, d, w) =
    e ∙ ap Reading (one_float f g h (subst Fitting e sr) (subst Fitting d sq) v w) ∙ sym d
one_form no_reading r q sr sq e d = e ∙ sym d
one_form dark r q sr sq e d = e ∙ sym d
one_form unknown r q sr sq e d = e ∙ sym d
one_form not_a_reading r q sr sq e d = e ∙ sym d

-- The refusal of a number, at place 0.
refusal : ℕ → Answer
refusal n = of3 (NoPart (record { 0 = 0 })) (OutOfRange (record { 0 = 0 })) (NoField (record { 0 = 0 })) (n - 1)

by_number : (r : Answer) → (number r ≡ 0 → ⊥) → place r ≡ 0 → r ≡ refusal (number r)
unfolding refusal
by_number (Reading f) z p = absurd (z refl)
by_number NoReading z p = absurd (z refl)
by_number Dark z p = absurd (z refl)
by_number Unknown z p = absurd (z refl)
by_number NotAReading z p = absurd (z refl)
by_number (NoPart at) z p = λ i. NoPart (record { 0 = p i })
by_number (OutOfRange at) z p = λ i. OutOfRange (record { 0 = p i })
by_number (NoField at) z p = λ i. NoField (record { 0 = p i })

module _ (k : Panel) (start : ℕ) (r q : Answer) (sr : Fitting r) (sq : Fitting q) where
  pub same_said : (s : Said) → Answers 0 s r → Answers 0 s q → r ≡ q
  same_said s h g = one_form s r q sr sq (by_said s r h.numbered h.says) (by_said s q g.numbered g.says)

  same_refused : (n : ℕ) → (n ≡ 0 → ⊥) → Answers n unknown r → Answers n unknown q → r ≡ q
  same_refused n z h g =
      by_number r (λ e. z (sym h.numbered ∙ e)) h.placed ∙ ap refusal (h.numbered ∙ sym g.numbered)
      ∙ sym (by_number q (λ e. z (sym g.numbered ∙ e)) g.placed)

  by_field : TellsSound (kview k.character) start r → TellsSound (kview k.character) start q → r ≡ q
  by_field = where_both (where_both (same_said _) (same_refused 11 (λ e. omega arith))) (same_refused 2 (λ e. omega arith))

  -- Two answers are one.
  pub one_temperature : (p : PartRead) → Tells p k start r → Tells p k start q → r ≡ q
  one_temperature (Ok Pt6302) h g = by_field h g
  one_temperature (Ok Pt6312) h g = same_refused 1 (λ e. omega arith) h g
  one_temperature (Ok Pt6315) h g = same_refused 1 (λ e. omega arith) h g
  one_temperature (Err e) h g = same_refused 1 (λ e. omega arith) h g
