-- Two answers that meet a promise are equal. The argument: the number and place fix the answer, and what is known of
-- every fact fixes the knowledge.
use Rattle.std.specs.Prelude.{ℕ, zero, suc, ◌≡◌, refl, eqb, Ok, Err}
use Rattle.std.proofs.Common.{sym, ◌∙◌}
use Rattle.rules.specs.Choice.{whether}
use Rattle.terms.specs.declared.Event.{Event}
use Rattle.terms.specs.declared.Place.{Place}
use Rattle.terms.specs.declared.Part.{Part}
use Rattle.terms.specs.Part.{PartRead}
use Rattle.panel.specs.declared.Panel.{Panel}
use Rattle.hearing_answer.specs.declared.Refused.TheVariants as R
use Rattle.hearing.specs.declared.events.Heard.{Heard}
use Rattle.panel.specs.Unique.{Shaped, same_panel}
use Rattle.rules.specs.Where.{where_both}
use Rattle.hearing_answer.specs.Answer.{Answer, number, place, event_number}
use Rattle.hearing.specs.Event.{RefusedBy, EventDone, HeardBy, Hears}

-- The answer with a number and a place, and that every answer is the one with its own.
abbrev back : ℕ → Place → Answer
back n at =
    whether (eqb n 0) (Ok tt)
    (whether (eqb n 1) (Err (R.NoPart at))
    (whether (eqb n 2) (Err (R.OutOfRange at))
    (whether (eqb n 6) (Err (R.Foreign at)) (Err (R.Forbidden at)))))

read_back : (a : Answer) → back (number a) (record { 0 = place a }) ≡ a
read_back (Ok done) = refl
read_back (Err (R.NoPart at)) = refl
read_back (Err (R.OutOfRange at)) = refl
read_back (Err (R.Foreign at)) = refl
read_back (Err (R.Forbidden at)) = refl

same_heard : (r q : Heard) → number r.answer ≡ number q.answer → place r.answer ≡ place q.answer
    → r.panel ≡ q.panel → r ≡ q
same_heard r q n p e =
    let a = sym (read_back r.answer) ∙ (λ i. back (n i) (record { 0 = p i })) ∙ read_back q.answer in
    λ i. record { answer = a i; panel = e i }

one_refusal : (n : ℕ) (k : Panel) (r q : Heard) → RefusedBy n k r → RefusedBy n k q → r ≡ q
one_refusal n k r q h g =
    same_heard r q (h.numbered ∙ sym g.numbered) (h.placed ∙ sym g.placed) (h.kept ∙ sym g.kept)

module _ (e : Event) (k : Panel) (r q : Heard) (sr : Shaped r.panel) (sq : Shaped q.panel) where
  one_done : (p : Part) → EventDone p e k r → EventDone p e k q → r ≡ q
  one_done p h g =
      same_heard r q (h.numbered ∙ sym g.numbered) (h.placed ∙ sym g.placed)
      (same_panel p k r.panel q.panel sr sq (λ f. h.after.known f ∙ sym (g.after.known f)) h.after.kept
      g.after.kept)

  one_by : (n : ℕ) (p : Part) → HeardBy n p e k r → HeardBy n p e k q → r ≡ q
  one_by zero p h g = one_done p h g
  one_by (suc n) p h g = one_refusal (suc n) k r q h g

  -- Two answers to one event are one.
  pub one_heard : (p : PartRead) → Hears p e k r → Hears p e k q → r ≡ q
  one_heard (Ok p) h g = where_both (one_by (event_number p e) p) (one_by 2 p) h g
  one_heard (Err e) h g = one_refusal 1 k r q h g
