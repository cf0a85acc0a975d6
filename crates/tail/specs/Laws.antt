-- What stays the same while code looks for gaps, and that the tail lies within the recording.
use Rattle.std.specs.Prelude.{ℕ, ◌+◌, ◌≤◌, ◌≡◌, refl, List, length, ltb, Ok, Err}
use Rattle.std.proofs.Common.{arith, sym, ap, ◌∙◌}
use Rattle.rules.specs.Choice.{whether_all}
use Rattle.terms.specs.declared.Event.{Event}
use Rattle.terms.specs.declared.Part.{Part}
use Rattle.terms.specs.Part.{PartRead}
use Rattle.recording.specs.Walk.{Walk, done, stops, next, walked, end_of, on_gap, behind_gap, Ending}
use Rattle.recording.specs.Steps.{gap_within}
use Rattle.recording.specs.declared.Refusal.{Refusal}
use Rattle.answers.specs.declared.Refused.TheVariants as Why
use Rattle.answers.specs.Answer.{refused_as}
use Rattle.tail.specs.declared.gaps.Found.{Found}
use Rattle.tail.specs.Tail.{none, found_by, found_in, found}

-- What is left of the walk, from the last gap so far, ends as the whole walk does.
pub record Kept (whole rest : Walk) (start : ℕ) : Type 0 where
  pub ends : end_of whole ≡ end_of rest
  pub gap : behind_gap 0 whole ≡ behind_gap start rest

pub kept_start : (w : Walk) → Kept w w 0
kept_start w = record { ends = refl; gap = refl }

pub kept_next : (w : Walk) (at : ℕ) (e : Event) (u v : Walk) (start new : ℕ) → u ≡ next at e v → new ≡ on_gap e (at + 1) start → Kept w u start → Kept w v new
kept_next w at e u v start new q n h = record {
  ends = h.ends ∙ ap end_of q;
  gap = h.gap ∙ ap (behind_gap start) q ∙ ap (λ (s : ℕ). behind_gap s v) (sym n);
}

pub found_done : (p : Part) (l : List ℕ) (u : Walk) (start i : ℕ) → u ≡ done → i ≡ length l → Kept (walked p l) u start
    → record { answer = Ok (record { 0 = i }); start = record { 0 = start }; end = record { 0 = i } } ≡ found_in p l
found_done p l u start i q n h =
    let g : start ≡ behind_gap 0 (walked p l) = sym (h.gap ∙ ap (behind_gap start) q) in
    (λ j. record { answer = Ok (record { 0 = n j }); start = record { 0 = g j }; end = record { 0 = n j } }) ∙ sym (ap (found_by p l) (h.ends ∙ ap end_of q))

pub found_stops : (p : Part) (l : List ℕ) (u : Walk) (start i : ℕ) (r : Refusal) → u ≡ stops r i → Kept (walked p l) u start → none (refused_as r (record { 0 = i })) ≡ found_in p l
found_stops p l u start i r q h = sym (ap (found_by p l) (h.ends ∙ ap end_of q))

-- The tail is a part of the recording.
Inside : List ℕ → Found → Type 0
Inside l f = (f.start.0 ≤ f.end.0) × (f.end.0 ≤ length l)

pub found_inside : (q : PartRead) (l : List ℕ) → ((found q l).start.0 ≤ (found q l).end.0) × ((found q l).end.0 ≤ length l)
unfolding Inside
found_inside (Ok p) l = whether_all (Inside l) (ltb 65535 (length l)) (none (Err (Why.TooLong (record { 0 = 0 })))) (found_in p l) (λ _. (omega arith, omega arith)) (λ _. by (end_of (walked p l)))
  where
    by : (e : Ending) → Inside l (found_by p l e)
    by (Ok u) = (let g = gap_within (length l) p 0 0 l (omega arith) in omega (arith, g), omega arith)
    by (Err s) = (omega arith, omega arith)
found_inside (Err e) l = (omega arith, omega arith)
