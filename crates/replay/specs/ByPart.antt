-- What an accepted recording is. The argument: number 0 is given exactly where the tests let the recording pass and its
-- records end at its end; then the answer is the done one.
use Rattle.std.specs.Prelude.{ℕ, ◌+◌, ◌≤◌, ◌≡◌, refl, List, length, drop, Ok, Err}
use Rattle.std.proofs.Common.{arith, sym, ◌∙◌, subst}
use Rattle.knowing.specs.Standing.{Sound}
use Rattle.terms.specs.declared.Place.{Place}
use Rattle.terms.specs.declared.Part.{Part}
use Rattle.terms.specs.Part.{PartRead}
use Rattle.recording.specs.Record as Record
use Rattle.recording.specs.Walk.{walked, events, end_of, Ending, stop_of}
use Rattle.recording.specs.declared.Refusal.{Refusal}
use Rattle.recording.specs.declared.Refusal.TheVariants.{Unlisted, Foreign, CutShort, Forbidden}
use Rattle.parts.specs.Facts.{range}
use Rattle.panel.specs.declared.Panel.{Panel}
use Rattle.panel.specs.View.{known_of}
use Rattle.replay.specs.declared.replays.Replayed.{Replayed}
use Rattle.answers.specs.Answer.{number}
use Rattle.replay_tests.specs.Laws.{tests_passed, past_tests}
use Rattle.replay.specs.Replay.{RefusedBy, PartDone, ByEnding, ReplaysPart, Replays}

-- What the replay promises, where the part byte names the part p.
pub replays_by : (k : Panel) (l : List ℕ) (start : ℕ) (r : Replayed) (q : PartRead) (p : Part) → q ≡ Ok p → Replays q k l start r → ReplaysPart p k l start r
replays_by k l start r q p e h = subst (λ (x : PartRead). Replays x k l start r) e h

-- No refusal has the number 0.
refusal_numbered : (x : Refusal) → Record.number x ≡ 0 → ⊥
refusal_numbered Unlisted e = omega arith
refusal_numbered Foreign e = omega arith
refusal_numbered CutShort e = omega arith
refusal_numbered Forbidden e = omega arith

records_end : (e : Ending) (start : ℕ) (k : Panel) (r : Replayed) (P : Type 0) → number r.answer ≡ 0 → ByEnding e start k r P → (e ≡ Ok tt) × P
records_end (Ok u) start k r P z p = (refl, p)
records_end (Err s) start k r P z p = absurd (refusal_numbered s.refusal (sym p.numbered ∙ z))

-- What a replay accepts: the knowledge is in range, the recording not too long, the start place within it, and its
-- records from there on end at its end.
pub record Acceptable (p : Part) (k : Panel) (l : List ℕ) (start : ℕ) : Type 0 where
  pub in_range : Sound (range p) (known_of p k)
  pub short : length l ≤ 65535
  pub within : start ≤ length l
  pub ends : end_of (walked p (drop start l)) ≡ Ok tt

module _ (p : Part) (k : Panel) (l : List ℕ) (start : ℕ) (r : Replayed) (met : ReplaysPart p k l start r) where
  -- Number 0: the recording was acceptable, and the answer is the done one.
  pub accepted : number r.answer ≡ 0 → Acceptable p k l start × PartDone p (events (walked p (drop start l))) k l r
  accepted z =
      let (sound, short, within, rest) = tests_passed (λ n. RefusedBy n 0 k r) (λ m two four h. let e = sym h.numbered ∙ z in omega (arith, e, two)) met in
      let (ends, done) = records_end (end_of (walked p (drop start l))) start k r _ z rest in
      (record { in_range = sound; short = short; within = within; ends = ends }, done)

  -- Behind the tests that it passes, the answer goes by how the records end.
  pub passed : Sound (range p) (known_of p k) → length l ≤ 65535 → start ≤ length l
      → ByEnding (end_of (walked p (drop start l))) start k r (PartDone p (events (walked p (drop start l))) k l r)
  passed a b c = past_tests (λ n. RefusedBy n 0 k r) a b c met

  -- What is acceptable is accepted.
  pub accepts : Acceptable p k l start → PartDone p (events (walked p (drop start l))) k l r
  accepts a = subst (λ (e : Ending). ByEnding e start k r (PartDone p (events (walked p (drop start l))) k l r)) a.ends (passed a.in_range a.short a.within)

  -- Refused by 5, 6, 7 or 8: the records stop at one that is none, and the answer has the place that its refusal points at.
  pub record_refused : 5 ≤ number r.answer
      → (x : Refusal) × (at : Place) × (end_of (walked p (drop start l)) ≡ Err (stop_of x at))
      × RefusedBy (Record.number x) (start + at.0) k r
  record_refused five =
      let (_, _, _, rest) = tests_passed (λ n. RefusedBy n 0 k r) (λ m two four h. let e = h.numbered in omega (arith, e, four, five)) met in
      by (end_of (walked p (drop start l))) refl rest
    where
      by : (e : Ending) → end_of (walked p (drop start l)) ≡ e → ByEnding e start k r (PartDone p (events (walked p (drop start l))) k l r)
          → (x : Refusal) × (at : Place) × (end_of (walked p (drop start l)) ≡ Err (stop_of x at)) × RefusedBy (Record.number x) (start + at.0) k r
      by (Ok u) q h = absurd (let n = h.numbered in omega (arith, n, five))
      by (Err s) q h = (s.refusal, s.at, q, h)
