-- Two answers of a replay that meet its promise are equal. The argument: both are refused alike or both are done, the number and place fix the answer,
-- and what is known of every fact fixes the knowledge.
use Rattle.std.specs.Prelude.{ℕ, ◌+◌, ◌≡◌, List, drop, Ok, Err}
use Rattle.std.proofs.Common.{sym, ◌∙◌}
use Rattle.terms.specs.declared.Part.{Part}
use Rattle.terms.specs.Part.{PartRead}
use Rattle.terms.specs.declared.Event.{Event}
use Rattle.recording.specs.Record as Record
use Rattle.recording.specs.Walk.{walked, events, end_of, Ending}
use Rattle.panel.specs.declared.Panel.{Panel}
use Rattle.panel.specs.Unique.{Shaped, same_panel}
use Rattle.replay.specs.declared.replays.Replayed.{Replayed}
use Rattle.answers.specs.Answer.{number, place}
use Rattle.answers.specs.Unique.{same_answer}
use Rattle.replay_tests.specs.Laws.{tested_both}
use Rattle.replay.specs.Replay.{RefusedBy, PartDone, ByEnding, Replays}

module _ (k : Panel) (l : List ℕ) (r q : Replayed) where
  -- What holds of two that are refused alike, and of two that are done, holds of two answers of one replay.
  module _ {X : Type 0} (refused : (n at : ℕ) → RefusedBy n at k r → RefusedBy n at k q → X)
      (done : (p : Part) (es : List Event) → PartDone p es k l r → PartDone p es k l q → X) where
    ended : (e : Ending) (start : ℕ) (p : Part) (es : List Event) → ByEnding e start k r (PartDone p es k l r) → ByEnding e start k q (PartDone p es k l q) → X
    ended (Ok u) start p es h g = done p es h g
    ended (Err s) start p es h g = refused (Record.number s.refusal) (start + s.at.0) h g

    same_way : (part : PartRead) (start : ℕ) → Replays part k l start r → Replays part k l start q → X
    same_way (Ok p) start h g =
        tested_both (λ n. RefusedBy n 0 k r) (λ n. RefusedBy n 0 k q) (λ n. refused n 0)
        (ended (end_of (walked p (drop start l))) start p (events (walked p (drop start l)))) h g
    same_way (Err e) start h g = refused 1 0 h g

  -- The number and the place go by the part, the knowledge and the recording alone.
  one_number : (part : PartRead) (start : ℕ) → Replays part k l start r → Replays part k l start q
      → (number r.answer ≡ number q.answer) × (place r.answer ≡ place q.answer)
  one_number =
      same_way (λ n at h g. (h.numbered ∙ sym g.numbered, h.placed ∙ sym g.placed))
      (λ p es h g. (h.numbered ∙ sym g.numbered, h.placed ∙ sym g.placed))

  one_known : Shaped r.panel → Shaped q.panel → (part : PartRead) (start : ℕ) → Replays part k l start r → Replays part k l start q → r.panel ≡ q.panel
  one_known sr sq =
      same_way (λ n at h g. h.kept ∙ sym g.kept)
      (λ p es h g. same_panel p k r.panel q.panel sr sq (λ f. h.known f ∙ sym (g.known f)) h.kept g.kept)

  -- Two answers of one replay are one.
  pub one_replayed : Shaped r.panel → Shaped q.panel → (part : PartRead) (start : ℕ) → Replays part k l start r → Replays part k l start q → r ≡ q
  one_replayed sr sq part start h g =
      let (numbers, places) = one_number part start h g in
      let answers = same_answer r.answer q.answer numbers places in
      let panels = one_known sr sq part start h g in
      λ i. record { answer = answers i; panel = panels i }
