-- What stays the same while code walks: what is left of the walk makes of the knowledge so far what the whole walk
-- makes of the first one.
use Rattle.std.specs.Prelude.{ℕ, ◌+◌, ◌<◌, ◌≡◌, refl, List, map, length, drop, Ok, Err}
use Rattle.std.proofs.Common.{sym, ◌∙◌, subst}
use Rattle.rules.specs.Rule.{Rule}
use Rattle.knowing.specs.Standing.{Standing}
use Rattle.knowing.specs.Know.{know}
use Rattle.knowing.specs.Turn.{in_turn, in_turn_same}
use Rattle.terms.specs.declared.Event.{Event}
use Rattle.terms.specs.declared.Part.{Part}
use Rattle.recording.specs.Record.{front, record_of}
use Rattle.recording.specs.Steps.{rest, rest_next}
use Rattle.recording.specs.Walk.{Walk, done, stops, next, events, end_of, stop_of}
use Rattle.recording.specs.declared.Refusal.{Refusal}

module _ {F : Type 0} (same? : Discrete F) (range : F → ℕ) (move : Event → Rule F F) where
  pub record Kept (whole : Walk) (first : F → Standing) (rest : Walk) (k : F → Standing) : Type 0 where
    pub ends : end_of whole ≡ end_of rest
    pub makes : (f : F) → in_turn same? range (map move (events whole)) first f ≡ in_turn same? range (map move (events rest)) k f

  pub kept_start : (w : Walk) (k : F → Standing) → Kept w k w k
  kept_start w k = record { ends = refl; makes = λ f. refl }

  pub kept_as : (w : Walk) (first : F → Standing) (u v : Walk) (k : F → Standing) → u ≡ v → Kept w first u k → Kept w first v k
  kept_as w first u v k e h = subst (λ (x : Walk). Kept w first x k) e h

  -- What is known of each fact counts, and not how it is stored.
  pub kept_same : (w : Walk) (first : F → Standing) (u : Walk) (k l : F → Standing) → ((f : F) → k f ≡ l f) → Kept w first u k → Kept w first u l
  kept_same w first u k l e h = record { ends = h.ends; makes = λ f. h.makes f ∙ in_turn_same same? range (map move (events u)) k l e f }

  -- One record more: the event that stands at a place, and what it makes of the knowledge.
  pub kept_read : (p : Part) (l : List ℕ) (i : ℕ) (w : Walk) (first k r : F → Standing) (e : Event) (n : ℕ) → i < length l → front p (drop i l) ≡ Ok (record_of e n)
      → ((f : F) → r f ≡ know same? range (move e) k f) → Kept w first (rest p l i) k → Kept w first (rest p l (i + n)) r
  kept_read p l i w first k r e n inside read met kept =
      let h = kept_as w first (rest p l i) (next i e (rest p l (i + n))) k (rest_next p l i e n inside read) kept in
      record {
        ends = h.ends;
        makes = λ f. h.makes f ∙ in_turn_same same? range (map move (events (rest p l (i + n)))) (know same? range (move e) k) r (λ g. sym (met g)) f;
      }

  pub kept_done : (w : Walk) (first k : F → Standing) → Kept w first done k → (Ok tt ≡ end_of w) × ((f : F) → k f ≡ in_turn same? range (map move (events w)) first f)
  kept_done w first k h = (sym h.ends, λ f. sym (h.makes f))

  pub kept_stops : (w : Walk) (first k : F → Standing) (r : Refusal) (at : ℕ) → Kept w first (stops r at) k
      → (Err (stop_of r (record { 0 = at })) ≡ end_of w) × ((f : F) → k f ≡ in_turn same? range (map move (events w)) first f)
  kept_stops w first k r at h = (sym h.ends, λ f. sym (h.makes f))
