-- Bytes that are the recording of events which the part reads back are accepted from any knowledge in range. The argument: a replay refuses such a recording
-- for nothing but its length, its start or what is known. The strobes of a painting and of an update are such events, since falls, bytes and rises are records
-- of every part, with any body (`repainted/ByPart.painting_accepted`, `updated/ByPart.reads`).
use Rattle.std.specs.Prelude.{ℕ, ◌≤◌, ◌≡◌, List, length, Ok}
use Rattle.std.proofs.Common.{arith, ap, subst}
use Rattle.std.proofs.Math.Path.{subst⁻¹}
use Rattle.knowing.specs.Standing.{Sound}
use Rattle.terms.specs.declared.Event.{Event}
use Rattle.terms.specs.Event.{recording}
use Rattle.terms.specs.Part.{part_of}
use Rattle.terms.specs.declared.Part.{Part}
use Rattle.recording.specs.Walk.{walked, events, end_of}
use Rattle.parts.specs.Facts.{range}
use Rattle.panel.specs.declared.Panel.{Panel}
use Rattle.panel.specs.View.{known_of}
use Rattle.replay.specs.declared.replays.Replayed.{Replayed}
use Rattle.replay.specs.Replay.{PartDone, Replays}
use Rattle.replay.specs.ByPart.{replays_by, accepts}
use Rattle.repainted.specs.Accepted.{Accepted}

-- The bytes l are the recording of the events es, which the part reads back, and no longer than a recording may be.
pub record Recorded (p : Part) (es : List Event) (l : List ℕ) : Type 0 where
  pub is : l ≡ recording es
  pub accepted : Accepted p es
  pub short : length (recording es) ≤ 65535

module _ (p : Part) (es : List Event) (l : List ℕ) (h : Recorded p es l) where
  pub recorded_reads : (end_of (walked p l) ≡ Ok tt) × (events (walked p l) ≡ es)
  recorded_reads = subst⁻¹ (λ (x : List ℕ). (end_of (walked p x) ≡ Ok tt) × (events (walked p x) ≡ es)) h.is h.accepted

  -- From any good knowledge of the part.
  pub recorded_done : (b : ℕ) → part_of b ≡ Ok p → (k : Panel) → Sound (range p) (known_of p k) → (q : Replayed) → Replays (part_of b) k l 0 q → PartDone p es k l q
  recorded_done b named k sound q met =
      let long = ap length h.is in
      let few = h.short in
      subst (λ (x : List Event). PartDone p x k l q) recorded_reads.1
      (accepts p k l 0 q (replays_by k l 0 q (part_of b) p named met) (record { in_range = sound; short = omega arith; within = omega arith; ends = recorded_reads.0 }))
