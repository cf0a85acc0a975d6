-- The whole answer of a replay: number, place and knowledge, on good and on refused calls.
use Rattle.std.specs.Prelude.{ℕ, ◌+◌, ◌≡◌, List, length, drop, Ok, Err}
use Rattle.std.proofs.Common.{subst}
use Rattle.knowing.specs.Standing.{Sound}
use Rattle.terms.specs.declared.Event.{Event}
use Rattle.terms.specs.declared.NoPart.{NoPart}
use Rattle.terms.specs.declared.Part.{Part}
use Rattle.terms.specs.Part.{PartRead}
use Rattle.recording.specs.Record as Record
use Rattle.recording.specs.Walk.{walked, events, end_of, Ending}
use Rattle.walks.specs.Turn.{InTurn}
use Rattle.parts.specs.Facts.{same?, range, move}
use Rattle.panel.specs.declared.Panel.{Panel}
use Rattle.panel.specs.View.{known_of, OtherKept}
use Rattle.answers.specs.Answer.{number, place}
use Rattle.replay_tests.specs.Tests.{Tested}
use Rattle.replay.specs.declared.replays.Replayed.{Replayed}

-- Refused with the number n at a place: the knowledge comes back as handed in.
pub record RefusedBy (n at : ℕ) (k : Panel) (r : Replayed) : Type 0 where
  pub numbered : number r.answer ≡ n
  pub placed : place r.answer ≡ at
  pub kept : r.panel ≡ k

-- Done: number 0 and the recording's length; the events in turn, and the half that speaks of the other parts kept.
pub record PartDone (p : Part) (es : List Event) (k : Panel) (l : List ℕ) (r : Replayed) : Type 0 where
  pub numbered : number r.answer ≡ 0
  pub placed : place r.answer ≡ length l
  pub known : InTurn (known_of p) (same? p) (range p) (move p) es k r.panel
  pub kept : OtherKept p k r.panel

-- By how the records end: P where they are done, else 5, 6, 7 or 8 at the place that the refusal points at
-- (`recording/Walk.walk`, by `recording/Record.place_within`), counted from the front of the whole recording.
abbrev pub ByEnding : Ending → ℕ → Panel → Replayed → Type 0 → Type 0
ByEnding (Ok u) start k r P = P
ByEnding (Err s) start k r P = RefusedBy (Record.number s.refusal) (start + s.at.0) k r

-- The records from the start place on.
abbrev pub ReplaysFrom : Part → Panel → List ℕ → ℕ → Replayed → Type 0
ReplaysFrom p k l start r =
    let w = walked p (drop start l) in
    ByEnding (end_of w) start k r (PartDone p (events w) k l r)

-- Tests 2, 4 and 3 come before the records, each at place 0.
abbrev pub ReplaysPart : Part → Panel → List ℕ → ℕ → Replayed → Type 0
ReplaysPart p k l start r =
    Tested (Sound (range p) (known_of p k)) (length l) start (λ n. RefusedBy n 0 k r) (ReplaysFrom p k l start r)

-- Test 1 comes first.
abbrev pub Replays : PartRead → Panel → List ℕ → ℕ → Replayed → Type 0
Replays (Ok p) k l start r = ReplaysPart p k l start r
Replays (Err e) k l start r = RefusedBy 1 0 k r

pub replays_refused : (q : PartRead) (e : NoPart) (k : Panel) (l : List ℕ) (start : ℕ) (r : Replayed) → Err e ≡ q → RefusedBy 1 0 k r → Replays q k l start r
replays_refused q e k l start r p h = subst (λ (x : PartRead). Replays x k l start r) p h

-- By how the records end, as code finds it.
pub ends_by : (a b : Ending) (start : ℕ) (k : Panel) (r : Replayed) (P : Type 0) → a ≡ b → ByEnding a start k r P → ByEnding b start k r P
ends_by a b start k r P e h = subst (λ (x : Ending). ByEnding x start k r P) e h
