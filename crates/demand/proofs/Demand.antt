-- Demand 3 over a recording, as a caller has it: a part byte that names a part, and what `replay` promises of its
-- answer. The argument: where the replay answers number 0 its promise is the events in turn (`replay/ByPart`), and
-- `Turned` says what holds of those.
use Rattle.std.specs.Prelude.{ℕ, ◌<◌, ◌≡◌, false, List, length, Ok}
use Rattle.rules.specs.Range.{Good}
use Rattle.rules.specs.Turn.{Ends}
use Rattle.rules.specs.Digit.{digit}
use Rattle.knowing.specs.Standing.{Standing, known, Fits, Sound}
use Rattle.knowing.specs.Bytes.{Spells}
use Rattle.terms.specs.Part.{part_of}
use Rattle.terms.specs.declared.Part.{Part}
use Rattle.parts.specs.Facts.{Fact, range}
use Rattle.panel.specs.declared.Panel.{Panel}
use Rattle.panel.specs.View.{known_of}
use Rattle.replay.specs.declared.replays.Replayed.{Replayed}
use Rattle.answers.specs.Answer.{number, place}
use Rattle.replay.specs.Replay.{PartDone, Replays}
use Rattle.replay.specs.ByPart.{Acceptable, replays_by, accepted, accepts}
use Rattle.whole.specs.Turns.{Chain, KnowsAtLeast}
use Rattle.whole.specs.Sentence.{position, StartKnows, has_gap, DefinedOn, NoUndefined, starts_first, IsMemory, AllEnd}
use Rattle.demand.specs.Recording.{AllBytes, events_from, moves_from}
use Rattle.demand.proofs.Bytes.{carry}
use Rattle.demand.specs.Turned.{turned_chain, turned_one_end, turned_fits, turned_in_range, turned_more, turned_cells_exact}
use Rattle.demand.specs.Demand.{AllEndWithByte}

module _ (b : ℕ) (p : Part) (named : part_of b ≡ Ok p) (k : Panel) (l : List ℕ) (start : ℕ) (r : Replayed)
    (met : Replays (part_of b) k l start r) (zero : number r.answer ≡ 0) (bytes : AllBytes l) where
  acceptable : Acceptable p k l start
  acceptable = (accepted p k l start r (replays_by k l start r (part_of b) p named met) zero).0

  done : PartDone p (events_from p start l) k l r
  done = (accepted p k l start r (replays_by k l start r (part_of b) p named met) zero).1

  -- "A recording is its events in turn": the answer is the end of a chain of knowledges, one behind each event, each
  -- exact from the one before.
  pub recording_in_turn : Chain (range p) (moves_from p start l) (known_of p k) (known_of p r.panel)
  recording_in_turn = turned_chain p (events_from p start l) k r.panel done.known (carry p start l bytes) acceptable.in_range

  -- And no such chain ends in another knowledge.
  pub recording_one_end : (q : Fact p → Standing) → Chain (range p) (moves_from p start l) (known_of p k) q
      → (f : Fact p) → q f ≡ known_of p r.panel f
  recording_one_end = turned_one_end p (events_from p start l) k r.panel done.known (carry p start l bytes) acceptable.in_range

  -- "A chip that fitted the start fits the end", moved along any way that the rules allow.
  pub recording_fits : (c x : Fact p → ℕ) → Good (range p) c → Fits (known_of p k) c
      → Ends (range p) (moves_from p start l) c x → Fits (known_of p r.panel) x
  recording_fits = turned_fits p (events_from p start l) k r.panel done.known (carry p start l bytes) acceptable.in_range

  -- The knowledge at the end is in range again, so that a further recording is not refused by 2.
  pub recording_in_range : Sound (range p) (known_of p r.panel)
  recording_in_range = turned_in_range p (events_from p start l) k r.panel done.known (carry p start l bytes) acceptable.in_range

  -- "A start that knows more, and contradicts nothing, ends knowing at least as much, with the same values": if it is
  -- in range, its replay is accepted, too.
  pub recording_knows_more : (more : Panel) (q : Replayed) → Replays (part_of b) more l start q
      → Sound (range p) (known_of p more) → KnowsAtLeast (known_of p k) (known_of p more)
      → (number q.answer ≡ 0) × (place q.answer ≡ length l)
      × KnowsAtLeast (known_of p r.panel) (known_of p q.panel)
  recording_knows_more more q again sound h = (d.numbered, d.placed, ends)
    where
      d : PartDone p (events_from p start l) more l q
      d =
          accepts p more l start q (replays_by more l start q (part_of b) p named again)
          (record { in_range = sound; short = acceptable.short; within = acceptable.within; ends = acceptable.ends })

      ends : KnowsAtLeast (known_of p r.panel) (known_of p q.panel)
      ends =
          turned_more p (events_from p start l) k r.panel done.known (carry p start l bytes) acceptable.in_range more q.panel d.known sound h

  -- "Where the start knows all settings and the transfer position, and the recording has no gap and no undefined
  -- command, a memory cell is known at the end exactly when every fitting chip ends with the same content there.",
  -- of each bit of it (M-107).
  pub recording_cells_exact : StartKnows p (known_of p k) → has_gap (events_from p start l) ≡ false
      → NoUndefined (DefinedOn p) (starts_first p (known_of p k (position p))) (events_from p start l)
      → (f : Fact p) → IsMemory p f → (v : ℕ)
      → (known_of p r.panel f ≡ known v → AllEnd (range p) (moves_from p start l) (known_of p k) f v)
      × (AllEnd (range p) (moves_from p start l) (known_of p k) f v → known_of p r.panel f ≡ known v)
  recording_cells_exact = turned_cells_exact p (events_from p start l) k r.panel done.known (carry p start l bytes) acceptable.in_range

  -- So a whole memory cell, whose bits are these w facts, is known at the end to hold a byte exactly when every fitting
  -- chip ends with that byte there.
  pub recording_bytes_exact : StartKnows p (known_of p k) → has_gap (events_from p start l) ≡ false
      → NoUndefined (DefinedOn p) (starts_first p (known_of p k (position p))) (events_from p start l)
      → (bits : ℕ → Fact p) (w : ℕ) → ((j : ℕ) → j < w → IsMemory p (bits j)) → (byte : ℕ)
      → (Spells w (λ j. known_of p r.panel (bits j)) byte → AllEndWithByte (range p) (moves_from p start l) (known_of p k) bits w byte)
      × (AllEndWithByte (range p) (moves_from p start l) (known_of p k) bits w byte → Spells w (λ j. known_of p r.panel (bits j)) byte)
  recording_bytes_exact knows gap fine bits w are byte =
      let exact = recording_cells_exact knows gap fine in (
        λ s c good fits x ends j h. (exact (bits j) (are j h) (digit j byte)).0 (s j h) c good fits x ends,
        λ all j h. (exact (bits j) (are j h) (digit j byte)).1 (λ c good fits x ends. all c good fits x ends j h),
      )
