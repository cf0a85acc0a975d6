-- Replaying two recordings one after the other is replaying their concatenation, where its length is allowed. The
-- argument: the walk over both is the walk over the first and then over the second
-- (`recording/Cut.walked_append`), and events in turn are what they are in one row.
use Rattle.std.specs.Prelude.{ℕ, ◌+◌, ◌≤◌, ◌≡◌, List, ◌++◌, length, Ok, Err}
use Rattle.std.proofs.Common.{arith, sym, ap, ◌∙◌}
use Rattle.terms.specs.Part.{part_of}
use Rattle.terms.specs.declared.Part.{Part}
use Rattle.recording.specs.Walk.{walked, events, end_of, stop_of}
use Rattle.recording.specs.Append.{shifted}
use Rattle.recording.specs.Cut.{walked_append}
use Rattle.recording.specs.Record as Record
use Rattle.walks.specs.Turn.{turn_on}
use Rattle.parts.specs.Facts.{Fact, same?, range, move}
use Rattle.panel.specs.declared.Panel.{Panel}
use Rattle.panel.specs.View.{known_of}
use Rattle.replay.specs.declared.replays.Replayed.{Replayed}
use Rattle.answers.specs.Answer.{number, place}
use Rattle.replay.specs.Replay.{RefusedBy, ByEnding, PartDone, Replays, ends_by}
use Rattle.replay.specs.ByPart.{Acceptable, replays_by, accepted, passed, record_refused}

module _ (b : ℕ) (p : Part) (named : part_of b ≡ Ok p) (k : Panel) (l m : List ℕ) (r q s : Replayed)
    (room : length (l ++ m) ≤ 65535) (first : Replays (part_of b) k l 0 r) (zero : number r.answer ≡ 0)
    (second : Replays (part_of b) r.panel m 0 q) (both : Replays (part_of b) k (l ++ m) 0 s) where
  begun : Acceptable p k l 0 × PartDone p (events (walked p l)) k l r
  begun = accepted p k l 0 r (replays_by k l 0 r (part_of b) p named first) zero

  -- The records of both, past the tests.
  rest : ByEnding (shifted (length l) (end_of (walked p m))) 0 k s (PartDone p (events (walked p (l ++ m))) k (l ++ m) s)
  rest =
      ends_by (end_of (walked p (l ++ m))) _ 0 k s _ (walked_append p l m begun.0.ends).1
      (passed p k (l ++ m) 0 s (replays_by k (l ++ m) 0 s (part_of b) p named both) begun.0.in_range room (omega arith))

  -- Where the second is done, so are both, at their length, and the same is known of every fact.
  pub append_done : number q.answer ≡ 0
      → (number s.answer ≡ 0) × (place s.answer ≡ length (l ++ m))
      × ((f : Fact p) → known_of p s.panel f ≡ known_of p q.panel f)
  append_done z = (d.numbered, d.placed, same)
    where
      then : Acceptable p r.panel m 0 × PartDone p (events (walked p m)) r.panel m q
      then = accepted p r.panel m 0 q (replays_by r.panel m 0 q (part_of b) p named second) z

      d : PartDone p (events (walked p (l ++ m))) k (l ++ m) s
      d = ends_by _ (Ok tt) 0 k s _ (ap (shifted (length l)) then.0.ends) rest

      same : (f : Fact p) → known_of p s.panel f ≡ known_of p q.panel f
      same f =
          d.known f
          ∙ sym (turn_on (known_of p) (same? p) (range p) (move p) (events (walked p l)) (events (walked p m)) (events (walked p (l ++ m))) k r.panel q.panel
          (walked_append p l m begun.0.ends).0 begun.1.known then.1.known f)

  -- Where a record of the second is none, it is none in both, with the same number, its place counted on; and the
  -- knowledge is as handed in.
  pub append_refused : 5 ≤ number q.answer
      → (number s.answer ≡ number q.answer) × (place s.answer ≡ length l + place q.answer) × (s.panel ≡ k)
  append_refused five =
      let (x, at, stops, h) = record_refused p r.panel m 0 q (replays_by r.panel m 0 q (part_of b) p named second) five in
      let g : RefusedBy (Record.number x) (0 + (length l + at.0)) k s = ends_by _ (Err (stop_of x (record { 0 = length l + at.0 }))) 0 k s _ (ap (shifted (length l)) stops) rest in
      let there = h.placed in
      let here = g.placed in
      (g.numbered ∙ sym h.numbered, omega (arith, there, here), g.kept)
