-- Two packets in turn are the one packet that they make together, where that is allowed; and packets are the replay of the
-- whole. The argument: both are told by the same row (`Packets.in_one`), and what a row's end says fixes all but the total
-- after a refusal, which is that before the packet.
use Rattle.std.specs.Prelude.{ℕ, ◌+◌, ◌≤◌, ◌≡◌, refl, List, [], ◌∷◌, ◌++◌, length, drop, Ok, None, Some, Err}
use Rattle.std.proofs.Common.{arith, sym, ap, ◌∙◌, subst, append-nil, length-append}
use Rattle.terms.specs.declared.Place.{Place}
use Rattle.terms.specs.declared.Part.{Part}
use Rattle.terms.specs.Part.{part_of}
use Rattle.knowing.specs.Standing.{Sound}
use Rattle.parts.specs.Facts.{Fact, range}
use Rattle.recording.specs.Record as Record
use Rattle.recording.specs.Walk.{walked, events, end_of, Ending, stop_of}
use Rattle.recording.specs.Cut.{Open, OpenAt}
use Rattle.recording.specs.declared.Refusal.{Refusal}
use Rattle.recording.specs.declared.Refusal.TheVariants.{Unlisted, Foreign, CutShort, Forbidden}
use Rattle.panel.specs.declared.Panel.{Panel}
use Rattle.panel.specs.View.{known_of}
use Rattle.answers.specs.Answer.{Answer, number}
use Rattle.answers.specs.Told.{Answers}
use Rattle.answers.specs.Unique.{same_answer}
use Rattle.account.specs.Bytes.{bytes_of}
use Rattle.account_tests.specs.Tests.{Fits}
use Rattle.account_ends.specs.Ended.{Goes, Halts, ByRefusal, ByEnd}
use Rattle.feed.specs.declared.Feed.{Feed}
use Rattle.feed.specs.Feed.{Good, opening, first_place}
use Rattle.feed.specs.Close.{Closes}
use Rattle.packets.specs.declared.records.Taken.{Taken}
use Rattle.packets.specs.Takes.{ends, ReadsRow, Takes}
use Rattle.packets.specs.Rows.{row_as}
use Rattle.packets.specs.Run.{Run, together, started, ending, NoFour}
use Rattle.replay.specs.declared.replays.Replayed.{Replayed}
use Rattle.replay.specs.Replay.{RefusedBy, PartDone, ByEnding, Replays}
use Rattle.replay.specs.ByPart.{replays_by, accepted, passed}
use Rattle.demand.specs.Recording.{AllBytes}
use Rattle.demand.proofs.Packets.{takes_by, to_fits, to_records, in_one}
use Rattle.demand.proofs.NoFour.{not_four, total_within}
use Rattle.demand.proofs.InPackets.{opened_good, packets_accepted, packets_refused, packets_cut_short}
use Rattle.demand.specs.TwoPackets.{SameButTotal}

-- What a row's end says.
module _ (q t : Taken) (first one two after : ℕ) (l : List ℕ) where
  gone : (left : List ℕ) → Goes after left (ends q) → Goes after left (ends t) → SameButTotal q t × (q.feed.account.total ≡ t.feed.account.total)
  gone left h g = (
    record {
      answer = same_answer q.answer t.answer (h.numbered ∙ sym g.numbered) (h.placed ∙ sym g.placed);
      unfinished = h.unfinished ∙ sym g.unfinished;
      stands = h.stands ∙ sym g.stands;
    },
    h.counted ∙ sym g.counted,
  )

  halted : (n at : ℕ) → Halts n at one (ends q) → Halts n at two (ends t) → SameButTotal q t
  halted n at h g =
      let a = same_answer q.answer t.answer (h.numbered ∙ sym g.numbered) (h.placed ∙ sym g.placed) in
      record { answer = a; unfinished = h.unfinished ∙ sym g.unfinished; stands = h.stands ∙ ap Some a ∙ sym g.stands }

  same_stop : (x : Refusal) (at : ℕ) (left : List ℕ) → ByRefusal x at one after left (ends q) → ByRefusal x at two after left (ends t)
      → SameButTotal q t × (OpenAt x → q.feed.account.total ≡ t.feed.account.total)
  same_stop Unlisted at left h g = (halted 5 at h g, λ o. absurd o)
  same_stop Foreign at left h g = (halted 6 at h g, λ o. absurd o)
  same_stop CutShort at left h g = let x = gone left h g in (x.0, λ o. x.1)
  same_stop Forbidden at left h g = (halted 8 at h g, λ o. absurd o)

  same_end : (e : Ending) → ByEnd e first one after l (ends q) → ByEnd e first two after l (ends t) → SameButTotal q t × (Open e → q.feed.account.total ≡ t.feed.account.total)
  same_end (Ok u) h g = let x = gone [] h g in (x.0, λ o. x.1)
  same_end (Err s) h g = same_stop s.refusal (first + s.at.0) (drop s.at.0 l) h g

module _ (b : ℕ) (p : Part) (named : part_of b ≡ Ok p) (s : Feed) (good : Good p s) (free : s.account.kept ≡ None) where
  -- Two packets, and the one that they make: the same answer to the last, the same is known of every fact, the same is unfinished
  -- and stands, and, where nothing is told against them, the total is the same.
  pub two_as_one : (l m : List ℕ) (r q t : Taken) → Takes (part_of b) s l r → Takes (part_of b) r.feed m q → Takes (part_of b) s (l ++ m) t
      → (number t.answer ≡ 4 → ⊥) → AllBytes (bytes_of s.account.unfinished ++ (l ++ m))
      → SameButTotal q t × ((f : Fact p) → known_of p q.feed.panel f ≡ known_of p t.feed.panel f)
      × (Open (end_of (walked p (bytes_of s.account.unfinished ++ (l ++ m)))) → q.feed.account.total ≡ t.feed.account.total)
  two_as_one l m r q t first second both never bytes = (e.0, (λ f. turn.known f ∙ sym (once.known f)), e.1)
    where
      -- What the one packet may have, its two parts may.
      room : Fits s.account.total (length (l ++ m))
      room = to_fits p s (l ++ m) t good free never (takes_by (part_of b) p s (l ++ m) t named both)

      sum : length (l ++ m) ≡ length l + length m
      sum = length-append l m

      no_r : number r.answer ≡ 4 → ⊥
      no_r = not_four p s l r (record { packet = omega (arith, room.packet, sum); whole = omega (arith, room.whole, sum) }) (takes_by (part_of b) p s l r named first)

      no_q : number q.answer ≡ 4 → ⊥
      no_q =
          let w = total_within p s l r (takes_by (part_of b) p s l r named first) in
          not_four p r.feed m q (record { packet = omega (arith, room.packet, sum); whole = omega (arith, room.whole, sum, w) }) (takes_by (part_of b) p r.feed m q named second)

      row : l ++ (m ++ []) ≡ l ++ m
      row = ap (λ (x : List ℕ). l ++ x) (append-nil m)

      read_in_one : (before : ℕ) × ReadsRow p s.panel (first_place s) before (s.account.total + length (l ++ m)) (bytes_of s.account.unfinished ++ (l ++ m)) q
      read_in_one =
          let x = in_one b p named (l ∷ m ∷ []) (started s) (r ∷ q ∷ []) (record { good = good; free = free; numbered = refl; placed = refl }) (first, (second, tt)) (no_r, (no_q, tt))
          (subst (λ (y : List ℕ). AllBytes (bytes_of s.account.unfinished ++ y)) (sym row) bytes) in
          (x.0, row_as p s.panel refl (ap (λ (y : List ℕ). s.account.total + length y) row) (ap (λ (y : List ℕ). bytes_of s.account.unfinished ++ y) row) x.2)

      turn : ReadsRow p s.panel (first_place s) read_in_one.0 (s.account.total + length (l ++ m)) (bytes_of s.account.unfinished ++ (l ++ m)) q
      turn = read_in_one.1

      once : ReadsRow p s.panel (first_place s) s.account.total (s.account.total + length (l ++ m)) (bytes_of s.account.unfinished ++ (l ++ m)) t
      once = to_records p s (l ++ m) t good free never (takes_by (part_of b) p s (l ++ m) t named both)

      e : SameButTotal q t × (Open (end_of (walked p (bytes_of s.account.unfinished ++ (l ++ m)))) → q.feed.account.total ≡ t.feed.account.total)
      e = same_end q t (first_place s) read_in_one.0 s.account.total (s.account.total + length (l ++ m)) (bytes_of s.account.unfinished ++ (l ++ m)) (end_of (walked p (bytes_of s.account.unfinished ++ (l ++ m)))) turn.ended once.ended

module _ (b : ℕ) (p : Part) (named : part_of b ≡ Ok p) (k : Panel) (ls : List (List ℕ)) (rs : List Taken)
    (run : Run (part_of b) (opening k) ls rs) (never : NoFour rs) (bytes : AllBytes (together ls)) where
  abbrev last : Taken
  last = ending (started (opening k)) rs

  -- Where the replay of the whole is done, the last packet is answered as the replay is, and the same is known of every fact.
  pub packets_as_replay : (z : Replayed) → Replays (part_of b) k (together ls) 0 z → number z.answer ≡ 0
      → (last.answer ≡ z.answer) × ((f : Fact p) → known_of p last.feed.panel f ≡ known_of p z.panel f)
  packets_as_replay z replayed nought =
      let (fine, done) = accepted p k (together ls) 0 z (replays_by k (together ls) 0 z (part_of b) p named replayed) nought in
      let start = opened_good p k fine.in_range in
      let x = in_one b p named ls (started (opening k)) rs (record { good = start; free = refl; numbered = refl; placed = refl }) run never bytes in
      let e : Goes (0 + length (together ls)) [] (ends last) = subst (λ (y : Ending). ByEnd y 0 x.0 (0 + length (together ls)) (together ls) (ends last)) fine.ends x.2.ended in
      let n : 0 + length (together ls) ≡ length (together ls) = omega arith in
      (same_answer last.answer z.answer (e.numbered ∙ sym done.numbered) (e.placed ∙ n ∙ sym done.placed), λ f. x.2.known f ∙ sym (done.known f))

  -- Closing is answered as the replay of the whole, done or refused, where its length is allowed and the start is in range.
  pub closing_as_replay : Sound (range p) (known_of p k) → length (together ls) ≤ 65535 → (a : Answer) → Closes (part_of b) last.feed a
      → (z : Replayed) → Replays (part_of b) k (together ls) 0 z → a ≡ z.answer
  closing_as_replay sound short a closing z replayed =
      by (end_of (walked p (together ls))) refl
      (passed p k (together ls) 0 z (replays_by k (together ls) 0 z (part_of b) p named replayed) sound short (omega arith))
    where
      refused : (x : Refusal) (at : Place) → Answers a (Record.number x) (0 + at.0) → RefusedBy (Record.number x) (0 + at.0) k z → a ≡ z.answer
      refused x at c d = same_answer a z.answer (c.numbered ∙ sym d.numbered) (c.placed ∙ sym d.placed)

      told : (x : Refusal) (at : Place) → end_of (walked p (together ls)) ≡ Err (stop_of x at) → (Open (Err (stop_of x at)) → ⊥) → Answers a (Record.number x) (0 + at.0)
      told x at q shut = (packets_refused b p named (opening k) (opened_good p k sound) refl ls rs run never bytes a closing x at q shut).4

      stopped : (x : Refusal) (at : Place) → end_of (walked p (together ls)) ≡ Err (stop_of x at) → RefusedBy (Record.number x) (0 + at.0) k z → a ≡ z.answer
      stopped Unlisted at q d = refused Unlisted at (told Unlisted at q (λ o. o)) d
      stopped Foreign at q d = refused Foreign at (told Foreign at q (λ o. o)) d
      stopped CutShort at q d = refused CutShort at (packets_cut_short b p named (opening k) (opened_good p k sound) refl ls rs run never bytes a closing at q).3 d
      stopped Forbidden at q d = refused Forbidden at (told Forbidden at q (λ o. o)) d

      by : (e : Ending) → end_of (walked p (together ls)) ≡ e → ByEnding e 0 k z (PartDone p (events (walked p (together ls))) k (together ls) z) → a ≡ z.answer
      by (Ok u) q d =
          let c = (packets_accepted b p named (opening k) (opened_good p k sound) refl ls rs run never bytes a closing q).3 in
          let n : 0 + length (together ls) ≡ length (together ls) = omega arith in
          same_answer a z.answer (c.numbered ∙ sym d.numbered) (c.placed ∙ n ∙ sym d.placed)
      by (Err s) q d = stopped s.refusal s.at q d
