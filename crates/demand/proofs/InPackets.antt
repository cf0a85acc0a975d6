-- M-100 in the paper's words: a recording that comes in packets, however it is cut, from any good state in which no refusal
-- stands, where no packet is answered by 4. The argument: packets in turn are the one row that they make (`Packets.in_one`),
-- and what is left of it decides how closing is answered.
use Rattle.std.specs.Prelude.{ℕ, ◌+◌, ◌≡◌, refl, false, List, [], ◌∷◌, ◌++◌, map, length, drop, Ok, Option, None, Some, Err}
use Rattle.std.proofs.Common.{arith, ap, ◌∙◌, subst, append_assoc, ⊎_elim, length-append, length-drop}
use Rattle.std.proofs.Math.Path.{subst⁻¹}
use Rattle.rules.specs.Where.{Where, where_good}
use Rattle.rules.specs.Where.{good as good_fit, bad as bad_fit}
use Rattle.rules.specs.Range as Ranges
use Rattle.rules.specs.Turn.{Ends}
use Rattle.knowing.specs.Standing.{Standing, known, Fits, Sound}
use Rattle.terms.specs.declared.Place.{Place}
use Rattle.terms.specs.declared.Part.{Part}
use Rattle.terms.specs.Part.{PartRead, part_of}
use Rattle.walks.specs.Turn.{InTurn}
use Rattle.parts.specs.Facts.{Fact, same?, range, move}
use Rattle.recording.specs.Record as Record
use Rattle.recording.specs.Walk.{walked, events, end_of, Ending, stop_of}
use Rattle.recording.specs.Points.{stops_within}
use Rattle.recording.specs.Start.{none}
use Rattle.recording.specs.Cut.{stands_at, Open, cut_told}
use Rattle.recording.specs.declared.Refusal.{Refusal}
use Rattle.recording.specs.declared.Refusal.TheVariants.{Unlisted, Foreign, CutShort, Forbidden}
use Rattle.panel.specs.declared.Panel.{Panel}
use Rattle.panel.specs.View.{known_of}
use Rattle.answers.specs.Answer.{Answer, number, place}
use Rattle.answers.specs.Told.{Answers}
use Rattle.account.specs.Bytes.{bytes_of}
use Rattle.account_tests.specs.Close.{ByLeft}
use Rattle.account_tests.specs.Tests.{Fits as FitsIn, ByKept}
use Rattle.account_ends.specs.Ended.{Goes, Halts, ByEnd}
use Rattle.feed.specs.declared.Feed.{Feed}
use Rattle.feed.specs.Feed.{Good, opening, first_place}
use Rattle.feed.specs.Close as Close
use Rattle.feed.specs.Close.{ClosesPart, Closes}
use Rattle.packets.specs.declared.records.Taken.{Taken}
use Rattle.packets.specs.Takes.{ends, RefusedBy, ReadsRow, Reads, Takes}
use Rattle.packets.specs.Run.{Run, together, started, ending, NoFour, AllAnswered, Course, over, goes, halts, AllGo}
use Rattle.whole.specs.Turns.{Chain, KnowsAtLeast}
use Rattle.whole.specs.Sentence.{position, StartKnows, has_gap, DefinedOn, NoUndefined, starts_first, IsMemory, AllEnd}
use Rattle.demand.specs.Recording.{AllBytes}
use Rattle.demand.proofs.Bytes.{carry}
use Rattle.demand.specs.Turned.{turned_chain, turned_one_end, turned_in_range, turned_fits, turned_more, turned_cells_exact}
use Rattle.demand.proofs.Packets.{good_again, place_again, good_halted, takes_by, open?, standing_run, in_one}
use Rattle.demand.specs.InPackets.{KnownAfter}

-- Nothing told against the whole: every packet is answered 0 at its total.
course_open : (p : Part) (a : Answer) (row : List ℕ) (total : ℕ) (ls : List (List ℕ)) (rs : List Taken) (before : ℕ) → Course p a row total ls rs before
    → Open (end_of (walked p (row ++ together ls))) → AllGo total ls rs
course_open p a row total ls rs before (over _ _) o = tt
course_open p a row total ls rs before (goes _ _ l ms r qs _ _ z at c) o = (
  z,
  at,
  course_open p a (row ++ l) (total + length l) ms qs before c
      (subst⁻¹ (λ (x : List ℕ). Open (end_of (walked p x))) (append_assoc row l (together ms)) o),
)
course_open p a row total ls rs before (halts _ _ l ms r qs shut all) o =
    absurd (shut (subst Open (cut_told p (row ++ l) (together ms) shut).1
    (subst⁻¹ (λ (x : List ℕ). Open (end_of (walked p x))) (append_assoc row l (together ms)) o)))

closes_by : (q : PartRead) (p : Part) (s : Feed) (a : Answer) → q ≡ Ok p → Closes q s a → ClosesPart p s a
closes_by q p s a e h = subst (λ (x : PartRead). Closes x s a) e h

-- What closing comes to, by what is unfinished.
ends_left : (s : Feed) (a : Answer) (u : List ℕ) → bytes_of s.account.unfinished ≡ u → Close.Ends s a → ByLeft u (first_place s) s.account.total s.account.kept a
ends_left s a u e h = subst (λ (x : List ℕ). ByLeft x (first_place s) s.account.total s.account.kept a) e h

module _ (b : ℕ) (p : Part) (named : part_of b ≡ Ok p) (s : Feed) (good : Good p s) (free : s.account.kept ≡ None) (ls : List (List ℕ))
    (rs : List Taken) (run : Run (part_of b) s ls rs) (never : NoFour rs) (bytes : AllBytes (bytes_of s.account.unfinished ++ together ls)) where
  -- What was unfinished, and all packets; what is kept of the panel in the end; and the total that counts all bytes.
  abbrev pub whole : List ℕ
  whole = bytes_of s.account.unfinished ++ together ls

  abbrev pub last : Taken
  last = ending (started s) rs

  abbrev pub all : ℕ
  all = s.account.total + length (together ls)

  pub one : (before : ℕ) × Course p last.answer (bytes_of s.account.unfinished) s.account.total ls rs before × ReadsRow p s.panel (first_place s) before all whole last
  one = in_one b p named ls (started s) rs (record { good = good; free = free; numbered = refl; placed = refl }) run never bytes

  counts : first_place s + length whole ≡ all
  counts =
      let a = length-append (bytes_of s.account.unfinished) (together ls) in
      let c = good.counted in
      omega (arith, a, c)

  known_after : KnownAfter p whole s.panel last.feed.panel
  known_after = record { known = one.2.known; kept = one.2.kept }

  -- How the last packet is answered, by how the whole's records end.
  pub by_end : (e : Ending) → end_of (walked p whole) ≡ e → ByEnd e (first_place s) one.0 all whole (ends last)
  by_end e q = subst (λ (x : Ending). ByEnd x (first_place s) one.0 all whole (ends last)) q one.2.ended

  -- A refusal by 5, 6 or 8: number, place, what is kept, and that it stands.
  pub told_halts : (x : Refusal) (at : Place) → end_of (walked p whole) ≡ Err (stop_of x at) → (Open (Err (stop_of x at)) → ⊥)
      → Halts (Record.number x) (first_place s + at.0) one.0 (ends last)
  told_halts x at q shut = halting x shut (by_end (Err (stop_of x at)) q)
    where
      halting : (y : Refusal) → (Open (Err (stop_of y at)) → ⊥) → ByEnd (Err (stop_of y at)) (first_place s) one.0 all whole (ends last)
          → Halts (Record.number y) (first_place s + at.0) one.0 (ends last)
      halting Unlisted no_way h = h
      halting Foreign no_way h = h
      halting CutShort no_way h = absurd (no_way tt)
      halting Forbidden no_way h = h

  all_go : (e : Ending) → end_of (walked p whole) ≡ e → Open e → AllGo s.account.total ls rs
  all_go e q o = course_open p last.answer (bytes_of s.account.unfinished) s.account.total ls rs one.0 one.1 (subst⁻¹ Open q o)

  good_last : (e : Ending) → end_of (walked p whole) ≡ e → Open e → Good p last.feed
  good_last e q o = good_again p s.panel (first_place s) one.0 all whole last good.in_range bytes counts one.2 (subst⁻¹ Open q o)

  -- Demand 3 over packets: what is known in the end is the end of a chain of knowledges, one behind each event of the whole's good
  -- records, each exact from the one before.
  pub packets_in_turn : Chain (range p) (map (move p) (events (walked p whole))) (known_of p s.panel) (known_of p last.feed.panel)
  packets_in_turn = turned_chain p (events (walked p whole)) s.panel last.feed.panel known_after.known (carry p 0 whole bytes) good.in_range

  -- And no such chain ends in another knowledge.
  pub packets_one_end : (q : Fact p → Standing) → Chain (range p) (map (move p) (events (walked p whole))) (known_of p s.panel) q
      → (f : Fact p) → q f ≡ known_of p last.feed.panel f
  packets_one_end = turned_one_end p (events (walked p whole)) s.panel last.feed.panel known_after.known (carry p 0 whole bytes) good.in_range

  -- What is known at the end is in range again.
  pub packets_in_range : Sound (range p) (known_of p last.feed.panel)
  packets_in_range = turned_in_range p (events (walked p whole)) s.panel last.feed.panel known_after.known (carry p 0 whole bytes) good.in_range

  -- A chip that fitted the start fits the end.
  pub packets_fit : (c x : Fact p → ℕ) → Ranges.Good (range p) c → Fits (known_of p s.panel) c → Ends (range p) (map (move p) (events (walked p whole))) c x
      → Fits (known_of p last.feed.panel) x
  packets_fit = turned_fits p (events (walked p whole)) s.panel last.feed.panel known_after.known (carry p 0 whole bytes) good.in_range

  -- A start that knows more, and contradicts nothing, ends knowing at least as much, with the same values, however its packets are
  -- cut.
  pub packets_know_more : (t : Feed) (fine : Good p t) (none-stands : t.account.kept ≡ None) (ms : List (List ℕ)) (qs : List Taken)
      → Run (part_of b) t ms qs → NoFour qs → bytes_of t.account.unfinished ++ together ms ≡ whole
      → KnowsAtLeast (known_of p s.panel) (known_of p t.panel)
      → KnowsAtLeast (known_of p last.feed.panel) (known_of p (ending (started t) qs).feed.panel)
  packets_know_more t fine none-stands ms qs again no_four same more =
      let x = in_one b p named ms (started t) qs (record { good = fine; free = none-stands; numbered = refl; placed = refl }) again no_four (subst⁻¹ AllBytes same bytes) in
      turned_more p (events (walked p whole)) s.panel last.feed.panel known_after.known (carry p 0 whole bytes) good.in_range
      t.panel (ending (started t) qs).feed.panel
      (subst (λ (l : List ℕ). InTurn (known_of p) (same? p) (range p) (move p) (events (walked p l)) t.panel (ending (started t) qs).feed.panel) same x.2.known)
      fine.in_range more

  -- Where the start knows all settings and the transfer position, and there is no gap and no undefined command, each bit of a memory
  -- cell is known at the end exactly when every fitting chip ends with the same content there.
  pub packets_cells_exact : StartKnows p (known_of p s.panel) → has_gap (events (walked p whole)) ≡ false
      → NoUndefined (DefinedOn p) (starts_first p (known_of p s.panel (position p))) (events (walked p whole))
      → (f : Fact p) → IsMemory p f → (v : ℕ)
      → (known_of p last.feed.panel f ≡ known v → AllEnd (range p) (map (move p) (events (walked p whole))) (known_of p s.panel) f v)
      × (AllEnd (range p) (map (move p) (events (walked p whole))) (known_of p s.panel) f v → known_of p last.feed.panel f ≡ known v)
  packets_cells_exact = turned_cells_exact p (events (walked p whole)) s.panel last.feed.panel known_after.known (carry p 0 whole bytes) good.in_range

  module _ (a : Answer) (closing : Closes (part_of b) last.feed a) where
    closed : Good p last.feed → Close.Ends last.feed a
    closed g = where_good g (closes_by (part_of b) p last.feed a named closing)

    -- If the whole is accepted: every packet is answered 0 at its total, the end knows what the whole's events in turn make of
    -- the start, nothing is unfinished, and closing is 0 at the total.
    pub packets_accepted : end_of (walked p whole) ≡ Ok tt
        → AllGo s.account.total ls rs × KnownAfter p whole s.panel last.feed.panel × Goes all [] (ends last) × Answers a 0 all
    packets_accepted q =
        let g = by_end (Ok tt) q in
        let k = subst (λ (x : Option Answer). ByKept x (Answers a) (Answers a 0 last.feed.account.total)) g.stands (ends_left last.feed a [] g.unfinished (closed (good_last (Ok tt) q tt))) in
        (all_go (Ok tt) q tt, known_after, g, record { numbered = k.numbered; placed = k.placed ∙ g.counted })

    -- If it is cut short: every packet is answered 0 at its total, and closing is 7 at the record's first byte.
    pub packets_cut_short : (at : Place) → end_of (walked p whole) ≡ Err (stop_of CutShort at)
        → AllGo s.account.total ls rs × KnownAfter p whole s.panel last.feed.panel × Goes all (drop at.0 whole) (ends last)
        × Answers a 7 (first_place s + at.0)
    packets_cut_short at q = (all_go (Err (stop_of CutShort at)) q tt, known_after, g, close (drop at.0 whole) some_left g)
      where
        g : Goes all (drop at.0 whole) (ends last)
        g = by_end (Err (stop_of CutShort at)) q

        o : Open (end_of (walked p whole))
        o = subst⁻¹ Open q tt

        some_left : (length (drop at.0 whole) ≡ 0) → ⊥
        some_left z =
            let h = stops_within p whole CutShort at q in
            let d = length-drop at.0 whole in
            omega (arith, h, d, z)

        first : first_place last.feed ≡ first_place s + at.0
        first =
            place_again p s.panel (first_place s) one.0 all whole last good.in_range bytes counts one.2 o
            ∙ ap (λ (e : Ending). first_place s + stands_at e whole) q

        close : (u : List ℕ) → (length u ≡ 0 → ⊥) → Goes all u (ends last) → Answers a 7 (first_place s + at.0)
        close [] more h = absurd (more refl)
        close (x ∷ u) more h =
            let k = ends_left last.feed a (x ∷ u) h.unfinished (closed (good_last (Err (stop_of CutShort at)) q tt)) in
            let there = k.placed in
            record { numbered = k.numbered; placed = omega (arith, there, first) }

    -- If it is refused by 5, 6 or 8: the packets are answered 0 until the one that lets it be told, and from then on by the
    -- same number and place; what is known is what the last good record left, nothing is unfinished, the total is that before
    -- that packet, and closing is answered the same.
    pub packets_refused : (x : Refusal) (at : Place) → end_of (walked p whole) ≡ Err (stop_of x at) → (Open (Err (stop_of x at)) → ⊥)
        → (before : ℕ) × Course p last.answer (bytes_of s.account.unfinished) s.account.total ls rs before × KnownAfter p whole s.panel last.feed.panel
        × Halts (Record.number x) (first_place s + at.0) before (ends last) × Answers a (Record.number x) (first_place s + at.0)
    packets_refused x at q shut = (one.0, one.1, known_after, h, close)
      where
        h : Halts (Record.number x) (first_place s + at.0) one.0 (ends last)
        h = told_halts x at q shut

        stood : Good p last.feed × (last.feed.account.kept ≡ Some last.answer)
        stood = good_halted p s.panel (first_place s) one.0 all whole last good.in_range bytes counts one.2 (λ o. shut (subst Open q o))

        close : Answers a (Record.number x) (first_place s + at.0)
        close =
            let k = subst (λ (y : Option Answer). ByKept y (Answers a) (Answers a 0 last.feed.account.total)) stood.1 (ends_left last.feed a [] h.unfinished (closed stood.0)) in
            record { numbered = k.numbered ∙ h.numbered; placed = k.placed ∙ h.placed }

-- The state before the first packet is good, whatever is known within the ranges.
pub opened_good : (p : Part) (k : Panel) → Sound (range p) (known_of p k) → Good p (opening k)
opened_good p k sound = record { in_range = sound; cut_off = none; counted = omega arith; told = tt }

module _ (b : ℕ) (p : Part) (named : part_of b ≡ Ok p) where
  -- From a good state in which a refusal stands: every packet is answered by it, and changes nothing.
  pub packets_standing : (s : Feed) (a : Answer) → Good p s → s.account.kept ≡ Some a → (ls : List (List ℕ)) (rs : List Taken)
      → Run (part_of b) s ls rs → AllAnswered a rs × (ending (record { answer = a; feed = s }) rs ≡ record { answer = a; feed = s })
  packets_standing s a good kept ls rs run = standing_run b p named ls (record { answer = a; feed = s }) rs good kept run

  -- A packet leaves a good state good, whatever its answer.
  pub packet_good : (s : Feed) (l : List ℕ) (r : Taken) → Good p s → AllBytes (bytes_of s.account.unfinished ++ l) → Takes (part_of b) s l r → Good p r.feed
  packet_good s l r good bytes met = by s.account.kept (where_good good (takes_by (part_of b) p s l r named met))
    where
      counts : first_place s + length (bytes_of s.account.unfinished ++ l) ≡ s.account.total + length l
      counts =
          let a = length-append (bytes_of s.account.unfinished) l in
          let c = good.counted in
          omega (arith, a, c)

      unchanged : (n at : ℕ) → RefusedBy n at s r → Good p r.feed
      unchanged n at h = subst⁻¹ (Good p) h.kept good

      read : Reads p s l r → Good p r.feed
      read h =
          ⊎_elim (λ o. good_again p s.panel (first_place s) s.account.total (s.account.total + length l) (bytes_of s.account.unfinished ++ l) r good.in_range bytes counts h o)
          (λ shut. (good_halted p s.panel (first_place s) s.account.total (s.account.total + length l) (bytes_of s.account.unfinished ++ l) r good.in_range bytes counts h shut).0)
          (open? (end_of (walked p (bytes_of s.account.unfinished ++ l))))

      by : (k : Option Answer) → ByKept k (λ n at. RefusedBy n at s r) (Where (FitsIn s.account.total (length l)) (Reads p s l r) (RefusedBy 4 0 s r)) → Good p r.feed
      by None (good_fit fits h) = read h
      by None (bad_fit no_way h) = unchanged 4 0 h
      by (Some a) h = unchanged (number a) (place a) h
