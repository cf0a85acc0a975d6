-- Packets in turn are the one row of bytes that they make together (M-100), whoever cut it. The argument: a packet that
-- nothing is told against leaves a good state, whose unfinished bytes and next packet go on where the row stood
-- (`packets/Rows`); a refusal that is told stands, and the row's walk ends there whatever follows.
use Rattle.std.specs.Prelude.{ℕ, zero, suc, ◌+◌, ◌≡◌, refl, true, List, [], ◌∷◌, ◌++◌, ◌⊎◌, length, drop, Ok, Option, None, Some, Err}
use Rattle.std.proofs.Common.{arith, sym, ap, ◌∙◌, subst, append_assoc, append-nil, ⊎_elim, inl, inr, length-append, length-drop}
use Rattle.std.proofs.Math.Path.{subst⁻¹}
use Rattle.rules.specs.Where.{Where, where_good, where_not}
use Rattle.knowing.specs.Standing.{Sound}
use Rattle.terms.specs.Part.{PartRead, part_of}
use Rattle.terms.specs.declared.Event.{Event}
use Rattle.terms.specs.declared.Part.{Part}
use Rattle.terms.specs.declared.Place.{Place}
use Rattle.walks.specs.Turn.{InTurn}
use Rattle.parts.specs.Facts.{same?, range, move}
use Rattle.recording.specs.Walk.{walked, events, end_of, Ending, stop_of}
use Rattle.recording.specs.Append.{shifted}
use Rattle.recording.specs.Cut.{stands_at, left_by, left_of, Open, OpenAt, open_back, open_on, walked_stops, cut_open, left_behind, left_length}
use Rattle.recording.specs.Start.{CutOff, none, some, cut_off}
use Rattle.recording.specs.Points.{stops_within, cut_front}
use Rattle.recording.specs.declared.Refusal.{Refusal}
use Rattle.recording.specs.declared.Refusal.TheVariants.{Unlisted, Foreign, CutShort, Forbidden}
use Rattle.panel.specs.declared.Panel.{Panel}
use Rattle.panel.specs.View.{known_of}
use Rattle.answers.specs.Answer.{Answer, number}
use Rattle.answers.specs.Unique.{same_answer}
use Rattle.account.specs.Bytes.{bytes_of}
use Rattle.account_fair.specs.Fair.{stands, MayStand}
use Rattle.account_tests.specs.Tests.{Fits, ByKept}
use Rattle.account_ends.specs.Ended.{Goes, Halts, ByRefusal, ByEnd}
use Rattle.feed.specs.declared.Feed.{Feed}
use Rattle.feed.specs.Feed.{Good, first_place}
use Rattle.packets.specs.declared.records.Taken.{Taken}
use Rattle.packets.specs.Takes.{ends, RefusedBy, ReadsRow, Reads, TakesPart, Takes}
use Rattle.packets.specs.Rows.{row_as, other_same, row_on, row_told, row_goes}
use Rattle.packets.specs.Run.{Run, together, ending, NoFour, AllAnswered, Course, over, goes, halts}
use Rattle.demand.specs.Recording.{AllBytes}
use Rattle.demand.proofs.Bytes.{carry, drop_bytes}
use Rattle.demand.specs.Turned.{turned_in_range}
use Rattle.demand.specs.Packets.{Stays}

-- The bytes of a row's front are bytes.
front_bytes : (l m : List ℕ) → AllBytes (l ++ m) → AllBytes l
front_bytes [] m h i = omega arith
front_bytes (b ∷ l) m h zero = h zero
front_bytes (b ∷ l) m h (suc i) = front_bytes l m (λ j. h (suc j)) i

-- What a row leaves is the cut_off start of a record.
left_cut_off : (p : Part) (l : List ℕ) → CutOff p (left_by (end_of (walked p l)) l)
left_cut_off p l = by (end_of (walked p l)) refl
  where
    stopped : (x : Refusal) (at : Place) → end_of (walked p l) ≡ Err (stop_of x at) → CutOff p (left_of x (drop at.0 l))
    stopped Unlisted at q = none
    stopped Foreign at q = none
    stopped CutShort at q =
        let h = stops_within p l CutShort at q in
        let d = length-drop at.0 l in
        cut_off p (drop at.0 l) (omega (arith, h, d)) (cut_front p l at q)
    stopped Forbidden at q = none

    by : (e : Ending) → end_of (walked p l) ≡ e → CutOff p (left_by e l)
    by (Ok u) q = none
    by (Err s) q = stopped s.refusal s.at q

-- What a row leaves is good again, done, cut short or refused.
module _ (p : Part) (k : Panel) (first before after : ℕ) (row : List ℕ) (r : Taken) (sound : Sound (range p) (known_of p k)) (bytes : AllBytes row)
    (sum : first + length row ≡ after) (read : ReadsRow p k first before after row r) where
  -- Every known value is in its range again.
  in_range : Sound (range p) (known_of p r.feed.panel)
  in_range = turned_in_range p (events (walked p row)) k r.feed.panel read.known (carry p 0 row bytes) sound

  module _ (o : Open (end_of (walked p row))) where
    went : Goes after (left_by (end_of (walked p row)) row) (ends r)
    went = row_goes p k first before after row r o read

    pub good_again : Good p r.feed
    good_again =
        let n = left_length p row [] o in
        let u = ap length went.unfinished in
        let t = went.counted in
        record {
          in_range = in_range;
          cut_off = subst⁻¹ (CutOff p) went.unfinished (left_cut_off p row);
          counted = omega (arith, n, u, t, sum);
          told = subst⁻¹ MayStand went.stands tt;
        }

    -- Its first unfinished byte stands where the row stood.
    pub place_again : first_place r.feed ≡ first + stands_at (end_of (walked p row)) row
    place_again =
        let n = left_length p row [] o in
        let u = ap length went.unfinished in
        let t = went.counted in
        omega (arith, n, u, t, sum)

  -- A refusal that was told stands.
  pub good_halted : (Open (end_of (walked p row)) → ⊥) → Good p r.feed × (r.feed.account.kept ≡ Some r.answer)
  good_halted shut = by (end_of (walked p row)) shut read.ended
    where
      stood : (n at : ℕ) → stands n ≡ true → Halts n at before (ends r) → Good p r.feed × (r.feed.account.kept ≡ Some r.answer)
      stood n at e h =
          let u = ap length h.unfinished in (
            record {
              in_range = in_range;
              cut_off = subst⁻¹ (CutOff p) h.unfinished none;
              counted = omega (arith, u);
              told = subst⁻¹ MayStand h.stands (ap stands h.numbered ∙ e);
            },
            h.stands,
          )

      stopped : (x : Refusal) (at : ℕ) (left : List ℕ) → (OpenAt x → ⊥) → ByRefusal x at before after left (ends r) → Good p r.feed × (r.feed.account.kept ≡ Some r.answer)
      stopped Unlisted at left shut h = stood 5 at refl h
      stopped Foreign at left shut h = stood 6 at refl h
      stopped CutShort at left shut h = absurd (shut tt)
      stopped Forbidden at left shut h = stood 8 at refl h

      by : (e : Ending) → (Open e → ⊥) → ByEnd e first before after row (ends r) → Good p r.feed × (r.feed.account.kept ≡ Some r.answer)
      by (Ok u) shut h = absurd (shut tt)
      by (Err s) shut h = stopped s.refusal (first + s.at.0) (drop s.at.0 row) shut h

-- What a packet is promised, where the part byte names the part p.
pub takes_by : (q : PartRead) (p : Part) (s : Feed) (l : List ℕ) (r : Taken) → q ≡ Ok p → Takes q s l r → TakesPart p s l r
takes_by q p s l r e h = subst (λ (x : PartRead). Takes x s l r) e h

-- Of a good state with no standing refusal, where the answer is not 4.
past_tests : (p : Part) (s : Feed) (l : List ℕ) (r : Taken) → Good p s → s.account.kept ≡ None → (number r.answer ≡ 4 → ⊥) → TakesPart p s l r
    → Fits s.account.total (length l) × Reads p s l r
past_tests p s l r good free never h =
    let fits = subst (λ (k : Option Answer). ByKept k (λ n at. RefusedBy n at s r) (Where (Fits s.account.total (length l)) (Reads p s l r) (RefusedBy 4 0 s r))) free (where_good good h) in
    where_not (λ four. never four.numbered) fits

pub to_fits : (p : Part) (s : Feed) (l : List ℕ) (r : Taken) → Good p s → s.account.kept ≡ None → (number r.answer ≡ 4 → ⊥) → TakesPart p s l r
    → Fits s.account.total (length l)
to_fits p s l r good free never h = (past_tests p s l r good free never h).0

pub to_records : (p : Part) (s : Feed) (l : List ℕ) (r : Taken) → Good p s → s.account.kept ≡ None → (number r.answer ≡ 4 → ⊥) → TakesPart p s l r
    → Reads p s l r
to_records p s l r good free never h = (past_tests p s l r good free never h).1

-- Of a good state with a standing refusal.
to_standing : (p : Part) (s : Feed) (l : List ℕ) (r : Taken) (a : Answer) → Good p s → s.account.kept ≡ Some a → TakesPart p s l r
    → (r.answer ≡ a) × (r.feed ≡ s)
to_standing p s l r a good kept h =
    let no = subst (λ (k : Option Answer). ByKept k (λ n at. RefusedBy n at s r) (Where (Fits s.account.total (length l)) (Reads p s l r) (RefusedBy 4 0 s r))) kept (where_good good h) in
    (same_answer r.answer a no.numbered no.placed, no.kept)

same_taken : (x y : Taken) → x.answer ≡ y.answer → x.feed ≡ y.feed → x ≡ y
same_taken x y a f = λ i. record { answer = a i; feed = f i }

-- Either nothing is told against the bytes, or a refusal is.
pub open? : (e : Ending) → Open e ⊎ (Open e → ⊥)
open? (Ok u) = inl tt
open? (Err s) = by s.refusal
  where
    by : (x : Refusal) → OpenAt x ⊎ (OpenAt x → ⊥)
    by Unlisted = inr (λ o. o)
    by Foreign = inr (λ o. o)
    by CutShort = inl tt
    by Forbidden = inr (λ o. o)

open_as : (n : ℕ) (e d : Ending) → d ≡ shifted n e → Open e → Open d
open_as n e d q o = subst⁻¹ Open q (open_on n e o)

shut_as : (n : ℕ) (e d : Ending) → d ≡ shifted n e → (Open e → ⊥) → Open d → ⊥
shut_as n e d q shut o = shut (open_back n e (subst Open q o))

-- A course behind a row is one behind any row that goes on as that one does.
course_on : (p : Part) (a : Answer) (row v : List ℕ) (total : ℕ) (ls : List (List ℕ)) (rs : List Taken) (before : ℕ)
    → ((m : List ℕ) → (n : ℕ) × (end_of (walked p (row ++ m)) ≡ shifted n (end_of (walked p (v ++ m)))))
    → Course p a v total ls rs before → Course p a row total ls rs before
course_on p a row v total ls rs before same (over _ _) = over row _
course_on p a row v total ls rs before same (goes _ _ l ms r qs _ o z at c) =
    let (n, q) = same l in
    goes row total l ms r qs before (open_as n (end_of (walked p (v ++ l))) (end_of (walked p (row ++ l))) q o) z at
    (course_on p a (row ++ l) (v ++ l) (total + length l) ms qs before (λ m. on m) c)
  where
    on : (m : List ℕ) → (n : ℕ) × (end_of (walked p ((row ++ l) ++ m)) ≡ shifted n (end_of (walked p ((v ++ l) ++ m))))
    on m =
        let (n, q) = same (l ++ m) in
        (n, ap (λ (x : List ℕ). end_of (walked p x)) (append_assoc row l m) ∙ q ∙ ap (λ (x : List ℕ). shifted n (end_of (walked p x))) (sym (append_assoc v l m)))
course_on p a row v total ls rs before same (halts _ _ l ms r qs shut all) =
    let (n, q) = same l in
    halts row total l ms r qs (shut_as n (end_of (walked p (v ++ l))) (end_of (walked p (row ++ l))) q shut) all

-- No packets: what is unfinished is a row that is cut short, or none.
no_packets : (p : Part) (x : Taken) → Stays p x
    → ReadsRow p x.feed.panel (first_place x.feed) x.feed.account.total (x.feed.account.total + 0) (bytes_of x.feed.account.unfinished ++ []) x
no_packets p x h = by (bytes_of x.feed.account.unfinished) h.good.cut_off refl
  where
    total : x.feed.account.total ≡ x.feed.account.total + 0
    total = omega arith

    went : (left : List ℕ) → bytes_of x.feed.account.unfinished ≡ left → Goes (x.feed.account.total + 0) left (ends x)
    went left e = record { numbered = h.numbered; placed = h.placed ∙ total; counted = total; unfinished = e; stands = h.free }

    by : (u : List ℕ) → CutOff p u → bytes_of x.feed.account.unfinished ≡ u
        → ReadsRow p x.feed.panel (first_place x.feed) x.feed.account.total (x.feed.account.total + 0) (u ++ []) x
    by [] none e = record { ended = went [] e; known = λ f. refl; kept = other_same p x.feed.panel }
    by (b ∷ l) (some _ _ q) e =
        let w = walked_stops p (b ∷ l) (omega arith) CutShort q in
        row_as p x.feed.panel refl refl (sym (append-nil (b ∷ l))) (record {
          ended = subst⁻¹ (λ (y : Ending). ByEnd y (first_place x.feed) x.feed.account.total (x.feed.account.total + 0) (b ∷ l) (ends x)) w.1 (went (b ∷ l) e);
          known = subst⁻¹ (λ (es : List Event). InTurn (known_of p) (same? p) (range p) (move p) es x.feed.panel x.feed.panel) w.0 (λ f. refl);
          kept = other_same p x.feed.panel;
        })

module _ (b : ℕ) (p : Part) (named : part_of b ≡ Ok p) where
  -- Every packet behind a refusal is answered by it, and changes nothing.
  pub standing_run : (ls : List (List ℕ)) (x : Taken) (rs : List Taken) → Good p x.feed → x.feed.account.kept ≡ Some x.answer
      → Run (part_of b) x.feed ls rs → AllAnswered x.answer rs × (ending x rs ≡ x)
  standing_run [] x [] good kept run = (tt, refl)
  standing_run [] x (r ∷ rs) good kept run = absurd run
  standing_run (l ∷ ls) x [] good kept run = absurd run
  standing_run (l ∷ ls) x (r ∷ rs) good kept run =
      let (same, still) = to_standing p x.feed l r x.answer good kept (takes_by (part_of b) p x.feed l r named run.0) in
      let e : r ≡ x = same_taken r x same still in
      let (all, ends) = standing_run ls r rs (subst⁻¹ (λ (y : Taken). Good p y.feed) e good) (subst⁻¹ (λ (y : Taken). y.feed.account.kept ≡ Some y.answer) e kept) run.1 in
      ((same, subst (λ (y : Taken). AllAnswered y.answer rs) e all), ends ∙ e)

  -- The packets in turn, and the row that they make.
  abbrev pub InOne : Taken → List (List ℕ) → List Taken → Type 0
  InOne x ls rs =
      (before : ℕ) × Course p (ending x rs).answer (bytes_of x.feed.account.unfinished) x.feed.account.total ls rs before
      × ReadsRow p x.feed.panel (first_place x.feed) before (x.feed.account.total + length (together ls)) (bytes_of x.feed.account.unfinished ++ together ls) (ending x rs)

  -- One packet more in front.
  module _ (l : List ℕ) (ls : List (List ℕ)) (x r : Taken) (rs : List Taken) (h : Stays p x) (read : Reads p x.feed l r)
      (run : Run (part_of b) r.feed ls rs) (bytes : AllBytes (bytes_of x.feed.account.unfinished ++ (l ++ together ls))) where
    abbrev s : Feed
    s = x.feed

    abbrev R : List ℕ
    R = bytes_of s.account.unfinished ++ l

    abbrev T : List ℕ
    T = together ls

    in_row : R ++ T ≡ bytes_of s.account.unfinished ++ (l ++ T)
    in_row = append_assoc (bytes_of s.account.unfinished) l T

    all_bytes : AllBytes (R ++ T)
    all_bytes = subst⁻¹ AllBytes in_row bytes

    row_bytes : AllBytes R
    row_bytes = front_bytes R T all_bytes

    sum : s.account.total + length l + length T ≡ s.account.total + length (l ++ T)
    sum = let a = length-append l T in omega (arith, a)

    counts : first_place s + length R ≡ s.account.total + length l
    counts =
        let a = length-append (bytes_of s.account.unfinished) l in
        let c = h.good.counted in
        omega (arith, a, c)

    told : (Open (end_of (walked p R)) → ⊥) → InOne x (l ∷ ls) (r ∷ rs)
    told shut =
        let (good, kept) = good_halted p s.panel (first_place s) s.account.total (s.account.total + length l) R r h.good.in_range row_bytes counts read shut in
        let (all, ends) = standing_run ls r rs good kept run in (
          s.account.total,
          halts (bytes_of s.account.unfinished) s.account.total l ls r rs shut (sym (ap (λ (y : Taken). y.answer) ends), subst⁻¹ (λ (y : Taken). AllAnswered y.answer rs) ends all),
          subst⁻¹ (ReadsRow p s.panel (first_place s) s.account.total (s.account.total + length (l ++ T)) (bytes_of s.account.unfinished ++ (l ++ T))) ends
              (row_as p s.panel refl refl in_row (row_told p s.panel (first_place s) s.account.total (s.account.total + length l) (s.account.total + length (l ++ T)) R T r shut read)),
        )

    module _ (o : Open (end_of (walked p R))) where
      gone : Goes (s.account.total + length l) (left_by (end_of (walked p R)) R) (ends r)
      gone = row_goes p s.panel (first_place s) s.account.total (s.account.total + length l) R r o read

      stay : Stays p r
      stay = record { good = good_again p s.panel (first_place s) s.account.total (s.account.total + length l) R r h.good.in_range row_bytes counts read o; free = gone.stands; numbered = gone.numbered; placed = gone.placed ∙ sym gone.counted }

      left_row : left_by (end_of (walked p R)) R ++ T ≡ bytes_of r.feed.account.unfinished ++ T
      left_row = ap (λ (u : List ℕ). u ++ T) (sym gone.unfinished)

      left_bytes : AllBytes (bytes_of r.feed.account.unfinished ++ T)
      left_bytes = subst AllBytes (left_behind p R T o ∙ left_row) (drop_bytes (stands_at (end_of (walked p R)) R) (R ++ T) all_bytes)

      follows : (m : List ℕ) → (n : ℕ) × (end_of (walked p (R ++ m)) ≡ shifted n (end_of (walked p (bytes_of r.feed.account.unfinished ++ m))))
      follows m = (stands_at (end_of (walked p R)) R, (cut_open p R m o).ends ∙ ap (λ (u : List ℕ). shifted (stands_at (end_of (walked p R)) R) (end_of (walked p (u ++ m)))) (sym gone.unfinished))

      goes_on : InOne r ls rs → InOne x (l ∷ ls) (r ∷ rs)
      goes_on (before, course, row) = (
        before,
        goes (bytes_of s.account.unfinished) s.account.total l ls r rs before o gone.numbered gone.placed
            (course_on p (ending r rs).answer R (bytes_of r.feed.account.unfinished) (s.account.total + length l) ls rs before follows
            (subst (λ (t : ℕ). Course p (ending r rs).answer (bytes_of r.feed.account.unfinished) t ls rs before) gone.counted course)),
        row_as p s.panel refl refl in_row
            (row_on p s.panel r.feed.panel (first_place s) before (s.account.total + length (l ++ T)) R T (ending r rs) read.known read.kept o
            (row_as p r.feed.panel (place_again p s.panel (first_place s) s.account.total (s.account.total + length l) R r h.good.in_range row_bytes counts read o) (ap (λ (t : ℕ). t + length T) gone.counted ∙ sum) (sym left_row) row)),
      )

  pub in_one : (ls : List (List ℕ)) (x : Taken) (rs : List Taken) → Stays p x → Run (part_of b) x.feed ls rs → NoFour rs
      → AllBytes (bytes_of x.feed.account.unfinished ++ together ls) → InOne x ls rs
  in_one [] x [] h run never bytes = (x.feed.account.total, over (bytes_of x.feed.account.unfinished) x.feed.account.total, no_packets p x h)
  in_one [] x (r ∷ rs) h run never bytes = absurd run
  in_one (l ∷ ls) x [] h run never bytes = absurd run
  in_one (l ∷ ls) x (r ∷ rs) h run never bytes =
      let read = to_records p x.feed l r h.good h.free never.0 (takes_by (part_of b) p x.feed l r named run.0) in
      ⊎_elim (λ o. goes_on l ls x r rs h read run.1 bytes o (in_one ls r rs (stay l ls x r rs h read run.1 bytes o) run.1 never.1 (left_bytes l ls x r rs h read run.1 bytes o)))
      (told l ls x r rs h read run.1 bytes) (open? (end_of (walked p (bytes_of x.feed.account.unfinished ++ l))))
