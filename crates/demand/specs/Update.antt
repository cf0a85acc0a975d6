-- The bytes of an update, from `update` to a chip and from `update` to `replay` (paper 02, M-102). The argument: where `update` answers number 0, what it wrote
-- in front is the recording of the update's events, which is read back as these events (`updated/ByPart`); they lead every chip that fits to the updated one,
-- and the knowledge to what is known then, which is what `refresh` gives (M-110).
use Rattle.std.specs.Prelude.{ℕ, ◌+◌, ◌<◌, ◌≤◌, ◌≡◌, refl, Bool, true, false, List, [], ◌++◌, map, length, take, drop, eqb, ltb, Ok}
use Rattle.std.proofs.Common.{arith, sym, ap, ◌∙◌, subst, take_at}
use Rattle.std.proofs.Math.Path.{subst⁻¹}
use Rattle.rules.specs.Choice.{whether}
use Rattle.rules.specs.Digit.{digit}
use Rattle.rules.specs.Where.{good, bad}
use Rattle.knowing.specs.Standing.{Standing, Sound, Fits}
use Rattle.knowing.specs.Holds.{holds}
use Rattle.knowing.specs.Bytes.{holds_tests}
use Rattle.terms.specs.declared.Event.{Event}
use Rattle.terms.specs.Event.{recording}
use Rattle.terms.specs.Part.{PartRead, part_of}
use Rattle.terms.specs.declared.Part.{Part}
use Rattle.terms.specs.declared.Part.TheVariants.{Pt6302, Pt6312, Pt6315}
use Rattle.recording.specs.Walk.{walked, events, end_of}
use Rattle.segment.specs.declared.Family.{Family}
use Rattle.segment.specs.declared.Family.TheVariants as OfFamily
use Rattle.segment.specs.Family.{sizes}
use Rattle.segment.specs.Fact as Segment
use Rattle.segment.specs.Laws.{every}
use Rattle.segment_knowledge.specs.View.{kview}
use Rattle.parts.specs.Facts.{Fact, range, move}
use Rattle.painting.specs.declared.Picture.{Picture}
use Rattle.painting.specs.declared.SegmentPicture.{SegmentPicture}
use Rattle.painting.specs.Segment.{painted}
use Rattle.painting.specs.Picture.{painted_by, OneEnd}
use Rattle.painting.specs.Demand.{surely_one}
use Rattle.panel.specs.declared.Panel.{Panel}
use Rattle.panel.specs.View.{known_of, OtherKept}
use Rattle.panel.specs.Unique.{Shaped, same_panel}
use Rattle.replay.specs.declared.replays.Replayed.{Replayed}
use Rattle.answers.specs.Answer as Replay
use Rattle.replay.specs.Replay.{Replays}
use Rattle.whole.specs.Sentence.{IsMemory}
use Rattle.runs.specs.Count.{bytes_in}
use Rattle.updating.specs.declared.Refreshed.{Refreshed}
use Rattle.updating.specs.Answer.{Updated, number, place, count, Sent, stream_of, count_of, UpdatesSegment, UpdatesPart, Updates}
use Rattle.updating.specs.Longest.{most_bytes}
use Rattle.updating.specs.Refresh.{known_for, Learns, KnownThen, Refreshes}
use Rattle.runs.specs.Runs.{wanted}
use Rattle.updated.specs.ByPart.{HasRing, cells_of, cell_in, differs_for, differing_for, starts_for, setting_for, update_for, updated_by, WrittenOn, update_bytes, counts, leads, writes, knows, reads, spelt}
use Rattle.updating.specs.Update.{differing, update_events}
use Rattle.updating.specs.Updated.{updated}
use Rattle.updated.specs.Leads as Leads
use Rattle.demand.specs.Recording.{events_from}
use Rattle.demand.specs.Strobes.{Recorded, recorded_reads, recorded_done}

-- What an update that is answered by number 0 has written: the recording of its events, at the front.
pub record Wrote (p : Part) (k : Panel) (w out : List ℕ) (r : Updated) (after : List ℕ) : Type 0 where
  pub ring : HasRing p
  pub sound : Sound (range p) (known_of p k)
  pub sent : Sent (recording (update_for p (known_of p k) w)) (length (differing_for p (known_of p k) w) + length (starts_for p (known_of p k) w) + whether (setting_for p (known_of p k) w) 1 0) out r after
  pub short : length (recording (update_for p (known_of p k) w)) ≤ 112

of_segment : (q : Family) (k : Panel) (w out : List ℕ) (r : Updated) (after : List ℕ) → number r ≡ 0 → UpdatesSegment q k.segment w out r after
    → Sound (Segment.range (sizes q)) (kview k.segment) × Sent (stream_of q k.segment w) (count_of q k.segment w) out r after
of_segment q k w out r after z (good s (good f h)) = (s, h)
of_segment q k w out r after z (good s (bad f h)) = absurd (omega (arith, h.numbered))
of_segment q k w out r after z (bad s h) = absurd (omega (arith, h.numbered))

wrote : (p : Part) (k : Panel) (w out : List ℕ) (r : Updated) (after : List ℕ) → number r ≡ 0 → UpdatesPart p k w out r after → Wrote p k w out r after
wrote Pt6302 k w out r after z h = absurd (omega (arith, h.numbered))
wrote Pt6312 k w out r after z h =
    let s = of_segment OfFamily.Pt6312 k w out r after z h in
    record { ring = tt; sound = s.0; sent = s.1; short = most_bytes OfFamily.Pt6312 k.segment w }
wrote Pt6315 k w out r after z h =
    let s = of_segment OfFamily.Pt6315 k w out r after z h in
    record { ring = tt; sound = s.0; sent = s.1; short = most_bytes OfFamily.Pt6315 k.segment w }

-- In an output of 112 bytes every update of what is in range is sent, whatever is wanted.
sent_segment : (q : Family) (k : Panel) (w out : List ℕ) (r : Updated) (after : List ℕ) → Sound (Segment.range (sizes q)) (kview k.segment) → 112 ≤ length out
    → UpdatesSegment q k.segment w out r after → number r ≡ 0
sent_segment q k w out r after s l (good t (good f h)) = h.numbered
sent_segment q k w out r after s l (good t (bad f h)) = absurd (f (let m = most_bytes q k.segment w in omega arith))
sent_segment q k w out r after s l (bad t h) = absurd (t s)

sent_part : (p : Part) → HasRing p → (k : Panel) (w out : List ℕ) (r : Updated) (after : List ℕ) → Sound (range p) (known_of p k) → 112 ≤ length out
    → UpdatesPart p k w out r after → number r ≡ 0
sent_part Pt6302 x k w out r after s l h = absurd x
sent_part Pt6312 x k w out r after s l h = sent_segment OfFamily.Pt6312 k w out r after s l h
sent_part Pt6315 x k w out r after s l h = sent_segment OfFamily.Pt6315 k w out r after s l h

-- Where nothing differs, no bytes are sent, and every output has room for them.
nothing_segment : (q : Family) (k : Panel) (w out : List ℕ) (r : Updated) (after : List ℕ) → Sound (Segment.range (sizes q)) (kview k.segment)
    → differing (sizes q) (kview k.segment) w ≡ [] → UpdatesSegment q k.segment w out r after → (number r ≡ 0) × (place r ≡ 0) × (count r ≡ 0) × (after ≡ out)
nothing_segment q k w out r after s e h = go h
  where
    none : update_events (sizes q) (kview k.segment) w ≡ []
    none = Leads.nothing_sent (sizes q) (kview k.segment) w (ap (λ (l : List ℕ). eqb (length l) 0) e)

    empty : stream_of q k.segment w ≡ []
    empty = ap recording none

    go : UpdatesSegment q k.segment w out r after → (number r ≡ 0) × (place r ≡ 0) × (count r ≡ 0) × (after ≡ out)
    go (good t (good f g)) = (
      g.numbered,
      g.placed ∙ ap length empty,
      g.counted ∙ sym (update_bytes q (kview k.segment) w) ∙ ap bytes_in none,
      g.wrote ∙ ap (λ (l : List ℕ). l ++ drop (length l) out) empty,
    )
    go (good t (bad f g)) = absurd (f (omega (arith, ap length empty)))
    go (bad t g) = absurd (t s)

nothing_part : (p : Part) → HasRing p → (k : Panel) (w out : List ℕ) (r : Updated) (after : List ℕ) → Sound (range p) (known_of p k) → differing_for p (known_of p k) w ≡ []
    → UpdatesPart p k w out r after → (number r ≡ 0) × (place r ≡ 0) × (count r ≡ 0) × (after ≡ out)
nothing_part Pt6302 x k w out r after s e h = absurd x
nothing_part Pt6312 x k w out r after s e h = nothing_segment OfFamily.Pt6312 k w out r after s e h
nothing_part Pt6315 x k w out r after s e h = nothing_segment OfFamily.Pt6315 k w out r after s e h

by_part : (part : PartRead) (p : Part) → part ≡ Ok p → (k : Panel) (w out : List ℕ) (r : Updated) (after : List ℕ) → Updates part k w out r after → UpdatesPart p k w out r after
by_part part p e k w out r after h = subst (λ (x : PartRead). Updates x k w out r after) e h

-- A part byte that names a part; the answer r and the output afterwards are what `update` promises.
module _ (b : ℕ) (p : Part) (named : part_of b ≡ Ok p) (k : Panel) (w out : List ℕ) (r : Updated) (after : List ℕ) (met : Updates (part_of b) k w out r after) where
  -- That it is sent can always be had: for PT6312 and PT6315, from any knowledge in range, with 112 bytes.
  pub update_answers : HasRing p → Sound (range p) (known_of p k) → 112 ≤ length out → number r ≡ 0
  update_answers x s l = sent_part p x k w out r after s l (by_part (part_of b) p named k w out r after met)

  -- "Nothing to change emits nothing": number, place and count are 0 and the output is as it was, whatever is known of the setting and however small the output
  -- is.
  pub update_nothing : HasRing p → Sound (range p) (known_of p k) → differing_for p (known_of p k) w ≡ [] → (number r ≡ 0) × (place r ≡ 0) × (count r ≡ 0) × (after ≡ out)
  update_nothing x s e = nothing_part p x k w out r after s e (by_part (part_of b) p named k w out r after met)

  module _ (zero : number r ≡ 0) where
    -- The bytes that `update` wrote: those before its place.
    abbrev pub stream : List ℕ
    stream = take (place r) after

    done : Wrote p k w out r after
    done = wrote p k w out r after zero (by_part (part_of b) p named k w out r after met)

    stream_is : stream ≡ recording (update_for p (known_of p k) w)
    stream_is = ap (take (place r)) done.sent.wrote ∙ take_at (recording (update_for p (known_of p k) w)) _ (place r) (sym done.sent.placed)

    -- They are the recording of the update's events.
    pub update_recorded : Recorded p (update_for p (known_of p k) w) stream
    update_recorded = let few = done.short in record { is = stream_is; accepted = reads p done.ring (known_of p k) w; short = omega arith }

    read : (end_of (walked p stream) ≡ Ok tt) × (events (walked p stream) ≡ update_for p (known_of p k) w)
    read = recorded_reads p (update_for p (known_of p k) w) stream update_recorded

    -- "For every chip that fits, the memory ends as after a full painting": the bytes are records to their end, and their events lead every chip that fits, in
    -- whatever state, to exactly one, the updated one.
    pub update_brings : (end_of (walked p stream) ≡ Ok tt)
        × ((c : Fact p → ℕ) → Fits (known_of p k) c → OneEnd (range p) (map (move p) (events_from p 0 stream)) c (updated_by p (known_of p k) w c))
    update_brings = (
      read.0,
      λ c f. subst⁻¹ (λ (es : List Event). OneEnd (range p) (map (move p) es) c (updated_by p (known_of p k) w c)) read.1
          (surely_one (range p) (map (move p) (update_for p (known_of p k) w)) c (updated_by p (known_of p k) w c) (leads p done.ring (known_of p k) w c f)),
    )

    -- "No equal, known cell is written": over the stream's events, the cells that are written are exactly those that differ.
    pub update_writes : (c : Fact p → ℕ) → Fits (known_of p k) c → (i : ℕ)
        → (WrittenOn p (events_from p 0 stream) c i → (i < cells_of p) × (differs_for p (known_of p k) w i ≡ true))
        × (i < cells_of p → differs_for p (known_of p k) w i ≡ true → WrittenOn p (events_from p 0 stream) c i)
    update_writes c f i =
        subst⁻¹ (λ (es : List Event). (WrittenOn p es c i → (i < cells_of p) × (differs_for p (known_of p k) w i ≡ true)) × (i < cells_of p → differs_for p (known_of p k) w i ≡ true → WrittenOn p es c i))
        read.1 (writes p done.ring (known_of p k) w c f i)

    -- "The count of wire bytes: cells plus runs, plus one for that 40H if it is sent": the number of 03 records of the stream.
    pub update_counts : (count r ≡ length (differing_for p (known_of p k) w) + length (starts_for p (known_of p k) w) + whether (setting_for p (known_of p k) w) 1 0)
        × (count r ≡ bytes_in (events_from p 0 stream))
    update_counts = (done.sent.counted, done.sent.counted ∙ sym (ap bytes_in read.1 ∙ counts p done.ring (known_of p k) w))

    -- The bytes that `update` wrote, replayed from what it went by: accepted, and then known is what `known_for` says, every wanted cell among it.
    pub update_replays : (q : Replayed) → Replays (part_of b) k stream 0 q
        → (Replay.number q.answer ≡ 0) × (Replay.place q.answer ≡ place r)
        × ((f : Fact p) → known_of p q.panel f ≡ known_for p (known_of p k) w f) × OtherKept p k q.panel
    update_replays q again =
        let d = recorded_done p (update_for p (known_of p k) w) stream update_recorded b named k done.sound q again in (
          d.numbered,
          d.placed ∙ ap length stream_is ∙ sym done.sent.placed,
          λ f. d.known f ∙ knows p done.ring (known_of p k) w f,
          d.kept,
        )

    -- So every cell is then known to hold its wanted byte.
    pub update_holds : (x : HasRing p) (q : Replayed) → Replays (part_of b) k stream 0 q → (i : ℕ) → i < cells_of p
        → holds 8 (λ j. known_of p q.panel (cell_in p x i j)) (wanted w i) ≡ true
    update_holds x q again i h =
        (holds_tests 8 _ (wanted w i)).back
        (λ j l. (update_replays q again).2 (cell_in p x i j) ∙ spelt p x (known_of p k) w i h j l)

-- The answer r of `refresh` and the output afterwards, where the update was sent.
module _ (b : ℕ) (p : Part) (named : part_of b ≡ Ok p) (k : Panel) (w out : List ℕ) (r : Refreshed) (after : List ℕ) (met : Refreshes (part_of b) k w out r after)
    (zero : number r.answer ≡ 0) where
  learns : Learns p k w r.panel
  learns = subst (λ (n : ℕ). KnownThen (Ok p) n k w r.panel) zero (subst (λ (x : PartRead). KnownThen x (number r.answer) k w r.panel) named met.1)

  -- Every cell is then known to hold its wanted byte.
  pub refresh_holds : (x : HasRing p) (i : ℕ) → i < cells_of p → holds 8 (λ j. known_of p r.panel (cell_in p x i j)) (wanted w i) ≡ true
  refresh_holds x i h = (holds_tests 8 _ (wanted w i)).back (λ j l. learns.0 (cell_in p x i j) ∙ spelt p x (known_of p k) w i h j l)

  -- For any replay q of the bytes that it wrote, from the panel that it was handed:
  module _ (q : Replayed) (again : Replays (part_of b) k (take (place r.answer) after) 0 q) where
    -- what `refresh` says is known is what the replay tells,
    pub refresh_as_replayed : (f : Fact p) → known_of p q.panel f ≡ known_of p r.panel f
    refresh_as_replayed f = (update_replays b p named k w out r.answer after met.0 zero q again).2 f ∙ sym (learns.0 f)

    -- and so, of panels whose rows are as long as their arrays, it is that panel.
    pub refresh_is_replay : Shaped q.panel → Shaped r.panel → q.panel ≡ r.panel
    refresh_is_replay sq sr =
        same_panel p k q.panel r.panel sq sr refresh_as_replayed (update_replays b p named k w out r.answer after met.0 zero q again).3 learns.1

-- What is memory is no setting, input or position.
no_setting : Segment.setting ≡ Segment.memory → ⊥
no_setting e = let z : ◌≡◌ {A = ℕ} 0 1 = cc in omega arith

no_input : Segment.input ≡ Segment.memory → ⊥
no_input e = let z : ◌≡◌ {A = ℕ} 0 1 = cc in omega arith

no_transfer : Segment.transfer ≡ Segment.memory → ⊥
no_transfer e = let z : ◌≡◌ {A = ℕ} 0 1 = cc in omega arith

-- A bit past the LED's nibble is as it was.
past_nibble : (t : Bool) (v u : ℕ) → whether t Segment.setting Segment.memory ≡ Segment.memory → u ≡ whether t v u
past_nibble true v u m = absurd (no_setting m)
past_nibble false v u m = refl

painted_alike : (q : Family) (k : Segment.Fact → Standing) (pic : SegmentPicture) (c : Segment.Fact → ℕ) (f : Segment.Fact) → Segment.sort f ≡ Segment.memory
    → updated (sizes q) k pic.cells c f ≡ painted (sizes q) pic c f
painted_alike q k pic c =
    every (λ (f : Segment.Fact). Segment.sort f ≡ Segment.memory → updated (sizes q) k pic.cells c f ≡ painted (sizes q) pic c f)
    (λ i j m. Leads.as_painted q k pic c i j)
    (λ m. absurd (no_setting m)) (λ m. absurd (no_setting m)) (λ m. absurd (no_setting m)) (λ m. absurd (no_setting m)) (λ m. absurd (no_setting m))
    (λ m. absurd (no_setting m)) (λ j m. past_nibble (ltb j 4) (digit j pic.led) (c (Segment.led j)) m) (λ i m. absurd (no_input m)) (λ m. absurd (no_input m)) (λ m. absurd (no_setting m))
    (λ m. absurd (no_transfer m))

-- The memory of the updated chip is that of the painted one, for any picture that has these cells.
pub update_as_painted : (p : Part) → HasRing p → (k : Panel) (pic : Picture) (c : Fact p → ℕ) (f : Fact p) → IsMemory p f
    → updated_by p (known_of p k) pic.segment.cells c f ≡ painted_by p pic c f
update_as_painted Pt6302 x k pic c f m = absurd x
update_as_painted Pt6312 x k pic c f m = painted_alike OfFamily.Pt6312 (known_of Pt6312 k) pic.segment c f m
update_as_painted Pt6315 x k pic c f m = painted_alike OfFamily.Pt6315 (known_of Pt6315 k) pic.segment c f m
