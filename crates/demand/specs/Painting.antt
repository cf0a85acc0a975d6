-- The painted bytes, from `paint` to a chip and from `paint` to `replay`. The argument: what the painter wrote in
-- front is the recording of the painting's events (`painter/ByPart`), which is read back as these events
-- (`repainted/ByPart`); they lead every chip to the painted one (`painting/Demand`), and every knowledge to the
-- repainted one.
use Rattle.std.specs.Prelude.{ℕ, ◌≤◌, ◌≡◌, refl, Bool, true, false, List, map, length, take, leb, Ok, Err}
use Rattle.std.proofs.Common.{arith, sym, ap, ◌∙◌, leb-true}
use Rattle.std.proofs.Math.Path.{subst⁻¹}
use Rattle.rules.specs.Choice.{whether}
use Rattle.knowing.specs.Standing.{Sound}
use Rattle.terms.specs.declared.Event.{Event}
use Rattle.terms.specs.Event.{recording}
use Rattle.terms.specs.Part.{PartRead, part_of}
use Rattle.terms.specs.declared.Part.{Part}
use Rattle.terms.specs.declared.Part.TheVariants.{Pt6302, Pt6312, Pt6315}
use Rattle.recording.specs.Walk.{walked, events, end_of}
use Rattle.segment.specs.declared.Family.TheVariants as OfFamily
use Rattle.segment.specs.Family.{sizes}
use Rattle.parts.specs.Facts.{Fact, range, move}
use Rattle.painting.specs.declared.Picture.{Picture}
use Rattle.painting.specs.Picture.{Shaped, PictureInRange, events_for, painted_by, OneEnd}
use Rattle.painting.specs.Demand.{painting_paints}
use Rattle.painting.specs.declared.NotPainted.TheVariants as NotPainted
use Rattle.painting.specs.Answer as Paint
use Rattle.painting.specs.Answer.{Painted}
use Rattle.painting.specs.Fits.{segment_fits, character_fits, segment_fits_lem, character_fits_lem}
use Rattle.painter.specs.ByPart.{size_for, painting_length, paint_done, paint_front}
use Rattle.panel.specs.declared.Panel.{Panel}
use Rattle.panel.specs.View.{known_of, OtherKept}
use Rattle.replay.specs.declared.replays.Replayed.{Replayed}
use Rattle.answers.specs.Answer as Replay
use Rattle.replay.specs.Replay.{Replays}
use Rattle.repainted.specs.Repainted.{repainted_by}
use Rattle.repainted.specs.ByPart.{painting_accepted, painting_repaints}
use Rattle.demand.specs.Recording.{events_from}
use Rattle.demand.specs.Strobes.{Recorded, recorded_reads, recorded_done}

-- No painting is longer than a recording may be.
size_allowed : (p : Part) → size_for p ≤ 65535
size_allowed Pt6302 = omega arith
size_allowed Pt6312 = omega arith
size_allowed Pt6315 = omega arith

-- It is painted only where the picture is in its ranges and there is room.
judged_only : (fits : Bool) (size room : ℕ) → Paint.number (Paint.judged fits size room) ≡ 0 → (fits ≡ true) × (size ≤ room)
judged_only true size room e = (refl, by (leb size room) refl e)
  where
    by : (b : Bool) → leb size room ≡ b → Paint.number (whether b (Ok (record { 0 = size })) (Err (NotPainted.TooSmall (record { 0 = 0 })))) ≡ 0 → size ≤ room
    by true l z = leb-true size room l
    by false l z = absurd (omega arith)
judged_only false size room e = absurd (omega arith)

answered_only : (p : Part) (pic : Picture) (room : ℕ) → Paint.number (Paint.answer_for (Ok p) pic room) ≡ 0 → PictureInRange p pic × (size_for p ≤ room)
answered_only Pt6302 pic room e =
    let (fits, enough) = judged_only (character_fits pic.character) (size_for Pt6302) room e in
    (character_fits_lem pic.character fits, enough)
answered_only Pt6312 pic room e =
    let (fits, enough) = judged_only (segment_fits (sizes OfFamily.Pt6312) pic.segment) (size_for Pt6312) room e in
    (segment_fits_lem (sizes OfFamily.Pt6312) pic.segment fits, enough)
answered_only Pt6315 pic room e =
    let (fits, enough) = judged_only (segment_fits (sizes OfFamily.Pt6315) pic.segment) (size_for Pt6315) room e in
    (segment_fits_lem (sizes OfFamily.Pt6315) pic.segment fits, enough)

pub paint_only : (b : ℕ) (p : Part) → part_of b ≡ Ok p → (pic : Picture) (room : ℕ) → Paint.number (Paint.answer b pic room) ≡ 0
    → PictureInRange p pic × (size_for p ≤ room)
paint_only b p named pic room e = answered_only p pic room (ap (λ (x : PartRead). Paint.number (Paint.answer_for x pic room)) (sym named) ∙ e)

-- A part byte that names a part, a picture within its ranges, and room enough; the answer r and the output afterwards
-- are what `paint` promises.
module _ (b : ℕ) (p : Part) (named : part_of b ≡ Ok p) (pic : Picture) (shaped : Shaped pic)
    (fits : PictureInRange p pic) (out : List ℕ) (enough : size_for p ≤ length out) (r : Painted) (after : List ℕ)
    (answers : r ≡ Paint.answer b pic (length out)) (wrote : after ≡ Paint.output b pic out) where
  -- The bytes that `paint` wrote: those before its place.
  abbrev pub stream : List ℕ
  stream = take (Paint.place r).0 after

  is_done : r ≡ Ok (record { 0 = size_for p })
  is_done = answers ∙ paint_done b p named pic shaped fits out enough

  -- It is painted: number 0, and the place is the size of the part's painting.
  pub paint_answers : (Paint.number r ≡ 0) × ((Paint.place r).0 ≡ size_for p)
  paint_answers = (ap Paint.number is_done, ap (λ (a : Painted). (Paint.place a).0) is_done)

  stream_is : stream ≡ recording (events_for p pic)
  stream_is =
      ap (λ (n : ℕ). take n after) paint_answers.1 ∙ ap (λ (l : List ℕ). take (size_for p) l) wrote ∙ paint_front b p named pic shaped fits out enough

  -- They are the recording of the painting's events.
  pub paint_recorded : Recorded p (events_for p pic) stream
  paint_recorded =
      let long = painting_length p pic shaped in
      let allowed = size_allowed p in
      record { is = stream_is; accepted = painting_accepted p pic; short = omega arith }

  reads : (end_of (walked p stream) ≡ Ok tt) × (events (walked p stream) ≡ events_for p pic)
  reads = recorded_reads p (events_for p pic) stream paint_recorded

  -- "The stream that paints a picture, fed to that part in any state, leaves exactly that memory and those settings":
  -- the bytes that `paint` wrote are records to their end, and their events lead any chip to exactly one, the painted
  -- one.
  pub paint_paints : (end_of (walked p stream) ≡ Ok tt)
      × ((c : Fact p → ℕ) → OneEnd (range p) (map (move p) (events_from p 0 stream)) c (painted_by p pic c))
  paint_paints = (
    reads.0,
    λ c. subst⁻¹ (λ (es : List Event). OneEnd (range p) (map (move p) es) c (painted_by p pic c)) reads.1 (painting_paints p pic shaped fits c),
  )

  -- The bytes that `paint` wrote, replayed from any knowledge in range: accepted, and every fact that a painting settles
  -- is known, as `repainted_by` says; the others are known as they were.
  pub paint_replays : (k : Panel) (q : Replayed) → Sound (range p) (known_of p k) → Replays (part_of b) k stream 0 q
      → (Replay.number q.answer ≡ 0) × (Replay.place q.answer ≡ size_for p)
      × ((f : Fact p) → known_of p q.panel f ≡ repainted_by p pic (known_of p k) f) × OtherKept p k q.panel
  paint_replays k q sound met =
      let d = recorded_done p (events_for p pic) stream paint_recorded b named k sound q met in (
        d.numbered,
        d.placed ∙ ap length stream_is ∙ painting_length p pic shaped,
        λ f. d.known f ∙ painting_repaints p pic shaped fits (known_of p k) f,
        d.kept,
      )
