-- What the painter answers where it has a part, a picture within its ranges and room enough: done, with the painting
-- in front. The argument: its tests let such a picture pass, and the stream is as long as the size of the part's
-- painting.
use Rattle.std.specs.Prelude.{ℕ, ◌≤◌, ◌≡◌, refl, List, ◌++◌, length, drop, take, Ok}
use Rattle.std.proofs.Common.{arith, ap, ◌∙◌, length-take-le, take_at, le-leb}
use Rattle.terms.specs.declared.Part.{Part}
use Rattle.terms.specs.declared.Part.TheVariants.{Pt6302, Pt6312, Pt6315}
use Rattle.terms.specs.Event.{recording}
use Rattle.terms.specs.Part.{PartRead, part_of}
use Rattle.segment.specs.declared.Family.{Family}
use Rattle.segment.specs.declared.Family.TheVariants as OfFamily
use Rattle.segment.specs.Family.{sizes}
use Rattle.segment.specs.Laws.{room}
use Rattle.character.specs.Value.{lit}
use Rattle.painting.specs.declared.Picture.{Picture}
use Rattle.painting.specs.declared.SegmentPicture.{SegmentPicture}
use Rattle.painting.specs.Segment as Segment
use Rattle.painting.specs.Character as Character
use Rattle.painting.specs.Picture.{Shaped, PictureInRange, events_for}
use Rattle.painting.specs.Answer.{Painted, segment_size, character_size, answer_for, answer, stream_for, written, output}
use Rattle.painting.specs.Fits.{fits_segment, fits_character}
use Rattle.segment_painter.specs.Five.{five_length, size_is}
use Rattle.character_painter.specs.Seven.{seven_length}

-- The size of a painting of the part, in bytes: 172, 66 or 94.
abbrev pub size_for : Part → ℕ
size_for Pt6302 = character_size
size_for Pt6312 = segment_size OfFamily.Pt6312
size_for Pt6315 = segment_size OfFamily.Pt6315

segment_length : (q : Family) (p : SegmentPicture) → length p.cells ≡ 36 → length (recording (Segment.painting (sizes q) p)) ≡ segment_size q
segment_length q p whole =
    let f = five_length p.mode p.led (Segment.control p) (take (sizes q).cells p.cells) in
    let t = length-take-le (sizes q).cells p.cells (omega (arith, whole, room q)) in
    let s = size_is q in
    omega (arith, f, t, s)

-- The painting is as long as its size.
pub painting_length : (p : Part) (pic : Picture) → Shaped pic → length (recording (events_for p pic)) ≡ size_for p
painting_length Pt6302 pic s =
    let c = pic.character in
    let f = seven_length c.dcram c.cgram c.adram (Character.four_settings c.port c.duty c.digits (lit c.lights)) in
    omega (arith, f, s.dcram, s.cgram, s.adram)
painting_length Pt6312 pic s = segment_length OfFamily.Pt6312 pic.segment s.cells
painting_length Pt6315 pic s = segment_length OfFamily.Pt6315 pic.segment s.cells

answers_done : (p : Part) (pic : Picture) (n : ℕ) → PictureInRange p pic → size_for p ≤ n → answer_for (Ok p) pic n ≡ Ok (record { 0 = size_for p })
answers_done Pt6302 pic n h r = rw (fits_character pic.character h, le-leb character_size n r) refl
answers_done Pt6312 pic n h r = rw (fits_segment (sizes OfFamily.Pt6312) pic.segment h, le-leb 66 n r) refl
answers_done Pt6315 pic n h r = rw (fits_segment (sizes OfFamily.Pt6315) pic.segment h, le-leb 94 n r) refl

streams : (p : Part) (pic : Picture) → stream_for (Ok p) pic ≡ recording (events_for p pic)
streams Pt6302 pic = refl
streams Pt6312 pic = refl
streams Pt6315 pic = refl

-- Where the part byte names the part p.
module _ (b : ℕ) (p : Part) (named : part_of b ≡ Ok p) (pic : Picture) (shaped : Shaped pic) (fits : PictureInRange p pic) (out : List ℕ)
    (enough : size_for p ≤ length out) where
  -- It is painted, and its place is the size.
  pub paint_done : answer b pic (length out) ≡ Ok (record { 0 = size_for p })
  paint_done = ap (λ (q : PartRead). answer_for q pic (length out)) named ∙ answers_done p pic (length out) fits enough

  -- The painting stands in front of the output.
  pub paint_front : take (size_for p) (output b pic out) ≡ recording (events_for p pic)
  paint_front =
      let s : stream_for (part_of b) pic ≡ recording (events_for p pic) = ap (λ (q : PartRead). stream_for q pic) named ∙ streams p pic in
      ap (λ (a : Painted). take (size_for p) (written a (stream_for (part_of b) pic) out)) paint_done
      ∙ ap (λ (l : List ℕ). take (size_for p) (l ++ drop (length l) out)) s
      ∙ take_at (recording (events_for p pic)) (drop (length (recording (events_for p pic))) out) (size_for p) (painting_length p pic shaped)
