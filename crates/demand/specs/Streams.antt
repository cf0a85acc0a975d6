-- A stream from the update or the painter, replayed from any good knowledge of that part, is always accepted (paper 02, M-110). The argument: where either
-- answers number 0, the bytes before its place are the recording of strobes, and no more than a recording may have; so no replay refuses them from a knowledge in
-- range, be it the one that the update was made from or another (`Strobes.recorded_done`).
use Rattle.std.specs.Prelude.{ℕ, ◌≡◌, List, length, take, Ok}
use Rattle.std.proofs.Common.{sym, ap, ◌∙◌}
use Rattle.knowing.specs.Standing.{Sound}
use Rattle.terms.specs.declared.Event.{Event}
use Rattle.terms.specs.Part.{part_of}
use Rattle.terms.specs.declared.Part.{Part}
use Rattle.parts.specs.Facts.{range}
use Rattle.painting.specs.declared.Picture.{Picture}
use Rattle.painting.specs.Picture.{Shaped}
use Rattle.painting.specs.Answer as Paint
use Rattle.painting.specs.Answer.{Painted}
use Rattle.panel.specs.declared.Panel.{Panel}
use Rattle.panel.specs.View.{known_of}
use Rattle.replay.specs.declared.replays.Replayed.{Replayed}
use Rattle.answers.specs.Answer as Replay
use Rattle.replay.specs.Replay.{Replays}
use Rattle.updating.specs.declared.Refreshed.{Refreshed}
use Rattle.updating.specs.Answer as Update
use Rattle.updating.specs.Answer.{Updated}
use Rattle.updating.specs.Refresh.{Refreshes}
use Rattle.demand.specs.Strobes.{Recorded, recorded_done}
use Rattle.demand.specs.Painting.{paint_only, paint_recorded}
use Rattle.demand.specs.Update.{update_recorded}

-- A stream that `update` or `paint` wrote for the part byte b, from whatever they were handed, with a picture's lists as long as the arrays of their types: the
-- bytes before the place of an answer with number 0. There are such streams for each part that the call serves: `Update.update_answers` and
-- `Painting.paint_answers`.
pub data Written (b : ℕ) : List ℕ → Type 0 where
  by_update : (k : Panel) (w out : List ℕ) (r : Updated) (after : List ℕ) → Update.Updates (part_of b) k w out r after → Update.number r ≡ 0
      → Written b (take (Update.place r) after)
  by_paint : (pic : Picture) → Shaped pic → (out : List ℕ) (r : Painted) (after : List ℕ) → r ≡ Paint.answer b pic (length out) → after ≡ Paint.output b pic out
      → Paint.number r ≡ 0 → Written b (take (Paint.place r).0 after)

-- What `refresh` wrote is such a stream, too.
pub refresh_written : (b : ℕ) (k : Panel) (w out : List ℕ) (r : Refreshed) (after : List ℕ) → Refreshes (part_of b) k w out r after → Update.number r.answer ≡ 0
    → Written b (take (Update.place r.answer) after)
refresh_written b k w out r after met zero = by_update k w out r.answer after met.0 zero

written_recorded : (b : ℕ) (p : Part) → part_of b ≡ Ok p → {l : List ℕ} → Written b l → (es : List Event) × Recorded p es l
written_recorded b p named (by_update k w out r after met zero) = (_, update_recorded b p named k w out r after met zero)
written_recorded b p named (by_paint pic shaped out r after answers wrote zero) =
    let (fits, enough) = paint_only b p named pic (length out) (ap Paint.number (sym answers) ∙ zero) in
    (_, paint_recorded b p named pic shaped fits out enough r after answers wrote)

-- "Replayed from any good knowledge of that part, is always accepted": number 0, at its length.
pub stream_accepted : (b : ℕ) (p : Part) → part_of b ≡ Ok p → (l : List ℕ) → Written b l → (k : Panel) → Sound (range p) (known_of p k)
    → (q : Replayed) → Replays (part_of b) k l 0 q → (Replay.number q.answer ≡ 0) × (Replay.place q.answer ≡ length l)
stream_accepted b p named l stream k sound q met =
    let (es, recorded) = written_recorded b p named stream in
    let d = recorded_done p es l recorded b named k sound q met in
    (d.numbered, d.placed)
