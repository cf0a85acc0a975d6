-- What is recorded is read back. The argument: the record at the front of a recording is its first event, whole and
-- allowed; what stands behind it is the recording of the other events. A painting is made of falls, bytes and rises,
-- which every part has and whose bodies are free, so it is always accepted.
use Rattle.std.specs.Prelude.{ℕ, zero, suc, ◌+◌, ◌≤◌, ◌≡◌, refl, List, [], ◌∷◌, ◌++◌, map, length, drop, take, Ok}
use Rattle.std.proofs.Common.{arith, ap, length-append, drop_at}
use Rattle.terms.specs.declared.Event.{Event}
use Rattle.terms.specs.declared.Event.TheVariants.{ByteIn, Rises}
use Rattle.terms.specs.declared.Part.{Part}
use Rattle.terms.specs.Event.{recorded, recording, strobe}
use Rattle.recording.specs.Record.{front, record_of}
use Rattle.recording.specs.Walk.{Walk, next, step, walk, walked, events, end_of}
use Rattle.recording.specs.Tests.{record_fits}
use Rattle.recording.specs.Append.{front_append}
use Rattle.whole.specs.Usual.{Each}
use Rattle.segment.specs.declared.Sizes.{Sizes}
use Rattle.character.specs.Value.{lit}
use Rattle.painting.specs.declared.SegmentPicture.{SegmentPicture}
use Rattle.painting.specs.declared.CharacterPicture.{CharacterPicture}
use Rattle.painting.specs.Segment as Segment
use Rattle.painting.specs.Character as Character

-- A recording can carry the event: its record is read as the event again.
abbrev pub Recordable : Part → Event → Type 0
Recordable p e = front p (recorded e) ≡ Ok (record_of e (length (recorded e)))

-- The record at the front is the first event, whatever stands behind it.
front_recorded : (p : Part) (e : Event) (l : List ℕ) → Recordable p e → front p (recorded e ++ l) ≡ Ok (record_of e (length (recorded e)))
front_recorded p e l h =
    front_append p (recorded e) l (Ok (record_of e (length (recorded e)))) tt (record_fits p (recorded e) e (length (recorded e)) h).0 h

-- A walk goes by the record at the front, with a step left for it.
walk_next : (n : ℕ) (p : Part) (at : ℕ) (l : List ℕ) (e : Event) (m : ℕ) → length l ≤ n → front p l ≡ Ok (record_of e m)
    → (k : ℕ) × (n ≡ suc k) × (walk n p at l ≡ next at e (walk k p (at + m) (drop m l)))
walk_next zero p at l e m h q = absurd (omega (arith, record_fits p l e m q))
walk_next (suc n) p at [] e m h q = absurd (omega (arith, record_fits p [] e m q))
walk_next (suc n) p at (b ∷ l) e m h q = (n, refl, ap (step at b (λ k. walk n p (at + k) (drop k (b ∷ l)))) q)

-- The walk over a recording of es reads each of them, and is done.
abbrev Reads : List Event → Walk → Type 0
Reads es w = (end_of w ≡ Ok tt) × (events w ≡ es)

reads : (es : List Event) (n : ℕ) (p : Part) (at : ℕ) → Each (Recordable p) es → length (recording es) ≤ n → Reads es (walk n p at (recording es))
reads [] zero p at h l = (refl, refl)
reads [] (suc n) p at h l = (refl, refl)
reads (e ∷ es) n p at h l =
    let (k, z, w) = walk_next n p at (recorded e ++ recording es) e (length (recorded e)) l (front_recorded p e (recording es) h.0) in
    let d = drop_at (recorded e) (recording es) (length (recorded e)) refl in
    let b = record_fits p (recorded e ++ recording es) e (length (recorded e)) (front_recorded p e (recording es) h.0) in
    let r = reads es k p (at + length (recorded e)) h.1 (omega (arith, length-append (recorded e) (recording es))) in
    rw (w, d) (r.0, ap (λ (x : List Event). e ∷ x) r.1)

-- A recording of es is accepted by the part p, and these are its events.
abbrev pub Accepted : Part → List Event → Type 0
Accepted p es = (end_of (walked p (recording es)) ≡ Ok tt) × (events (walked p (recording es)) ≡ es)

pub accepted : (p : Part) (es : List Event) → Each (Recordable p) es → Accepted p es
accepted p es h = reads es (length (recording es)) p 0 h (omega arith)

-- Every part has each of the events, with any body.
pub record Free (es : List Event) : Type 0 where
  pub each : (p : Part) → Each (Recordable p) es

-- A strobe is free, and so is what follows it.
pub strobed : {es : List Event} (bs : List ℕ) → Free es → Free (strobe bs ++ es)
strobed {es} bs h = record { each = λ p. (refl, bytes p bs) }
  where
    bytes : (p : Part) (l : List ℕ) → Each (Recordable p) ((map ByteIn l ++ (Rises ∷ [])) ++ es)
    bytes p [] = (refl, h.each p)
    bytes p (b ∷ l) = (refl, bytes p l)

pub none : Free []
none = record { each = λ p. tt }

-- A painting is accepted, whichever part reads it.
pub segment_accepted : (p : Part) (s : Sizes) (pic : SegmentPicture) → Accepted p (Segment.painting s pic)
segment_accepted p s pic = accepted p (Segment.painting s pic) (five.each p)
  where
    five : Free (Segment.painting s pic)
    five =
        strobed (pic.mode ∷ []) (strobed (0x40 ∷ []) (strobed (0xC0 ∷ take s.cells pic.cells) (strobed (0x41 ∷ pic.led ∷ []) (strobed (Segment.control pic ∷ []) none))))

pub character_accepted : (p : Part) (pic : CharacterPicture) → Accepted p (Character.painting pic)
character_accepted p pic = accepted p (Character.painting pic) (seven.each p)
  where
    seven : Free (Character.painting pic)
    seven =
        strobed (0x10 ∷ pic.dcram) (strobed (0x20 ∷ pic.cgram) (strobed (0x30 ∷ pic.adram)
        (strobed ((0x40 + pic.port) ∷ []) (strobed ((0x50 + pic.duty) ∷ []) (strobed ((0x60 + pic.digits) ∷ []) (strobed ((0x70 + lit pic.lights) ∷ []) none))))))
