-- The five strobes of PT6312 and PT6315: over as many cells as the part has they are the painting, and how long they are.
use Rattle.std.specs.Prelude.{ℕ, ◌+◌, ◌*◌, ◌≡◌, refl, List, [], ◌∷◌, ◌++◌, length, take}
use Rattle.std.proofs.Common.{arith, ap, subst, length-append}
use Rattle.terms.specs.declared.Event.{Event}
use Rattle.terms.specs.Event.{recording, recording_append, strobe}
use Rattle.segment.specs.declared.Family.{Family}
use Rattle.segment.specs.declared.Family.TheVariants.{Pt6312, Pt6315}
use Rattle.segment.specs.declared.Sizes.{Sizes}
use Rattle.segment.specs.Family.{sizes}
use Rattle.writing.specs.declared.Writer.{Writer}
use Rattle.writing.specs.Wrote.{Wrote}
use Rattle.painting.specs.declared.SegmentPicture.{SegmentPicture}
use Rattle.painting.specs.Segment.{five_strobes, control}
use Rattle.painting.specs.Answer.{segment_size, segment_stream}
use Rattle.strobes.specs.Stream.{strobe_length}

pub five_length : (m lamps k : ℕ) (cells : List ℕ) → length (recording (five_strobes m cells lamps k)) ≡ 22 + 2 * length cells
five_length m lamps k cells =
    let rest : List Event = strobe (0x41 ∷ lamps ∷ []) ++ strobe (k ∷ []) in
    let e = ap length (recording_append (strobe (0xC0 ∷ cells)) rest) in
    let n = length-append (recording (strobe (0xC0 ∷ cells))) (recording rest) in
    let l = strobe_length 0xC0 cells in
    omega arith

-- The size of a painting of PT6312 or PT6315, over the number of its cells.
pub size_is : (q : Family) → segment_size q ≡ 22 + 2 * (sizes q).cells
unfolding sizes
size_is Pt6312 = refl
size_is Pt6315 = refl

-- The strobes over as many cells as the part has are its stream.
pub five_written : {u v : Writer} (q : Family) (p : SegmentPicture) (z : Sizes) (k : ℕ) → z ≡ sizes q → k ≡ control p
    → Wrote u (recording (five_strobes p.mode (take z.cells p.cells) p.led k)) v → Wrote u (segment_stream q p) v
five_written {u} {v} q p z k e f h =
    subst (λ (m : ℕ). Wrote u (recording (five_strobes p.mode (take (sizes q).cells p.cells) p.led m)) v) f
    (subst (λ (s : Sizes). Wrote u (recording (five_strobes p.mode (take s.cells p.cells) p.led k)) v) e h)
