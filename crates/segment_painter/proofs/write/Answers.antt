-- `segment_painter::write` meets its contract: the five strobes over as many cells as the part has are the stream, and stand at the front.
-- Assumes nothing.
use Prim.Native.Nat.{◌≤◌}
use native.Mathlib.Omega.{arith}
use mathlib.Core.Path.{◌≡◌, ap}
use lib.ListN.{length, take}
use lib.Seq.{length-take-le}
use borrow.Author.Rules.{rules}
use Rattle.writing.specs.Laws.{writes_front}
use Rattle.writing.specs.Wrote.{wrote_back}
use Rattle.segment.specs.declared.Sizes.{Sizes}
use Rattle.segment.specs.Family.{sizes}
use Rattle.segment.specs.Laws.{room}
use Rattle.painting.specs.Segment.{control}
use Rattle.painting.specs.Answer.{segment_stream}
use Rattle.segment_painter.specs.Five.{size_is, five_length, five_written}
use Rattle.segment_painter.proofs.write.Goals as goal

pub write_five-requires : goal.write_five-requires
write_five-requires c =
    let q = c.args.family in
    let r : c.sizes-sizes.result.cells ≡ (sizes q).cells = ap (λ (z : Sizes). z.cells) c.sizes-sizes.ensures in
    omega (arith, (room q).0)

pub returns : goal.returns
returns c =
    let a = c.args in
    let p = a.picture in
    let n = (sizes a.family).cells in
    let w = c.write_five.ensures in
    let l : length (take n p.cells) ≡ n = length-take-le n p.cells (omega (arith, w.1, (room a.family).0)) in
    let z : length (segment_stream a.family p) ≤ length a.out.now =
    omega (arith, five_length p.mode p.led (control p) (take n p.cells), size_is a.family, c.requires.1) in
    (writes_front z (wrote_back (five_written a.family p _ _ c.sizes-sizes.ensures c.control_of-control.ensures w.0) (search rules))).1
