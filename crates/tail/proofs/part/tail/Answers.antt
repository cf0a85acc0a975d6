-- `tail::part::tail` meets its contract: the part that was found lies within the recording.
-- Assumes nothing.
use native.Mathlib.Omega.{arith}
use Rattle.terms.specs.Part.{part_of}
use Rattle.tail.specs.Laws.{found_inside}
use Rattle.tail.proofs.part.tail.Goals as goal

pub slice_bounds-result-start : goal.slice_bounds-result-start
slice_bounds-result-start c = let i = found_inside (part_of c.args.part) c.args.recording.now in rw c.find_tail-found.ensures (omega (arith, i.0, i.1))

pub slice_bounds-result-count : goal.slice_bounds-result-count
slice_bounds-result-count c = let i = found_inside (part_of c.args.part) c.args.recording.now in rw c.find_tail-found.ensures (omega (arith, i.0, i.1))
