-- `packeted::in_packets` meets its contract: after each turn the packets up to a place were taken in turn, what is left then begins there, and closing is asked
-- of what the last packet left. Assumes nothing.
use Rattle.std.proofs.Common.{ℕ, ◌≡◌, length, drop}
use Rattle.terms.specs.Part.{part_of}
use Rattle.bench.specs.Rounds.{Fed}
use Rattle.bench.proofs.packeted.in_packets.Given as goal

abbrev pub invariant-loop-left : goal.invariant-loop-left
invariant-loop-left l = (at : ℕ) × (l.left ≡ drop at l.recording) × Fed l.size (part_of l.part) l.recording l.initial.feed at l.feed

abbrev pub decreases-loop-left : goal.decreases-loop-left
decreases-loop-left l = length l.left
