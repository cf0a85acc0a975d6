-- `character_walks::character_walk` meets its contract: what is left of the walk makes of the knowledge so far, which stands in the rows and beside
-- them, what the whole walk makes of the first one. Each turn of the loop takes a record, the two of a strobe, or a run of bytes, and says so by the law of
-- its kind; the commands of a strobe come together behind their match.
-- Assumes nothing.
use Prim.Native.Nat.{◌-◌}
use lib.ListN.{length}
use Rattle.recording.specs.Walk.{walked}
use Rattle.character_knowledge.specs.View.{kview}
use Rattle.character_known.specs.Together.{together}
use Rattle.character_walks.specs.Reached.{Reached}
use Rattle.character_walks.proofs.character_walk.Given as goal

abbrev pub invariant-loop-i : goal.invariant-loop-i
invariant-loop-i l =
    Reached l.part l.bytes (walked l.part l.bytes) (kview (together l.initial.rows l.initial.control)) l.i (together l.rows l.control)

abbrev pub decreases-loop-i : goal.decreases-loop-i
decreases-loop-i l = length l.bytes - l.i
