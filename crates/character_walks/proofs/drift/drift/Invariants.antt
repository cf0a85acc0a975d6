-- `character_walks::drift::drift` meets its contract: at every step of the loop the control is what the bytes so far leave, and the code what they have in common.
-- Assumes nothing.
use Prim.Native.Nat.{◌-◌}
use Rattle.character_walks.specs.Drifts.{Drifts}
use Rattle.character_walks.proofs.drift.drift.Given as goal

abbrev pub invariant-loop-j : goal.invariant-loop-j
invariant-loop-j l = Drifts l.bytes l.from l.initial.control l.j l.code l.control

abbrev pub decreases-loop-j : goal.decreases-loop-j
decreases-loop-j l = l.most - l.j
