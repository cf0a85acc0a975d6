-- `runs::ring::Ring::write_runs` meets its contract. The invariant: what has been written so far, and what is ahead, are the runs, and so for the
-- cell behind the last of them.
-- Assumes nothing.
use Prim.Native.Nat.{◌<◌, ◌-◌}
use Rattle.runs.specs.Runs.{wanted}
use Rattle.runs.specs.Survey.{differ}
use Rattle.runs.specs.Written.{SoFar, EndSoFar}
use Rattle.runs.proofs.ring.Ring.write_runs.Given as goal

abbrev pub invariant-loop : goal.invariant-loop
invariant-loop l =
    (l.i < l.n) × SoFar l.n (differ l.codes l.wanted) (wanted l.wanted) l.initial.w l.w l.low l.i (l.n - l.counter)
    × EndSoFar l.n (differ l.codes l.wanted) l.end l.i (l.n - l.counter)
