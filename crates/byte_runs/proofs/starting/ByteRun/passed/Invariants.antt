-- `byte_runs::starting::ByteRun::passed` meets its contract: the records so far are a run, at every step of the loop. Assumes nothing.
use Rattle.walks.specs.Run.{Run}
use Rattle.byte_runs.proofs.starting.ByteRun.passed.Given as goal

abbrev pub invariant-loop-j : goal.invariant-loop-j
invariant-loop-j l = Run l.bytes l.from l.j
