-- `byte_runs::starting::ByteRun::shared` meets its contract: the code is what the bytes so far have in common, at every step of the loop. Assumes nothing.
use Rattle.byte_runs.specs.Sharing.{Shares}
use Rattle.byte_runs.proofs.starting.ByteRun.shared.Given as goal

abbrev pub invariant-loop-j : goal.invariant-loop-j
invariant-loop-j l = Shares l.wide l.bytes l.from l.j l.code
