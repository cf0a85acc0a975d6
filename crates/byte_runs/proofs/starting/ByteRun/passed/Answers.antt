-- `byte_runs::starting::ByteRun::passed` meets its contract: the records so far are a run, at every step of the loop. Assumes nothing.
use Rattle.std.proofs.Common.{arith}
use Rattle.walks.specs.Run.{run_one, run_more}
use Rattle.byte_runs.proofs.starting.ByteRun.passed.Goals as goal

pub loop-j-init : goal.loop-j-init
loop-j-init c = run_one _ _ c.args.self.inside c.args.self.kind

pub loop-j-preserved : goal.loop-j-preserved
loop-j-preserved c = run_more _ _ c.loop-j.j c.loop-j.invariant (omega arith) (omega arith)
