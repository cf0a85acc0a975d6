-- `byte_runs::starting::ByteRun::shared` meets its contract: the code is what the bytes so far have in common, at every step of the loop. Assumes nothing.
use Rattle.std.proofs.Common.{arith}
use Rattle.byte_runs.specs.Sharing.{shares_one, shares_more}
use Rattle.byte_runs.proofs.starting.ByteRun.shared.Goals as goal

pub loop-j-init : goal.loop-j-init
loop-j-init c = shares_one _ _ _ _ c.args.self.inside c.args.self.kind c.code_of-code.ensures

pub loop-j-preserved : goal.loop-j-preserved
loop-j-preserved c = shares_more _ _ _ c.loop-j.j c.loop-j.code _ _ c.loop-j.invariant (omega arith) c.if-bytes-from-ne3.false c.code_of.ensures c.both_lamps-code.ensures
