-- `segment_everyday::still::still` meets its contract: the records so far are a run of bytes that change nothing, at every step of the loop, and none where the position is known. Assumes nothing.
use Rattle.std.proofs.Common.{arith, ap}
use Rattle.fact.specs.View.{stands}
use Rattle.segment_everyday.specs.Still.{stills_none, stills_more}
use Rattle.segment_everyday.proofs.still.still.Goals as goal

pub returns-in_default : goal.returns-in_default
returns-in_default c = stills_none _ _ _ _ _ (omega (arith, c.args.run.inside))

pub loop-j-init : goal.loop-j-init
loop-j-init c = stills_none _ _ _ _ _ (omega (arith, c.args.run.inside))

pub unmoved-requires : goal.unmoved-requires
unmoved-requires c = ap stands c.in-Unknown.is

pub loop-j-preserved : goal.loop-j-preserved
loop-j-preserved c = let l = c.loop-j in
    stills_more _ _ _ _ _ l.j l.invariant (omega arith) c.if-bytes-k-ne3.false (c.unmoved.ensures c.if-not-unmoved.false)
