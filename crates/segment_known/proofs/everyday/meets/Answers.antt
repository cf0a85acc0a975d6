-- `segment_known::everyday::meets` meets its contract: each arm has as many cells as its part. Assumes nothing.
use Rattle.segment.specs.Family.{sizes}
use Rattle.segment_known.proofs.everyday.meets.Goals as goal

pub returns-in-Pt6312 : goal.returns-in-Pt6312
unfolding sizes
returns-in-Pt6312 c = rw c.in-Pt6312.is c.meet.ensures

pub returns-in-Pt6315 : goal.returns-in-Pt6315
unfolding sizes
returns-in-Pt6315 c = rw c.in-Pt6315.is c.meet-in-Pt6315.ensures
