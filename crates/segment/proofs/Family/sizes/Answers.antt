-- `segment::Family::sizes` meets its contract: each arm knows its part.
-- Assumes nothing.
use Rattle.segment.specs.Family.{sizes}
use Rattle.segment.proofs.Family.sizes.Goals as goal

pub returns-in-Pt6312 : goal.returns-in-Pt6312
unfolding sizes
returns-in-Pt6312 c = rw c.in-Pt6312.is

pub returns-in-Pt6315 : goal.returns-in-Pt6315
unfolding sizes
returns-in-Pt6315 c = rw c.in-Pt6315.is
