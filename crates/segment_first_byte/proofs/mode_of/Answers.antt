-- `segment_first_byte::mode_of` meets its contract: each arm knows its part, and the rest is arithmetic.
-- Assumes nothing.
use Rattle.segment.specs.Family.{sizes}
use native.Mathlib.Omega.{arith}
use Rattle.segment_first_byte.proofs.mode_of.Goals as goal

pub returns-in-Pt6312 : goal.returns-in-Pt6312
unfolding sizes
returns-in-Pt6312 c = rw c.in-Pt6312.is (omega arith)

pub returns-in-Pt6315 : goal.returns-in-Pt6315
unfolding sizes
returns-in-Pt6315 c = rw c.in-Pt6315.is (omega arith)
