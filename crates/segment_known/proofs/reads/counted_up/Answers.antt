-- `segment_known::reads::counted_up` meets its contract: a known count goes up to four. Assumes nothing.
use mathlib.Core.Path.{ap}
use native.Mathlib.Omega.{arith}
use Rattle.knowing.specs.Standing.{known}
use Rattle.segment_known.proofs.reads.counted_up.Goals as goal

pub returns-then-n-lt4 : goal.returns-then-n-lt4
returns-then-n-lt4 c = rw c.in-Known.is (ap known (omega arith))

pub returns-else-n-lt4 : goal.returns-else-n-lt4
returns-else-n-lt4 c = rw c.in-Known.is (ap known (omega arith))
