-- `segment::stepped::behind` meets its contract: the test is that the cell is not the last.
-- Assumes nothing.
use borrow.Author.Tests.{lt-ltb, le-ltb}
use Rattle.segment.proofs.stepped.behind.Goals as goal

pub returns-then-cell-sizes : goal.returns-then-cell-sizes
returns-then-cell-sizes c = simp (lt-ltb _ _ (rw c.sizes-sizes.ensures at c.if-cell-sizes.true))

pub returns-else-cell-sizes : goal.returns-else-cell-sizes
returns-else-cell-sizes c = simp (le-ltb _ _ (rw c.sizes-sizes.ensures at c.if-cell-sizes.false))
