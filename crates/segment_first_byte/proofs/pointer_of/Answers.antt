-- `segment_first_byte::pointer_of` meets its contract: each arm knows its part and whether the address is below the number of its cells.
-- Assumes nothing.
use Rattle.segment.specs.Family.{sizes}
use borrow.Author.Tests.{lt-ltb, le-ltb}
use Rattle.segment_first_byte.proofs.pointer_of.Goals as goal

pub returns-then-byte-lt22 : goal.returns-then-byte-lt22
unfolding sizes
returns-then-byte-lt22 c = rw c.in-Pt6312.is (simp (lt-ltb _ _ c.if-byte-lt22.true))

pub returns-else-byte-lt22 : goal.returns-else-byte-lt22
unfolding sizes
returns-else-byte-lt22 c = rw c.in-Pt6312.is (simp (le-ltb _ _ c.if-byte-lt22.false))

pub returns-then-byte-lt36 : goal.returns-then-byte-lt36
unfolding sizes
returns-then-byte-lt36 c = rw c.in-Pt6315.is (simp (lt-ltb _ _ c.if-byte-lt36.true))

pub returns-else-byte-lt36 : goal.returns-else-byte-lt36
unfolding sizes
returns-else-byte-lt36 c = rw c.in-Pt6315.is (simp (le-ltb _ _ c.if-byte-lt36.false))
