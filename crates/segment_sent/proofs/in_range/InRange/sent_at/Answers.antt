-- `segment_sent::in_range::InRange::sent_at` meets its contract: open goes by the data mode, and else nothing is driven.
-- Assumes nothing.
use Rattle.segment_sent.proofs.in_range.InRange.sent_at.Goals as goal

pub returns-in-2 : goal.returns-in-2
returns-in-2 c = λ cells. rw c.in-2.is (c.open_sent.ensures cells)
