-- `segment_sent::in_range::InRange::sent_in` meets its contract: each data mode goes by its rule.
-- Assumes nothing.
use Rattle.segment_sent.proofs.in_range.InRange.sent_in.Goals as goal

pub returns-in-2 : goal.returns-in-2
returns-in-2 c = λ cells. rw c.in-2.is (c.keys_sent.ensures cells)

pub returns-in-3 : goal.returns-in-3
returns-in-3 c = λ cells. rw c.in-3.is (c.switches_sent.ensures cells)
