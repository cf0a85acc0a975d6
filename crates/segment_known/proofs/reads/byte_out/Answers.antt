-- `segment_known::reads::byte_out` meets its contract: only the read count changes, by the position and the data mode. Assumes nothing.
use Rattle.segment_known.specs.Reads.{counted_out}
use Rattle.segment_known.proofs.reads.byte_out.Goals as goal

pub returns : goal.returns
returns c = let a = c.args in
    counted_out a.family a.c c.count_out-count.result c.count_out-count.ensures
