-- `segment_known::everyday::lit` meets its contract: only the bits of the LED change. Assumes nothing.
use Rattle.segment_known.specs.Writes.{lit_told}
use Rattle.segment_known.proofs.everyday.lit.Goals as goal

pub returns : goal.returns
returns c = λ s cells. lit_told c.args.c c.args.byte _ c.put_byte.ensures cells
