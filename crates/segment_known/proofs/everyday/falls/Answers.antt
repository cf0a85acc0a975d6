-- `segment_known::everyday::falls` meets its contract: only the position changes. Assumes nothing.
use Rattle.knowing.specs.Standing.{unknown}
use Rattle.knowing.specs.Ways.{learnt}
use Rattle.segment.specs.Fact.{same?, position}
use Rattle.segment_knowledge.specs.View.{cview}
use Rattle.segment_known.proofs.everyday.falls.Goals as goal

pub returns : goal.returns
returns c = (λ s cells. learnt (cview cells) same? c.args.c _ position 1 (c.at.ensures cells), c.at.ensures (λ i k. unknown) position)
