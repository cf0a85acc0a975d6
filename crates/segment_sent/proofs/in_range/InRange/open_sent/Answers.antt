-- `segment_sent::in_range::InRange::open_sent` meets its contract: a known data mode goes its one way; an unknown one is dealt with elsewhere.
-- Assumes nothing.
use mathlib.Core.Path.{subst}
use Rattle.segment.specs.Sent.{open_sent}
use Rattle.fact.specs.View.{stands}
use Rattle.knowing.specs.Standing.{Within}
use Rattle.knowing.specs.Ways.{known_way}
use mathlib.Core.Path.{ap}
use Rattle.segment.specs.Family.{sizes}
use Rattle.segment.specs.Fact.{same?, range, data_mode}
use Rattle.sendings.specs.Report.{reports}
use Rattle.segment_knowledge.specs.View.{cview}
use Rattle.segment_sent.proofs.in_range.InRange.open_sent.Goals as goal

pub sent_in-requires : goal.sent_in-requires
sent_in-requires c = subst (Within (range (sizes c.args.self.family) data_mode)) (ap stands c.in-Known.is) (c.args.self.sound data_mode)

pub returns-in-Known : goal.returns-in-Known
returns-in-Known c = λ cells. let a = c.args in
    let s = sizes a.self.family in
    known_way (cview cells) reports same? (range s) data_mode (open_sent s) a.self.control c.sent_in.result _ (ap stands c.in-Known.is) (c.sent_in.ensures cells)
