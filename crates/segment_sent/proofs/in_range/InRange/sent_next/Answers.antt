-- `segment_sent::in_range::InRange::sent_next` meets its contract: a known position goes its one way; at an unknown one three ways drive nothing, and the open one joins them.
-- Assumes nothing.
use Rattle.segment_sent.specs.Counts.{undriven, again}
use Rattle.fact.specs.declared.Single.TheVariants.{Known}
use Rattle.segment.specs.declared.Sent.TheVariants.{NotDriven}
use Rattle.segment.specs.Sent.{sent_at, open_sent}
use Rattle.fact.specs.View.{stands}
use Rattle.rules.specs.Rule.{look}
use Rattle.knowing.specs.Ways.{way, known_way, first_way, next_way, all_ways}
use mathlib.Core.Path.{refl, ap}
use Rattle.segment.specs.Family.{sizes}
use Rattle.segment.specs.Fact.{same?, range, data_mode, position}
use Rattle.sendings.specs.Report.{reports}
use Rattle.segment_knowledge.specs.View.{cview}
use Rattle.segment_sent.proofs.in_range.InRange.sent_next.Goals as goal

pub returns-in-Known : goal.returns-in-Known
returns-in-Known c = λ cells. let a = c.args in
    let s = sizes a.self.family in
    known_way (cview cells) reports same? (range s) position (sent_at s) a.self.control c.sent_at.result _ (ap stands c.in-Known.is) (c.sent_at.ensures cells)

pub returns-in-Unknown : goal.returns-in-Unknown
returns-in-Unknown c = λ cells. let a = c.args in
    let s = sizes a.self.family in
    let r = c.both.result in
    all_ways (cview cells) reports same? (range s) position (sent_at s) a.self.control 4 r refl (ap stands c.in-Unknown.is)
    (next_way (cview cells) reports same? (range s) position (sent_at s) a.self.control 2 r (Known NotDriven) r (again c.open_sent.result r (λ _. c.both.ensures))
    (next_way (cview cells) reports same? (range s) position (sent_at s) a.self.control 1 (Known NotDriven) c.open_sent.result r (λ _. c.both.ensures)
    (next_way (cview cells) reports same? (range s) position (sent_at s) a.self.control 0 (Known NotDriven) (Known NotDriven) (Known NotDriven) undriven (first_way (cview cells) reports same? (range s) position (sent_at s) a.self.control (Known NotDriven) (λ _. refl)) (λ _. refl))
    (way (cview cells) reports same? (range s) (look data_mode (open_sent s)) a.self.control c.at.result c.open_sent.result position 2 (c.at.ensures cells) (c.open_sent.ensures cells)))
    (λ _. refl))
