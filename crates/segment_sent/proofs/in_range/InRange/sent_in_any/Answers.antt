-- `segment_sent::in_range::InRange::sent_in_any` meets its contract: the ways of the data modes come together one after the other.
-- Assumes nothing.
use Rattle.knowing.specs.Standing.{unknown}
use Rattle.segment_sent.specs.Counts.{undriven}
use Rattle.fact.specs.declared.Single.TheVariants.{Known}
use Rattle.segment.specs.declared.Sent.TheVariants.{NotDriven}
use Rattle.segment.specs.Sent.{open_sent, key_sent, switches_sent}
use Rattle.rules.specs.Rule.{look}
use Rattle.knowing.specs.Ways.{way, first_way, next_way, all_ways, learns_sound}
use native.Mathlib.Omega.{arith}
use mathlib.Core.Path.{refl, ap}
use Rattle.segment.specs.Family.{sizes}
use Rattle.segment.specs.Fact.{same?, range, data_mode, read_count}
use Rattle.sendings.specs.Report.{reports}
use Rattle.segment_sent.specs.Report.{bare}
use Rattle.segment_knowledge.specs.View.{cview}
use Rattle.segment_sent.proofs.in_range.InRange.sent_in_any.Goals as goal

pub invariant_of-switched : goal.invariant_of-switched
unfolding sizes
invariant_of-switched c = let a = c.args in
    record { sound = learns_sound bare same? (range (sizes a.self.family)) a.self.control _ data_mode 3 (c.with_data-in-Pt6312.ensures (λ i k. unknown)) (rw c.in-Pt6312.is (omega arith)) a.self.sound }

pub returns-in-Pt6312 : goal.returns-in-Pt6312
unfolding sizes
returns-in-Pt6312 c = λ cells. let a = c.args in
    let s = sizes a.self.family in
    all_ways (cview cells) reports same? (range s) data_mode (open_sent s) a.self.control 4 c.both.result (ap (λ p. range (sizes p) data_mode) c.in-Pt6312.is) c.requires
    (next_way (cview cells) reports same? (range s) data_mode (open_sent s) a.self.control 2 c.both-three.result c.switches_sent.result c.both.result (λ _. c.both.ensures)
    (next_way (cview cells) reports same? (range s) data_mode (open_sent s) a.self.control 1 (Known NotDriven) c.keys_sent.result c.both-three.result (λ _. c.both-three.ensures)
    (next_way (cview cells) reports same? (range s) data_mode (open_sent s) a.self.control 0 (Known NotDriven) (Known NotDriven) (Known NotDriven) undriven (first_way (cview cells) reports same? (range s) data_mode (open_sent s) a.self.control (Known NotDriven) (λ _. refl)) (λ _. refl))
    (way (cview cells) reports same? (range s) (look read_count (key_sent s)) a.self.control c.with_data.result c.keys_sent.result data_mode 2 (c.with_data.ensures cells) (c.keys_sent.ensures cells)))
    (way (cview cells) reports same? (range s) (look read_count switches_sent) a.self.control c.with_data-in-Pt6312.result c.switches_sent.result data_mode 3 (c.with_data-in-Pt6312.ensures cells) (c.switches_sent.ensures cells)))

pub returns-in-Pt6315 : goal.returns-in-Pt6315
unfolding sizes
returns-in-Pt6315 c = λ cells. let a = c.args in
    let s = sizes a.self.family in
    all_ways (cview cells) reports same? (range s) data_mode (open_sent s) a.self.control 3 c.both-three.result (ap (λ p. range (sizes p) data_mode) c.in-Pt6315.is) c.requires
    (next_way (cview cells) reports same? (range s) data_mode (open_sent s) a.self.control 1 (Known NotDriven) c.keys_sent.result c.both-three.result (λ _. c.both-three.ensures)
    (next_way (cview cells) reports same? (range s) data_mode (open_sent s) a.self.control 0 (Known NotDriven) (Known NotDriven) (Known NotDriven) undriven (first_way (cview cells) reports same? (range s) data_mode (open_sent s) a.self.control (Known NotDriven) (λ _. refl)) (λ _. refl))
    (way (cview cells) reports same? (range s) (look read_count (key_sent s)) a.self.control c.with_data.result c.keys_sent.result data_mode 2 (c.with_data.ensures cells) (c.keys_sent.ensures cells)))
