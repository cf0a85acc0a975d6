-- `segment_sent::in_range::InRange::keys_sent` meets its contract: a known count goes its one way; at an unknown one the ways cannot agree.
-- Assumes nothing.
use Rattle.segment_sent.specs.Counts.{keys_unknown, keys_room, first_key}
use Rattle.segment.specs.Sent.{key_sent}
use Rattle.fact.specs.View.{stands}
use Rattle.knowing.specs.Ways.{known_way}
use mathlib.Core.Path.{ap}
use Rattle.segment.specs.Family.{sizes}
use Rattle.segment.specs.Fact.{same?, range, read_count}
use Rattle.sendings.specs.Report.{reports}
use Rattle.segment_sent.specs.Report.{bare}
use Rattle.segment_knowledge.specs.View.{cview}
use Rattle.segment_sent.proofs.in_range.InRange.keys_sent.Goals as goal

pub returns-in-Known : goal.returns-in-Known
returns-in-Known c = λ cells. let a = c.args in
    let s = sizes a.self.family in
    known_way (cview cells) reports same? (range s) read_count (key_sent s) a.self.control c.key_sent.result _ (ap stands c.in-Known.is) (c.key_sent.ensures cells)

pub returns-in-Unknown : goal.returns-in-Unknown
returns-in-Unknown c = λ cells. let a = c.args in
    let s = sizes a.self.family in
    let r = keys_room a.self.family in
    λ _. keys_unknown s (cview cells a.self.control) (ap stands c.in-Unknown.is) r.0 r.1 (first_key a.self.family (bare a.self.control) c.args.self.sound)
