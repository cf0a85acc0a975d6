-- `segment_knowledge::nothing_known` meets its contract: no cell is known, and nothing beside them.
-- Assumes nothing.
use Rattle.segment.specs.Fact.{address, data_mode, stepping, mode, dimming, display, led, key, switches, read_count, position}
use Rattle.segment.specs.Laws.{every}
use Rattle.lamps.specs.Row.{none_held}
use Rattle.segment_knowledge.proofs.nothing_known.Goals as goal

pub returns : goal.returns
returns c = let n = c.no_control.ensures in
    every _ (none_held 8 36) (n address) (n data_mode) (n stepping) (n mode) (n dimming) (n display) (λ k. n (led k)) (λ i. n (key i)) (n switches) (n read_count) (n position)
