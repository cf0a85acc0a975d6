-- `segment_known::moves::at_power` meets its contract: fact by fact, what power gives.
-- Assumes nothing.
use mathlib.Core.Path.{refl, ap}
use Rattle.key_codes.specs.View.{coded}
use Rattle.rules.specs.Unique.{get_d_same}
use Rattle.lamps.specs.Lamp.{wide4}
use Rattle.changes.specs.Laws.{code_told}
use Rattle.segment.specs.Fact.{same?, led}
use Rattle.segment.specs.Laws.{every, leds_apart}
use Rattle.segment_knowledge.specs.View.{cview}
use Rattle.segment_known.proofs.moves.at_power.Goals as goal

pub returns : goal.returns
returns c = λ cells.
    let a = c.args in
    rw c.sizes-sizes.ensures
    (every _ (λ i k. refl) refl refl refl refl refl refl
    (λ k. rw c.sizes-sizes.ensures at (code_told same? led leds_apart (cview cells a.c) 4 3855 c.sizes-sizes.result.led a.c.led _ k wide4 refl c.put_byte-led.ensures))
    (λ i. ap coded (get_d_same 4 i 256)) refl refl refl)
