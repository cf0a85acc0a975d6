-- `segment_painter::write_five` meets its contract: the five strobes stand one behind the other. Assumes nothing.
use native.Mathlib.Omega.{arith}
use mathlib.Core.List.{List, [], ◌∷◌, ◌++◌}
use lib.ListN.{take}
use Rattle.terms.specs.declared.Event.{Event}
use Rattle.terms.specs.Event.{strobe}
use Rattle.strobes.specs.Stream.{wrote_events}
use Rattle.segment_painter.proofs.write_five.Goals as goal

pub returns : goal.returns
returns c =
    let a = c.args in
    let fifth : List Event = strobe (a.control ∷ []) in
    let fourth : List Event = strobe (0x41 ∷ a.led ∷ []) in
    let third : List Event = strobe (0xC0 ∷ take a.count a.cells) in
    let second : List Event = strobe (0x40 ∷ []) in (
      wrote_events (strobe (a.mode ∷ [])) (second ++ (third ++ (fourth ++ fifth))) c.write_single.ensures
          (wrote_events second (third ++ (fourth ++ fifth)) c.write_single-2.ensures
          (wrote_events third (fourth ++ fifth) c.write_strobe.ensures
          (wrote_events fourth fifth c.write_strobe-2.ensures c.write_single-3.ensures))),
      omega (arith, c.well_formed),
    )
