-- `character_painter::write_settings` meets its contract: the four strobes stand one behind the other.
-- Assumes nothing.
use Prim.Native.Nat.{◌+◌}
use mathlib.Core.List.{List, [], ◌∷◌, ◌++◌}
use Rattle.terms.specs.declared.Event.{Event}
use Rattle.terms.specs.Event.{strobe}
use Rattle.character.specs.Value.{lit}
use Rattle.strobes.specs.Stream.{wrote_events}
use Rattle.character_painter.proofs.write_settings.Goals as goal

pub returns : goal.returns
returns c =
    let a = c.args in
    let fourth : List Event = strobe ((0x70 + lit a.lights) ∷ []) in
    let third : List Event = strobe ((0x60 + a.digits) ∷ []) in
    let second : List Event = strobe ((0x50 + a.duty) ∷ []) in
    wrote_events (strobe ((0x40 + a.port) ∷ [])) (second ++ (third ++ fourth)) c.write_single.ensures
    (wrote_events second (third ++ fourth) c.write_single-2.ensures
    (wrote_events third fourth c.write_single-3.ensures (rw c.lights_of.ensures at c.write_single-4.ensures)))
