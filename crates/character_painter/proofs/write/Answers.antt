-- `character_painter::write` meets its contract: the three strobes of the RAMs and the four of the settings are the stream, and stand at the
-- front. Assumes nothing.
use Prim.Native.Nat.{◌≤◌}
use native.Mathlib.Omega.{arith}
use lib.ListN.{length}
use borrow.Author.Rules.{rules}
use Rattle.writing.specs.Laws.{writes_front}
use Rattle.writing.specs.Wrote.{wrote_back}
use Rattle.character.specs.Value.{lit}
use Rattle.painting.specs.Character.{four_settings}
use Rattle.painting.specs.Answer.{character_stream}
use Rattle.character_painter.specs.Seven.{rams_then, seven_length}
use Rattle.character_painter.proofs.write.Goals as goal

pub returns : goal.returns
returns c =
    let a = c.args in
    let p = a.picture in
    let r = c.write_rams.ensures in
    let rest = four_settings p.port p.duty p.digits (lit p.lights) in
    let z : length (character_stream p) ≤ length a.out.now =
    omega (arith, seven_length p.dcram p.cgram p.adram rest, r.1, c.requires) in
    (writes_front z (wrote_back (rams_then p.dcram p.cgram p.adram rest r.0 c.write_settings.ensures) (search rules))).1
