-- `strobes::write_strobe` meets its contract: where there is room the strobe is stored as a whole; else the fall, the first byte, the others and the rise are the
-- strobe, piece by piece.
-- Assumes nothing.
use Rattle.std.specs.Prelude.{refl, ◌∷◌}
use native.Mathlib.Omega.{arith}
use Rattle.writing.specs.Wrote.{wrote_then}
use Rattle.terms.specs.Event.{recording, strobe}
use Rattle.strobes.specs.Stream.{strobe_pieces, strobe_length, wrote_at}
use Rattle.strobes.proofs.write_strobe.Goals as goal

pub returns-then-rest-w : goal.returns-then-rest-w
returns-then-rest-w c =
    let a = c.args in
    let n = strobe_length a.first a.rest.now in
    let e = c.strobe_at-w.ensures in
    wrote_at {text = recording (strobe (a.first ∷ a.rest.now))} refl (omega (arith, n, c.if-w.true, c.if-rest-w.true)) (omega (arith, n, e.0)) e.1

pub returns : goal.returns
returns c = rw (strobe_pieces c.args.first c.args.rest.now) (wrote_then c.put.ensures (wrote_then c.byte_in.ensures (wrote_then c.bytes_in.ensures c.put-2.ensures)))
