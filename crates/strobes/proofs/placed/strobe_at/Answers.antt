-- `strobes::placed::strobe_at` meets its contract: the fall, the first byte, the others and the rise are the strobe, piece by piece.
-- Assumes nothing.
use native.Mathlib.Omega.{arith}
use Rattle.strobes.specs.Stream.{strobe_written}
use Rattle.strobes.proofs.placed.strobe_at.Goals as goal

pub returns : goal.returns
returns c =
    let a = c.args in
    let p = c.put-fallen.ensures in
    let f = c.byte_in-begun.ensures in
    let r = c.bytes_in-done.ensures in
    let q = c.put.ensures in
    (omega (arith, p.0, f.0, r.0, q.0), strobe_written a.out.now _ _ _ _ a.at _ _ _ a.first a.rest.now p.0 p.1 f.0 f.1 r.0 r.1 q.1)
