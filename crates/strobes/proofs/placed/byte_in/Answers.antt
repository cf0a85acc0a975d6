-- `strobes::placed::byte_in` meets its contract: the two stores are the two bytes.
-- Assumes nothing.
use native.Mathlib.Omega.{arith}
use Rattle.strobes.specs.Stream.{pair_written}
use Rattle.strobes.proofs.placed.byte_in.Goals as goal

pub returns : goal.returns
returns c =
    let a = c.args in
    let first = c.put-next.ensures in
    let second = c.put.ensures in
    (omega (arith, second.0, first.0), pair_written a.out.now _ _ a.at _ 3 a.byte first.0 first.1 second.1)
