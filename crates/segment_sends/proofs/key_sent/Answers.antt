-- `segment_sends::key_sent` meets its contract: the test is the rule's own, and where it holds the number is one of the key bytes.
-- Assumes nothing.
use Prim.Native.Nat.{◌<◌}
use mathlib.Core.Path.{sym, ap}
use Rattle.rules.specs.Rule.{becomes}
use Rattle.segment.specs.Family.{sizes}
use native.Mathlib.Omega.{arith}
use borrow.Author.Tests.{lt-ltb, le-ltb}
use Rattle.segment.specs.Laws.{room}
use Rattle.segment_sends.proofs.key_sent.Goals as goal

pub key_at-requires : goal.key_at-requires
key_at-requires c =
    let a = c.args in
    let t : a.chip.count < (sizes a.family).keys = rw c.sizes-sizes.ensures at c.if-chip-sizes.true in
    omega (arith, t, (room a.family).1)
