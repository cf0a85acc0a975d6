-- `segment_sent::in_range::InRange::key_sent` meets its contract: a key byte that the part has, and else nothing is driven.
-- Assumes nothing.
use Rattle.segment_sent.specs.Counts.{keys_room, one_key}
use native.Mathlib.Omega.{arith}
use Rattle.segment_sent.specs.Report.{bare}
use Rattle.segment_sent.proofs.in_range.InRange.key_sent.Goals as goal

pub key_of-requires : goal.key_of-requires
key_of-requires c = let h = rw c.sizes-sizes.ensures at c.if-n-sizes.true in
    (omega (arith, h, (keys_room c.args.self.family).1), one_key c.args.self.family (bare c.args.self.control) c.args.n h c.args.self.sound)
