-- `one_record::glance::strobe_at` meets its contract: the first byte is told where its record is whole. Assumes nothing.
use native.Mathlib.Omega.{arith}
use Prim.Native.Nat.{ℕ, ◌+◌}
use mathlib.Core.Path.{◌≡◌, ap}
use lib.ListN.{get_or}
use Rattle.one_record.proofs.glance.strobe_at.Goals as goal

pub returns-then-bytes-i-eq3 : goal.returns-then-bytes-i-eq3
returns-then-bytes-i-eq3 c = let e : c.args.i + 2 ≡ c.args.i + 1 + 1 = omega arith in
    (c.requires.1, record { kind = c.if-bytes-i-eq3.true; there = omega (arith, c.if-bytes-i-lt3.false); byte = ap (λ (n : ℕ). get_or c.args.bytes.now n 0) e })
