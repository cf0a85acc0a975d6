-- `segment_first_byte::setting_of` meets its contract: each arm knows bit 3, the low two bits and, for 11, the part.
-- Assumes nothing.
use native.Mathlib.Omega.{arith}
use Prim.Native.Nat.{◌%◌}
use mathlib.Core.Path.{◌≡◌}
use Rattle.segment.specs.Family.{sizes}
use borrow.Author.Tests.{eq-eqb, ne_eqb}
use Rattle.segment_first_byte.proofs.setting_of.Goals as goal

pub returns-in-Pt6312 : goal.returns-in-Pt6312
unfolding sizes
returns-in-Pt6312 c =
    let a = c.args in
    let e : a.byte % 4 ≡ 3 = omega arith in
    rw c.in-Pt6312.is
    (simp (c.stepping_of-stepping.ensures, ne_eqb _ _ c.if-byte-eq1.false, e))

pub returns-in-Pt6315 : goal.returns-in-Pt6315
unfolding sizes
returns-in-Pt6315 c =
    let a = c.args in
    let e : a.byte % 4 ≡ 3 = omega arith in
    rw c.in-Pt6315.is
    (simp (c.stepping_of-stepping.ensures, ne_eqb _ _ c.if-byte-eq1.false, e))
