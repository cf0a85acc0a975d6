-- `character_known::stored::drawn_by` meets its contract: the next column is within CGRAM, or it is the first again.
-- Assumes nothing.
use native.Mathlib.Omega.{arith}
use mathlib.Core.Path.{◌≡◌}
use Prim.Native.Nat.{◌+◌, ◌/◌, ◌%◌}
use Rattle.character_known.proofs.stored.drawn_by.Goals as goal
use Rattle.character_known.proofs.stored.drawn_by.Goals.{then-next-lt40, else-next-lt40}

pub returns : goal.returns
returns c = let a = c.args in
    let at = c.if-next-lt40.at in
    let n = a.first.0 + a.count in
    let e : at ≡ n % 40 = elim c.if-next-lt40.branch [ then-next-lt40 w ↦ omega arith | else-next-lt40 w ↦ omega arith ] in
    let f : at / 5 ≡ n / 5 % 8 = elim c.if-next-lt40.branch [ then-next-lt40 w ↦ omega arith | else-next-lt40 w ↦ omega arith ] in
    let g : at % 5 ≡ n % 5 = omega arith in
    cc
