-- `character::command::lights_of` meets its contract: bit 1 is tested first, then bit 0.
-- Assumes nothing.
use borrow.Author.Tests.{eq-eqb, ne_eqb}
use native.Mathlib.Omega.{arith}
use Prim.Native.Nat.{◌/◌, ◌%◌}
use mathlib.Core.Path.{◌≡◌}
use Rattle.character.proofs.command.lights_of.Goals as goal

pub returns-then-byte-eq1 : goal.returns-then-byte-eq1
returns-then-byte-eq1 c = simp (eq-eqb _ _ c.if-byte-eq1.true)

pub returns-then-byte-eq1-2 : goal.returns-then-byte-eq1-2
returns-then-byte-eq1-2 c =
    let e : c.args.byte / 1 % 2 ≡ 1 = omega arith in
    simp (ne_eqb _ _ c.if-byte-eq1.false, e)

pub returns : goal.returns
returns c =
    let n : c.args.byte / 1 % 2 ≡ 0 = omega arith in
    simp (ne_eqb _ _ c.if-byte-eq1.false, n)
