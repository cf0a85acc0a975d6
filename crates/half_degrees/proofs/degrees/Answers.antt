-- `half_degrees::degrees` meets its contract: of each byte the float was computed. Assumes nothing.
use mathlib.Core.Path.{subst⁻¹}
use mathlib.Core.Bool.{Bool}
use Prim.Native.Nat.{◌<◌}
use native.Mathlib.Omega.{arith}
use Rattle.half_degrees.specs.Half.{signed, InHalves}
use Rattle.half_degrees.specs.Computed.{above, under, above_exact, under_exact}
use Rattle.half_degrees.proofs.degrees.Goals as goal

pub returns-then-halves : goal.returns-then-halves
returns-then-halves c =
    let n = c.args.halves.size in
    let few : n < 256 = omega arith in
    subst⁻¹ (λ (s : Bool). InHalves (under n) (signed s n)) c.if-halves.true (under_exact n few)

pub returns-else-halves : goal.returns-else-halves
returns-else-halves c =
    let n = c.args.halves.size in
    let few : n < 256 = omega arith in
    subst⁻¹ (λ (s : Bool). InHalves (above n) (signed s n)) c.if-halves.false (above_exact n few)
