-- `half_degrees::doubled` meets its contract: the double is a byte, and is how many half degrees the float is.
-- Assumes nothing.
use mathlib.Core.Path.{subst⁻¹}
use mathlib.Core.Bool.{false}
use Prim.Native.Nat.{ℕ}
use lib.Ieee.Exact.{HasValue}
use Rattle.half_degrees.specs.Computed.{doubled_byte, doubled_is}
use Rattle.half_degrees.proofs.doubled.Goals as goal

pub float_to_int-result : goal.float_to_int-result
float_to_int-result c = let a = c in doubled_byte a.args.size a.well_formed.0.1 a.requires

pub returns : goal.returns
returns c =
    let a = c in
    subst⁻¹ (λ (n : ℕ). HasValue a.args.size false n 2) (doubled_is a.args.size a.well_formed.0.1 a.requires) a.requires.exact
