-- `strobes::placed::bytes_in` meets its contract. The invariant: the bytes passed are recorded behind each other from `at` on.
-- Assumes nothing.
use lib.Seq.{length-sets}
use mathlib.Core.Path.{◌≡◌, ◌∙◌, refl, ap}
use Rattle.strobes.specs.Stream.{wrote_more}
use native.Mathlib.Omega.{arith}
use lib.ListN.{length}
use Rattle.strobes.proofs.placed.bytes_in.Goals as goal

pub loop-byte-init : goal.loop-byte-init
loop-byte-init c = (omega arith, refl)

pub byte_in-to-requires : goal.byte_in-to-requires
byte_in-to-requires c =
    let l : length c.loop-byte.out ≡ length c.args.out.now = ap length c.loop-byte.invariant.1 ∙ simp length-sets in
    omega (arith, c.requires)

pub loop-byte-preserved : goal.loop-byte-preserved
loop-byte-preserved c =
    let a = c.args in
    let l = c.loop-byte in (
      omega (arith, c.byte_in-to.ensures.0),
      wrote_more a.out.now l.out c.byte_in-to.new.out a.bytes.now a.at l.byte-index l.to l.invariant.1 l.invariant.0 c.loop-byte-test.true
          c.byte_in-to.ensures.1,
    )

pub shape_of-out : goal.shape_of-out
shape_of-out c = ap length c.loop-byte.invariant.1 ∙ simp length-sets
