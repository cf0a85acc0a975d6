-- `strobes::placed::bytes_in` meets its contract. The invariant: the bytes passed are recorded behind each other from `at` on.
-- Assumes nothing.
use Prim.Native.Nat.{◌+◌, ◌*◌}
use lib.Seq.{sets}
use mathlib.Core.Path.{◌≡◌}
use mathlib.Core.List.{map}
use lib.ListN.{take}
use Rattle.terms.specs.declared.Event.TheVariants.{ByteIn}
use Rattle.terms.specs.Event.{recording}
use Rattle.strobes.proofs.placed.bytes_in.Given as goal

abbrev pub invariant-loop-byte : goal.invariant-loop-byte
invariant-loop-byte l =
    (l.to ≡ l.at + 2 * l.byte-index) × (l.out ≡ sets l.initial.out l.at (recording (map ByteIn (take l.byte-index l.bytes))))
