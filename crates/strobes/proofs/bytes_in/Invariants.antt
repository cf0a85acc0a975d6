-- `strobes::bytes_in` meets its contract. The invariant: the bytes passed are recorded.
-- Assumes nothing.
use mathlib.Core.List.{map}
use lib.ListN.{take}
use Rattle.writing.specs.Wrote.{Wrote}
use Rattle.terms.specs.declared.Event.TheVariants.{ByteIn}
use Rattle.terms.specs.Event.{recording}
use Rattle.strobes.proofs.bytes_in.Given as goal

abbrev pub invariant-loop-byte : goal.invariant-loop-byte
invariant-loop-byte l = Wrote l.initial.w (recording (map ByteIn (take l.byte-index l.bytes))) l.w
