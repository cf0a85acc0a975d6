-- `Writer::words` meets its contract. The invariant: the bytes passed are written.
-- Assumes nothing.
use lib.ListN.{take}
use Rattle.writing.specs.Wrote.{Wrote}
use Rattle.writing.proofs.Writer.words.Given as goal

abbrev pub invariant-loop-byte : goal.invariant-loop-byte
invariant-loop-byte l = Wrote l.initial.self (take l.byte-index l.text) l.self
