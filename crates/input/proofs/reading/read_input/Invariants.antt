-- `read_input` meets its contract. The argument: what came stays within the buffer, whose length stays, and the loop goes on only where there is room. Each
-- turn leaves less room or fewer interruptions. What the stream has lost stands at the front of the buffer, if its bytes are known. Assumes nothing.
use Rattle.std.proofs.Common.{◌+◌, ◌-◌, ◌≤◌, ◌≡◌, length, take}
use Rattle.std.specs.Io.KnownBytes.{Consumes}
use Rattle.input.proofs.reading.read_input.Given as goal

abbrev pub invariant-loop-done : goal.invariant-loop-done
invariant-loop-done g l = record { within : l.done ≤ length l.buffer; size : length l.buffer ≡ length l.initial.buffer; bytes : Consumes (g.R.Read.remaining l.initial.stream) (g.R.Read.remaining l.stream) (take l.done l.buffer) }

abbrev pub decreases-loop-done : goal.decreases-loop-done
decreases-loop-done g l = length l.initial.buffer - l.done + l.interruptions
