-- Of a stream whose bytes are known, as one over memory: what came stands in the buffer, and only behind the last byte is the input whole. Of standard input
-- nothing is known.
use Rattle.std.specs.Prelude.{ℕ, ◌+◌, Option, List, [], take, slice_range}
use Rattle.std.specs.Io.KnownBytes.{Consumes, IsAtEnd}
use Rattle.read_answer.specs.declared.Input.{Input}
use Rattle.read_answer.specs.declared.Input.TheVariants.{Whole, Full, Failed}
use Rattle.read_answer.specs.declared.Next.{Next}
use Rattle.read_answer.specs.declared.Next.TheVariants.{Came, Interrupted, Over}

-- One call that ends the input took no byte, and the whole input has none left.
abbrev pub EndsStream : Option (List ℕ) → Option (List ℕ) → Input → Type 0
EndsStream old new (Whole n) = Consumes old new [] × IsAtEnd new
EndsStream old new Full = Consumes old new []
EndsStream old new Failed = Consumes old new []

-- One call: the bytes that it took stand behind those that came before.
abbrev pub Hands : Option (List ℕ) → Option (List ℕ) → ℕ → Next → List ℕ → Type 0
Hands old new before (Came n) buffer = Consumes old new (slice_range buffer before (before + n))
Hands old new before Interrupted buffer = Consumes old new []
Hands old new before (Over input) buffer = EndsStream old new input

-- All calls: the whole input is all that the stream had left, and a full buffer is what it began with.
abbrev pub Gives : Option (List ℕ) → Option (List ℕ) → Input → List ℕ → Type 0
Gives old new (Whole n) buffer = Consumes old new (take n buffer) × IsAtEnd new
Gives old new Full buffer = Consumes old new buffer
Gives old new Failed buffer = Unit {0}
