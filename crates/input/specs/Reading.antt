-- What reading leaves in the buffer, whatever the stream. That the bytes are those of the stream is said, of one whose bytes are known, in `Bytes`.
use Rattle.std.specs.Prelude.{ℕ, ◌+◌, ◌<◌, ◌≤◌, ◌≡◌, List, length, take}
use Rattle.read_answer.specs.declared.Input.{Input}
use Rattle.read_answer.specs.declared.Input.TheVariants.{Whole, Full, Failed}
use Rattle.read_answer.specs.declared.Next.{Next}
use Rattle.read_answer.specs.declared.Next.TheVariants.{Came, Interrupted, Over}

-- One call ends the input with the bytes that came before it, or with a failure.
abbrev pub EndsInput : ℕ → Input → Type 0
EndsInput before (Whole n) = n ≡ before
EndsInput before Full = ⊥
EndsInput before Failed = Unit {0}

-- What came has room behind what came before, in a buffer of that size.
abbrev pub HasRoom : ℕ → ℕ → Next → Type 0
HasRoom size before (Came n) = (0 < n) × (before + n ≤ size)
HasRoom size before Interrupted = Unit {0}
HasRoom size before (Over input) = EndsInput before input

-- One call: the bytes that came before stay, and so does the buffer's size.
pub record Goes (old : List ℕ) (before : ℕ) (r : Next) (new : List ℕ) : Type 0 where
  pub fits : HasRoom (length old) before r
  pub kept : take before new ≡ take before old
  pub size : length new ≡ length old

-- The whole input leaves room in a buffer of that size.
abbrev pub LeavesRoom : ℕ → Input → Type 0
LeavesRoom size (Whole n) = n < size
LeavesRoom size Full = Unit {0}
LeavesRoom size Failed = Unit {0}

pub record Reads (old : List ℕ) (r : Input) (new : List ℕ) : Type 0 where
  pub leaves : LeavesRoom (length new) r
  pub size : length new ≡ length old
