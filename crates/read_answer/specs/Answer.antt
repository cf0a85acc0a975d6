-- What a call of read tells (POSIX's page of read): a count above 0 is how many bytes came, 0 is the end of the
-- input, and any failure but an interruption is a failure of the whole.
use Rattle.std.specs.Prelude.{ℕ, zero, suc, ◌≡◌, ◌≢◌, ◌⊎◌, Result, Ok, Err}
use Rattle.std.specs.declared.io.ErrorKind.{ErrorKind}
use Rattle.std.specs.declared.io.ErrorKind.TheVariants as Kind
use Rattle.read_answer.specs.declared.Input.TheVariants.{Whole, Failed}
use Rattle.read_answer.specs.declared.Next.{Next}
use Rattle.read_answer.specs.declared.Next.TheVariants.{Came, Interrupted, Over}

-- By the count, and how many bytes came before.
abbrev pub counted : ℕ → ℕ → Next
counted zero before = Over (Whole before)
counted (suc n) before = Came (suc n)

-- By the kind of the failure.
abbrev pub Fails : ErrorKind → Next → Type 0
Fails kind r = ((kind ≡ Kind.Interrupted) × (r ≡ Interrupted)) ⊎ ((kind ≢ Kind.Interrupted) × (r ≡ Over Failed))

-- By the answer, and how many bytes came before.
abbrev pub Tells : Result ℕ ErrorKind → ℕ → Next → Type 0
Tells (Ok n) before r = r ≡ counted n before
Tells (Err kind) before r = Fails kind r
