-- The answer of a move: new values, and which facts are anything. That it is one thing with the move's results stands in proofs/Results.
use Rattle.std.specs.Prelude.{ℕ, ◌≡◌, Bool, false}

-- The chip x has the answer's values wherever the answer does not say that a fact is anything.
abbrev pub HasAnswer : {F : Type 0} → (F → ℕ) → (F → Bool) → (F → ℕ) → Type 0
HasAnswer {F} new any x = (f : F) → any f ≡ false → x f ≡ new f
