-- The checksum: for each number it is 31 times what it was plus the number, modulo the largest prime below 2^32.
use Rattle.std.specs.Prelude.{ℕ, ◌+◌, ◌*◌, ◌%◌, List, [], ◌∷◌}
use Rattle.fact.specs.declared.Single.{Single}
use Rattle.fact.specs.declared.Single.TheVariants.{Known, Unknown}

abbrev pub taken : ℕ → ℕ → ℕ
taken sum n = (sum * 31 + n) % 4294967291

-- Numbers one after the other.
abbrev pub all_taken : ℕ → List ℕ → ℕ
all_taken sum [] = sum
all_taken sum (n ∷ rest) = all_taken (taken sum n) rest

-- What is known of one fact that is known as a whole: the number of its value, or 256. Of memory, LED and port the codes of `lamps` are
-- taken, which have every known bit.
abbrev pub code_of : {T : Type 0} → (T → ℕ) → Single T → ℕ
code_of number (Known value) = number value
code_of number Unknown = 256

abbrev pub fact_code : Single ℕ → ℕ
fact_code = code_of (λ n. n)
