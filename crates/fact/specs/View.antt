-- How a single fact is read as known or unknown.
use Rattle.std.specs.Prelude.{ℕ, ◌≡◌, refl}
use Rattle.std.proofs.Common.{sym, ap}
use Rattle.knowing.specs.Standing as Of
use Rattle.knowing.specs.Join.{not_known, known_one}
use Rattle.fact.specs.declared.Single.{Single}
use Rattle.fact.specs.declared.Single.TheVariants.{Known, Unknown}

-- Known to have the number of its value, or unknown.
abbrev pub standing : {T : Type 0} → (T → ℕ) → Single T → Of.Standing
standing number (Known v) = Of.known (number v)
standing number Unknown = Of.unknown

-- The value of most facts is a number.
abbrev pub stands : Single ℕ → Of.Standing
stands = standing (λ n. n)

-- Facts that say the same are equal, where no two values have one number.
pub same_fact : {T : Type 0} (number : T → ℕ) → ((v w : T) → number v ≡ number w → v ≡ w) → (a b : Single T) → standing number a ≡ standing number b → a ≡ b
same_fact number apart (Known v) (Known w) e = ap Known (apart v w (known_one (number v) (number w) e))
same_fact number apart (Known v) Unknown e = absurd (not_known (number v) (sym e))
same_fact number apart Unknown (Known w) e = absurd (not_known (number w) e)
same_fact number apart Unknown Unknown e = refl

-- Single facts that say the same are equal.
pub same_single : (a b : Single ℕ) → stands a ≡ stands b → a ≡ b
same_single = same_fact (λ n. n) (λ v w e. e)
