-- Demand 3's other words over a recording, in the order in which it says them.
use Rattle.std.specs.Prelude.{ℕ, ◌≡◌, List, [], ◌∷◌}
use Rattle.rules.specs.Rule.{Rule}
use Rattle.knowing.specs.Standing.{Standing, known}
use Rattle.knowing.specs.Moves.{AllHave}

-- "After one event, a fact is known exactly when all chips that fit the earlier knowledge, moved as the rules allow,
-- agree on it, and has their value": the knowledge l is exact from k.
abbrev pub ExactFrom : {F : Type 0} → (F → ℕ) → Rule F F → (F → Standing) → (F → Standing) → Type 0
ExactFrom {F} range rule k l =
    (f : F) (v : ℕ) → (l f ≡ known v → AllHave range rule k f v) × (AllHave range rule k f v → l f ≡ known v)

-- "A recording is its events in turn": a chain of knowledges from k to r, one behind each event, each exact from the
-- one before.
abbrev pub Chain : {F : Type 0} → (F → ℕ) → List (Rule F F) → (F → Standing) → (F → Standing) → Type 0
Chain {F} range [] k r = (f : F) → r f ≡ k f
Chain {F} range (rule ∷ rules) k r = (l : F → Standing) × ExactFrom range rule k l × Chain range rules l r

-- "A start that knows more, and contradicts nothing", read from right to left: l knows at least what k knows, with the
-- same values.
abbrev pub KnowsAtLeast : {F : Type 0} → (F → Standing) → (F → Standing) → Type 0
KnowsAtLeast {F} k l = (f : F) (v : ℕ) → k f ≡ known v → l f ≡ known v
