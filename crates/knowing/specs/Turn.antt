-- Moves in turn: what a row of rules, one after the other, makes of a knowledge.
use Rattle.std.specs.Prelude.{ℕ, ◌≡◌, refl, List, [], ◌∷◌, ◌++◌}
use Rattle.rules.specs.Rule.{Rule}
use Rattle.knowing.specs.Standing.{Standing}
use Rattle.knowing.specs.Know.{know}
use Rattle.knowing.specs.Look.{know_same}

module _ {F : Type 0} (same? : Discrete F) (range : F → ℕ) where
  abbrev pub in_turn : List (Rule F F) → (F → Standing) → F → Standing
  in_turn [] k = k
  in_turn (r ∷ rs) k = in_turn rs (know same? range r k)

  -- What is made of a knowledge goes by what is known of each fact.
  pub in_turn_same : (rs : List (Rule F F)) (k l : F → Standing) → ((f : F) → k f ≡ l f) → (f : F) → in_turn rs k f ≡ in_turn rs l f
  in_turn_same [] k l h f = h f
  in_turn_same (r ∷ rs) k l h f = in_turn_same rs (know same? range r k) (know same? range r l) (λ g. know_same same? range r k l h g) f

  -- Rows of rules one after the other.
  pub in_turn_append : (rs qs : List (Rule F F)) (k : F → Standing) (f : F) → in_turn (rs ++ qs) k f ≡ in_turn qs (in_turn rs k) f
  in_turn_append [] qs k f = refl
  in_turn_append (r ∷ rs) qs k f = in_turn_append rs qs (know same? range r k) f
