-- The positions that the code's match does not name: idle, ignoring, and numbers that are no position.
use Rattle.std.specs.Prelude.{ℕ, zero, suc, ◌≡◌, refl}
use Rattle.rules.specs.Choice.{of6}
use Rattle.rules.specs.Rule.{Rule}
use Rattle.character.specs.Fact.{Fact}
use Rattle.character.specs.Move.{nothing}

pub other_place : (a b c d : Rule Fact Fact) (n : ℕ) → ¬ (n ≡ 1) → ¬ (n ≡ 2) → ¬ (n ≡ 3) → ¬ (n ≡ 4) → of6 nothing a b c d nothing n ≡ nothing
other_place a b c d zero p q r s = refl
other_place a b c d (suc zero) p q r s = absurd (p refl)
other_place a b c d (suc (suc zero)) p q r s = absurd (q refl)
other_place a b c d (suc (suc (suc zero))) p q r s = absurd (r refl)
other_place a b c d (suc (suc (suc (suc zero)))) p q r s = absurd (s refl)
other_place a b c d (suc (suc (suc (suc (suc n))))) p q r s = refl
