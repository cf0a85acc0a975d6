-- The chips that a recording leads to; what a reading tells of them stands in proofs/Temperature.
use Rattle.std.specs.Prelude.{ℕ, List}
use Rattle.rules.specs.Rule.{Rule}
use Rattle.rules.specs.Range.{Good}
use Rattle.rules.specs.Turn.{Ends}
use Rattle.character.specs.Fact.{Fact, range}

-- The chips that are led there from any state in range.
abbrev pub LedTo : List (Rule Fact Fact) → (Fact → ℕ) → Type 0
LedTo moves x = (c : Fact → ℕ) × Good range c × Ends range moves c x
