-- What demand 3 says of a whole cell; that it holds of a recording stands in proofs/Demand.
use Rattle.std.specs.Prelude.{ℕ, List}
use Rattle.rules.specs.Rule.{Rule}
use Rattle.rules.specs.Range.{Good}
use Rattle.rules.specs.Turn.{Ends}
use Rattle.knowing.specs.Standing.{Standing, Fits}
use Rattle.knowing.specs.Bytes.{HasByte}
use Rattle.parts.specs.Facts.{range}

-- Every good chip that fits, moved by the rules one after the other, ends with the byte in these w bits.
abbrev pub AllEndWithByte : {F : Type 0} → (F → ℕ) → List (Rule F F) → (F → Standing) → (ℕ → F) → ℕ → ℕ → Type 0
AllEndWithByte {F} range rules k bits w byte =
    (c : F → ℕ) → Good range c → Fits k c → (x : F → ℕ) → Ends range rules c x → HasByte w (λ j. x (bits j)) byte
