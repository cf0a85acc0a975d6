-- A fact is known, with its value, or unknown.
use Rattle.std.specs.Prelude.{ℕ, ◌<◌, ◌≡◌}
use Rattle.rules.specs.Rule.{Rule, run}
use Rattle.rules.specs.Range.{Good}
use Rattle.rules.specs.Turn.{Allows}

pub data Standing : Type 0 where
  known : ℕ → Standing
  unknown : Standing

-- A value agrees with what is known of it.
abbrev pub Agrees : Standing → ℕ → Type 0
Agrees (known v) w = w ≡ v
Agrees unknown w = Unit

-- A chip fits a knowledge that agrees with it wherever the knowledge knows.
abbrev pub Fits : {F : Type 0} → (F → Standing) → (F → ℕ) → Type 0
Fits {F} k c = (f : F) → Agrees (k f) (c f)

-- What is known is below n.
abbrev pub Within : ℕ → Standing → Type 0
Within n (known v) = v < n
Within n unknown = Unit

-- Every known value is in its fact's range.
abbrev pub Sound : {F : Type 0} → (F → ℕ) → (F → Standing) → Type 0
Sound {F} range k = (f : F) → Within (range f) (k f)

-- All chips that fit the knowledge k, moved as the rule allows, agree on the value v for r.
abbrev pub Agree : {F R : Type 0} → (F → ℕ) → (R → ℕ) → Rule F R → (F → Standing) → R → ℕ → Type 0
Agree {F} range answers rule k r v =
    (c : F → ℕ) → Good range c → Fits k c → (w : ℕ) → Allows (answers r) (run rule c r) w → w ≡ v

-- r is known exactly when all fitting chips agree on it, and has their value.
abbrev pub Exact : {F R : Type 0} → (F → ℕ) → (R → ℕ) → Rule F R → (F → Standing) → R → Standing → Type 0
Exact range answers rule k r s =
    (v : ℕ) → (s ≡ known v → Agree range answers rule k r v) × (Agree range answers rule k r v → s ≡ known v)
