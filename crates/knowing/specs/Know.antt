-- What a rule makes of a knowledge: where it looks at a fact that is unknown, it goes every way, and keeps what all
-- the ways have in common.
use Rattle.std.specs.Prelude.{ℕ, zero, suc, Bool, true, false, eqb}
use Rattle.rules.specs.Rule.{Form, value, copy, free, Rule, gives, look}
use Rattle.knowing.specs.Standing.{Standing, known, unknown}

unfoldable pub kept_if : Bool → ℕ → Standing
kept_if true v = known v
kept_if false v = unknown

-- What two ways have in common.
unfoldable pub join : Standing → Standing → Standing
unfolding kept_if
join (known v) (known w) = kept_if (eqb v w) v
join (known v) unknown = unknown
join unknown (known w) = unknown
join unknown unknown = unknown

-- What n ways, numbered from 0, have in common.
unfoldable pub common : ℕ → (ℕ → Standing) → Standing
common zero s = unknown
common (suc zero) s = s zero
common (suc (suc n)) s = join (common (suc n) s) (s (suc n))

-- What is known of a form.
abbrev pub lifted : {F : Type 0} → (F → Standing) → Form F → Standing
lifted k (value v) = known v
lifted k (copy g) = k g
lifted k free = unknown

-- The knowledge k, with g known to be v.
abbrev pub learn : {F : Type 0} → Discrete F → F → ℕ → (F → Standing) → F → Standing
learn same? g v k f = elim (same? f g) [ yes e ↦ known v | no n ↦ k f ]

-- What the rule makes of r, for the knowledge k.
module _ {F : Type 0} (same? : Discrete F) (range : F → ℕ) where
  abbrev pub know : {R : Type 0} → Rule F R → (F → Standing) → R → Standing
  know (gives φ) k r = lifted k (φ r)
  know (look g κ) k r =
      elim (k g) [ known v ↦ know (κ v) k r | unknown ↦ common (range g) (λ w. know (κ w) (learn same? g w k) r) ]
