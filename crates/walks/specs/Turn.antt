-- What a walk leaves. The argument: rules in turn, and then others, are all of them in turn.
use Rattle.std.specs.Prelude.{ℕ, ◌≡◌, List, ◌++◌, map}
use Rattle.std.proofs.Common.{sym, ap, ◌∙◌}
use Rattle.std.proofs.lemmas.List.{map-append}
use Rattle.rules.specs.Rule.{Rule}
use Rattle.knowing.specs.Standing.{Standing}
use Rattle.knowing.specs.Turn.{in_turn, in_turn_same, in_turn_append}
use Rattle.terms.specs.declared.Event.{Event}

-- The knowledge r is what the events, in turn, make of k.
abbrev pub InTurn : {F K : Type 0} → (K → F → Standing) → Discrete F → (F → ℕ) → (Event → Rule F F)
    → List Event → K → K → Type 0
InTurn {F} view same? range move es k r = (f : F) → view r f ≡ in_turn same? range (map move es) (view k) f

module _ {F K : Type 0} (view : K → F → Standing) (same? : Discrete F) (range : F → ℕ) (move : Event → Rule F F) where
  -- Events in turn, and then others, are all of them in turn.
  pub turn_on : (es ds all : List Event) (k n r : K) → all ≡ es ++ ds → InTurn view same? range move es k n → InTurn view same? range move ds n r
      → InTurn view same? range move all k r
  turn_on es ds all k n r e h g f =
      g f
      ∙ in_turn_same same? range (map move ds) (view n) (in_turn same? range (map move es) (view k)) h f
      ∙ sym (in_turn_append same? range (map move es) (map move ds) (view k) f)
      ∙ sym (ap (λ (rules : List (Rule F F)). in_turn same? range rules (view k) f) (map-append move es ds))
      ∙ sym (ap (λ (xs : List Event). in_turn same? range (map move xs) (view k) f) e)
