-- A move's own answer and its results are one thing. A move answers with new values and says which facts are
-- anything; the results are all chips that this leaves open. The argument, fact by fact: where the rule gives a
-- value, both ask for that value; where it says anything, both ask only for one in range.
use Rattle.std.specs.Prelude.{ℕ, ◌<◌, ◌≡◌, Bool, false}
use Rattle.std.proofs.Common.{sym, ap, ◌∙◌, true≢false}
use Rattle.std.proofs.Math.Path.{subst⁻¹}
use Rattle.rules.specs.Rule.{Rule, Outcome, becomes, anything, run, Told, told, Moves}
use Rattle.rules.specs.Range.{Good, Ranged, Below, keeps_range}
use Rattle.rules.specs.Turn.{Allows, Result}
use Rattle.rules.specs.Results.{HasAnswer}

-- One fact.
allowed_below : (n w : ℕ) (o : Outcome) → Below n o → Allows n o w → w < n
allowed_below n w (becomes v) h a = subst⁻¹ (λ (u : ℕ). u < n) a h
allowed_below n w anything h a = a

allowed_told : (n w old new : ℕ) (any : Bool) (o : Outcome) → ◌≡◌ {A = Told} (record { value = new; any = any }) (told old o)
    → any ≡ false → Allows n o w → w ≡ new
allowed_told n w old new any (becomes v) m e a = a ∙ sym (ap (λ (t : Told). t.value) m)
allowed_told n w old new any anything m e a = absurd (true≢false (sym (ap (λ (t : Told). t.any) m) ∙ e))

told_allowed : (n w old new : ℕ) (any : Bool) (o : Outcome) → ◌≡◌ {A = Told} (record { value = new; any = any }) (told old o)
    → (any ≡ false → w ≡ new) → w < n → Allows n o w
told_allowed n w old new any (becomes v) m h l = h (ap (λ (t : Told). t.any) m) ∙ ap (λ (t : Told). t.value) m
told_allowed n w old new any anything m h l = l

-- A result of a good chip is good.
pub result_good : {F : Type 0} (range : F → ℕ) (rule : Rule F F) (old x : F → ℕ) → Ranged range range rule
    → Good range old → Result range rule old x → Good range x
result_good range rule old x ranged good made f =
    allowed_below (range f) (x f) (run rule old f) (keeps_range range range rule old good ranged f) (made f)

module _ {F : Type 0} (range : F → ℕ) (rule : Rule F F) (old new : F → ℕ) (any : F → Bool)
    (moves : Moves rule old new any) (ranged : Ranged range range rule) (good : Good range old) where
  -- The results of a good chip's move are exactly the good chips that have the answer.
  pub results_exactly : (x : F → ℕ)
      → (Result range rule old x → Good range x × HasAnswer new any x)
      × (Good range x × HasAnswer new any x → Result range rule old x)
  results_exactly x = (
    λ made. (
      result_good range rule old x ranged good made,
      λ f e. allowed_told (range f) (x f) (old f) (new f) (any f) (run rule old f) (moves f) e (made f),
    ),
    λ h f. told_allowed (range f) (x f) (old f) (new f) (any f) (run rule old f) (moves f) (h.1 f) (h.0 f),
  )
