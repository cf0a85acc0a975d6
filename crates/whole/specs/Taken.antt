-- Events as a chip takes them. A byte is a command only where the chip's position is first byte; so what a recording
-- asks of a chip goes along its moves. Where the position is known, what holds along one fitting chip holds along the
-- knowledge.
use Rattle.std.specs.Prelude.{ℕ, ◌≤◌, List, [], ◌∷◌}
use Rattle.rules.specs.Rule.{Rule, run}
use Rattle.rules.specs.Range.{Good, Ranged}
use Rattle.rules.specs.Turn.{Result}
use Rattle.rules.proofs.Results.{result_good}
use Rattle.knowing.specs.Standing.{Standing, known, Fits, Sound}
use Rattle.knowing.specs.Know.{know}
use Rattle.knowing.specs.Moves.{some, allowed, still_fits}
use Rattle.whole.specs.Usual.{Each, Throughout}
use Rattle.whole.specs.Whole.{knowing_sound}

-- Everything is known of the chip c.
abbrev pub seen : {F : Type 0} → (F → ℕ) → F → Standing
seen c f = known (c f)

-- P holds of each event and the chip that meets it, whichever results the moves before it had.
abbrev pub Takes : {E F : Type 0} → (F → ℕ) → (E → Rule F F) → (E → (F → Standing) → Type 0) → List E → (F → ℕ) → Type 0
Takes range move P [] c = Unit
Takes {E} {F} range move P (e ∷ es) c = P e (seen c) × ((y : F → ℕ) → Result range (move e) c y → Takes range move P es y)

module _ {E F : Type 0} (same? : Discrete F) (range : F → ℕ) (two : (f : F) → 2 ≤ range f) (move : E → Rule F F) (Carries : E → Type 0)
    (ranged : (e : E) → Carries e → Ranged range range (move e)) (P : E → (F → Standing) → Type 0) (lower : (e : E) (k : F → Standing) (c : F → ℕ) → Fits k c → P e (seen c) → P e k) where
  pub takes_throughout : (es : List E) (k : F → Standing) (c : F → ℕ) → Each Carries es → Sound range k → Good range c → Fits k c → Takes range move P es c → Throughout same? range move P es k
  takes_throughout [] k c b s good fits t = tt
  takes_throughout (e ∷ es) k c b s good fits t =
      let made : Result range (move e) c (λ f. some (run (move e) c f)) = λ f. allowed (range f) (run (move e) c f) (two f) in (
        lower e k c fits t.0,
        takes_throughout es (know same? range (move e) k) (λ f. some (run (move e) c f)) b.1 (knowing_sound same? range two move Carries ranged e k b.0 s)
            (result_good range (move e) c (λ f. some (run (move e) c f)) (ranged e b.0) good made) (still_fits same? range two (move e) k s c good fits (λ f. some (run (move e) c f)) made)
            (t.1 (λ f. some (run (move e) c f)) made),
      )
