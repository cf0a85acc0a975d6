-- Along the moves of any chip the position is first byte exactly where the events say that a command is awaited. So what a
-- recording asks of its commands, read off the events alone, holds of every event as the chip takes it.
use Rattle.std.specs.Prelude.{ℕ, ◌≡◌, refl, Bool, true, false, ◌||◌, List, [], ◌∷◌}
use Rattle.std.proofs.Common.{sym, ap, ◌∙◌, true≢false, eq-eqb}
use Rattle.rules.specs.Rule.{Rule}
use Rattle.rules.specs.Turn.{Result}
use Rattle.knowing.specs.Standing.{known}
use Rattle.knowing.specs.Join.{known_one}
use Rattle.terms.specs.declared.Event.{Event}
use Rattle.terms.specs.declared.Event.TheVariants.{Power, Falls, ByteIn, Rises, Gap, Unfinished, Keys, Switches, ByteOut}
use Rattle.whole.specs.Sentence.{is_gap, has_gap, awaits, BringsDefined, NoUndefined}
use Rattle.whole.specs.Usual.{UsualAt}
use Rattle.whole.specs.Taken.{Takes}
use Rattle.whole.specs.Awaits.{is_first}

-- No gap among the events, one by one.
no_gap : (a b : Bool) → (a || b) ≡ false → (a ≡ false) × (b ≡ false)
no_gap true b e = absurd (true≢false e)
no_gap false b e = (refl, e)

usual_here : (Defined : ℕ → Type 0) (first : Bool) (e : Event) (q : ℕ) → is_gap e ≡ false → (first ≡ true → BringsDefined Defined e) → is_first q ≡ first → UsualAt 1 Defined e (known q)
usual_here Defined first Power q g u z = tt
usual_here Defined first Falls q g u z = tt
usual_here Defined first (ByteIn b) q g u z = λ e. u (sym z ∙ eq-eqb q 1 (known_one q 1 e))
usual_here Defined first Rises q g u z = tt
usual_here Defined first Gap q g u z = true≢false g
usual_here Defined first (Unfinished n) q g u z = tt
usual_here Defined first (Keys k0 k1 k2 k3) q g u z = tt
usual_here Defined first (Switches v) q g u z = tt
usual_here Defined first ByteOut q g u z = tt

-- For any part whose moves say, of every event but a gap, whether the position is first byte afterwards.
module _ {F : Type 0} (range : F → ℕ) (move : Event → Rule F F) (position : F) (Defined : ℕ → Type 0)
    (onward : (e : Event) → is_gap e ≡ false → (c y : F → ℕ) → Result range (move e) c y → is_first (y position) ≡ awaits e (is_first (c position))) where
  pub takes : (es : List Event) (first : Bool) (c : F → ℕ) → has_gap es ≡ false → NoUndefined Defined first es → is_first (c position) ≡ first
      → Takes range move (λ e k. UsualAt 1 Defined e (k position)) es c
  takes [] first c g u z = tt
  takes (e ∷ es) first c g u z =
      let (here, later) = no_gap (is_gap e) (has_gap es) g in (
        usual_here Defined first e (c position) here u.0 z,
        λ y made. takes es (awaits e first) y later u.1 (onward e here c y made ∙ ap (awaits e) z),
      )
