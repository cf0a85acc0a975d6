-- Recordings with no gap and no undefined command, for any part. A byte is a command only as the first of a transfer,
-- so this goes along the events with what is known of the position.
use Rattle.std.specs.Prelude.{ℕ, ◌≡◌, List, [], ◌∷◌}
use Rattle.std.proofs.Common.{ap, subst}
use Rattle.rules.specs.Rule.{Rule}
use Rattle.knowing.specs.Standing.{Standing, known, Agrees}
use Rattle.knowing.specs.Know.{know}
use Rattle.terms.specs.declared.Event.{Event}
use Rattle.terms.specs.declared.Event.TheVariants.{Power, Falls, ByteIn, Rises, Gap, Unfinished, Keys, Switches, ByteOut}

-- The event is no gap and no undefined command, where s is what is known of the position, `first` the position of a
-- first byte, and `Defined` says which bytes are defined commands.
abbrev pub UsualAt : ℕ → (ℕ → Type 0) → Event → Standing → Type 0
UsualAt first Defined Power s = Unit
UsualAt first Defined Falls s = Unit
UsualAt first Defined (ByteIn b) s = s ≡ known first → Defined b
UsualAt first Defined Rises s = Unit
UsualAt first Defined Gap s = ⊥
UsualAt first Defined (Unfinished n) s = Unit
UsualAt first Defined (Keys k0 k1 k2 k3) s = Unit
UsualAt first Defined (Switches v) s = Unit
UsualAt first Defined ByteOut s = Unit

-- P holds of each event.
abbrev pub Each : {E : Type 0} → (E → Type 0) → List E → Type 0
Each P [] = Unit
Each P (e ∷ es) = P e × Each P es

-- P holds of each event and the knowledge that it meets: k, after the events before it.
abbrev pub Throughout : {E F : Type 0} → Discrete F → (F → ℕ) → (E → Rule F F) → (E → (F → Standing) → Type 0) → List E → (F → Standing) → Type 0
Throughout same? range move P [] k = Unit
Throughout same? range move P (e ∷ es) k = P e k × Throughout same? range move P es (know same? range (move e) k)

-- What is usual where the position is w is usual where no more is known of it.
pub usual_less : (first : ℕ) (Defined : ℕ → Type 0) (e : Event) (s : Standing) (w : ℕ) → Agrees s w → UsualAt first Defined e (known w) → UsualAt first Defined e s
usual_less first Defined Power s w a h = tt
usual_less first Defined Falls s w a h = tt
usual_less first Defined (ByteIn b) s w a h = λ e. h (ap known (subst (λ (t : Standing). Agrees t w) e a))
usual_less first Defined Rises s w a h = tt
usual_less first Defined Gap s w a h = h
usual_less first Defined (Unfinished n) s w a h = tt
usual_less first Defined (Keys k0 k1 k2 k3) s w a h = tt
usual_less first Defined (Switches v) s w a h = tt
usual_less first Defined ByteOut s w a h = tt
