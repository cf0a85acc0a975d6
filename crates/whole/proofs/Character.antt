-- PT6302: every event but a gap says whether the position is first byte afterwards, as the events alone say it. The argument is
-- that for PT6312 and PT6315.
use Prim.Native.Nat.{ℕ, zero, suc, ◌%◌}
use Rattle.std.proofs.Common.{arith, ◌∙◌, true≢false}
use Rattle.std.specs.Prelude.{◌≡◌, refl, false, eqb}
use Rattle.std.proofs.Math.Path.{ap}
use borrow.Author.Tests.{ne_eqb}
use Rattle.rules.specs.Choice.{whether_all}
use Rattle.rules.specs.Rule.{gives, look, run}
use Rattle.rules.specs.Change.{set_bits}
use Rattle.rules.specs.Touch.{Leaves}
use Rattle.rules.specs.Turn.{Allows, Result}
use Rattle.terms.specs.declared.Event.{Event}
use Rattle.terms.specs.declared.Event.TheVariants.{Power, Falls, ByteIn, Rises, Gap, Unfinished, Keys, Switches, ByteOut}
use Rattle.character.specs.declared.command.Command.{Command}
use Rattle.character.specs.declared.command.Command.TheVariants.{Dcram, Cgram, Adram, Port, Duty, Digits, Light, Nothing, Undefined}
use Rattle.character.specs.Fact.{Fact, range, dcram_at, cgram_at, adram_at, column, position}
use Rattle.character.specs.Command.{command_of}
use Rattle.character.specs.Move.{commanded, shown, drawn, marked, byte_in, move}
use Rattle.whole.specs.Sentence.{is_gap, awaits}
use Rattle.whole.specs.Awaits.{is_first, Sets, set_so, left_so}

-- Whether the position is first byte after an event, by the chip before it.
abbrev NotFirst : ℕ → Type 0
NotFirst q = is_first q ≡ false

position_commanded : (m : Command) → Sets position NotFirst (gives (commanded m))
unfolding set_bits
position_commanded (Dcram a) = refl
position_commanded (Cgram a) = refl
position_commanded (Adram a) = refl
position_commanded (Port p) = refl
position_commanded (Duty d) = refl
position_commanded (Digits d) = refl
position_commanded (Light l) = refl
position_commanded Nothing = refl
position_commanded Undefined = refl

position_drawn : (b a i : ℕ) → Leaves position (drawn b a i)
unfolding set_bits
position_drawn b a i = whether_all (Leaves position) (eqb (i % 5) 4) _ _ (λ _. refl) (λ _. refl)

module _ (c y : Fact → ℕ) where
  -- A byte, by the position: none leaves it at first byte.
  byte_onward : (b q : ℕ) → c position ≡ q → Allows 6 (run (byte_in b q) c position) (y position) → is_first (y position) ≡ false
  unfolding set_bits
  byte_onward b zero e a = ap is_first (a ∙ e)
  byte_onward b (suc zero) e a = set_so range position c y NotFirst (gives (commanded (command_of b))) (position_commanded (command_of b)) a
  byte_onward b (suc (suc zero)) e a = ap is_first (left_so range position c y (look dcram_at (shown b)) (λ _. refl) a ∙ e)
  byte_onward b (suc (suc (suc zero))) e a =
      ap is_first (left_so range position c y (look cgram_at (λ x. look column (drawn b x))) (position_drawn b) a ∙ e)
  byte_onward b (suc (suc (suc (suc zero)))) e a = ap is_first (left_so range position c y (look adram_at (marked b)) (λ _. refl) a ∙ e)
  byte_onward b (suc (suc (suc (suc (suc n))))) e a = ap is_first (a ∙ e) ∙ ne_eqb (suc (suc (suc (suc (suc n))))) 1 (λ z. omega arith)

  pub onward : (e : Event) → is_gap e ≡ false → Result range (move e) c y → is_first (y position) ≡ awaits e (is_first (c position))
  onward Power g made = ap is_first (made position)
  onward Falls g made = ap is_first (made position)
  onward (ByteIn b) g made = byte_onward b (c position) refl (made position)
  onward Rises g made = ap is_first (made position)
  onward Gap g made = absurd (true≢false g)
  onward (Unfinished n) g made = ap is_first (made position)
  onward (Keys k0 k1 k2 k3) g made = ap is_first (made position)
  onward (Switches v) g made = ap is_first (made position)
  onward ByteOut g made = ap is_first (made position)
