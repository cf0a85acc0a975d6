-- PT6312 and PT6315: every event but a gap says whether the position is first byte afterwards, as the events alone say it. The
-- argument: the strobe and power set the position, no command and no data byte leaves it at first byte, and the other events
-- leave it alone.
use Rattle.std.specs.Prelude.{ℕ, zero, suc, ◌≡◌, refl, false, ltb, eqb}
use Rattle.std.proofs.Common.{arith, ap, ◌∙◌, true≢false, ne_eqb}
use Rattle.rules.specs.Choice.{whether_all, of2_all, of4_all}
use Rattle.rules.specs.Rule.{copy, look, run}
use Rattle.rules.specs.Change.{set_bits}
use Rattle.rules.specs.Touch.{Leaves}
use Rattle.rules.specs.Turn.{Allows, Result}
use Rattle.terms.specs.declared.Event.{Event}
use Rattle.terms.specs.declared.Event.TheVariants.{Power, Falls, ByteIn, Rises, Gap, Unfinished, Keys, Switches, ByteOut}
use Rattle.segment.specs.declared.Sizes.{Sizes}
use Rattle.segment.specs.declared.command.Command.{Command}
use Rattle.segment.specs.declared.command.Command.TheVariants.{Mode, Test, Setting, AnySetting, Control, Start}
use Rattle.segment.specs.Fact.{Fact, data_mode, read_count, position, range}
use Rattle.segment.specs.Command.{command_of}
use Rattle.segment.specs.Move.{Forms, commanded, stored, written, byte_in, move}
use Rattle.segment.specs.Touch.{byte_out_leaves}
use Rattle.whole.specs.Sentence.{is_gap, awaits}
use Rattle.whole.specs.Awaits.{is_first, Sets, set_so, left_so}

-- Whether the position is first byte after an event, by the chip before it.
position_stored : (s : Sizes) (b a : ℕ) → Leaves position (stored s b a)
unfolding set_bits
position_stored s b zero = refl
position_stored s b (suc i) = whether_all (Leaves position) (ltb i s.cells) _ _ (λ _ n. of2_all (Leaves position) _ _ refl refl n) (λ _. refl)

position_written : (s : Sizes) (b d : ℕ) → Leaves position (written s b d)
unfolding set_bits
position_written s b d = of4_all (Leaves position) _ _ _ _ (position_stored s b) refl refl refl d

abbrev NotFirst : ℕ → Type 0
NotFirst q = is_first q ≡ false

position_commanded : (m : Command) → Sets position NotFirst (commanded m)
position_commanded (Mode m) = λ old. whether_all (Sets position NotFirst) (eqb old m) _ _ (λ _. refl) (λ _. refl)
position_commanded Test = refl
position_commanded (Setting d i) = refl
position_commanded (AnySetting i) = refl
position_commanded (Control d o) = refl
position_commanded (Start a) = refl

not_count : ¬ (position ≡ read_count)
not_count e =
    let z : ◌≡◌ {A = ℕ} 0 1 = cc in
    omega arith

module _ (s : Sizes) (c y : Fact → ℕ) where
  -- A byte, by the position: none leaves it at first byte.
  byte_onward : (b q : ℕ) → c position ≡ q → Allows 4 (run (byte_in s b q) c position) (y position) → is_first (y position) ≡ false
  byte_onward b zero e a = ap is_first (a ∙ e)
  byte_onward b (suc zero) e a = set_so (range s) position c y NotFirst (commanded (command_of s b)) (position_commanded (command_of s b)) a
  byte_onward b (suc (suc zero)) e a =
      ap is_first (left_so (range s) position c y (look data_mode (written s b)) (position_written s b) a ∙ e)
  byte_onward b (suc (suc (suc n))) e a = ap is_first (a ∙ e) ∙ ne_eqb (suc (suc (suc n))) 1 (λ z. omega arith)

  pub onward : (e : Event) → is_gap e ≡ false → Result (range s) (move s e) c y → is_first (y position) ≡ awaits e (is_first (c position))
  onward Power g made = ap is_first (made position)
  onward Falls g made = ap is_first (made position)
  onward (ByteIn b) g made = byte_onward b (c position) refl (made position)
  onward Rises g made = ap is_first (made position)
  onward Gap g made = absurd (true≢false g)
  onward (Unfinished n) g made = ap is_first (made position)
  onward (Keys k0 k1 k2 k3) g made = ap is_first (made position)
  onward (Switches v) g made =
      ap is_first (left_so (range s) position c y (move s (Switches v)) (whether_all (λ (φ : Forms). φ position ≡ copy position) s.switched _ _ (λ _. refl) (λ _. refl)) (made position))
  onward ByteOut g made = ap is_first (left_so (range s) position c y (move s ByteOut) (byte_out_leaves s position not_count) (made position))
