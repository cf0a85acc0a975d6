-- Demand 3's last sentence for PT6312 and PT6315, over the numbers in which they differ. The argument: every rule
-- looks only at settings and the position, and gives each fact a value, or leaves it as it was, or lets it be
-- anything. Only memory, keys and switches become anything, unless there is a gap or an undefined command; so
-- settings and position stay known, and every event is clear.
use Rattle.std.specs.Prelude.{ℕ, zero, suc, ◌+◌, ◌%◌, min, ◌≡◌, refl, ltb, eqb}
use Rattle.std.proofs.Common.{ap, ◌∙◌}
use Rattle.rules.specs.Choice.{whether_all, of2_all, of4_all}
use Rattle.rules.specs.Rule.{value, copy, Rule, look}
use Rattle.rules.specs.Change.{keep}
use Rattle.knowing.specs.Standing.{Standing, known}
use Rattle.terms.specs.declared.Event.{Event}
use Rattle.terms.specs.declared.Event.TheVariants.{Power, Falls, ByteIn, Rises, Gap, Unfinished, Keys, Switches, ByteOut}
use Rattle.segment.specs.declared.Sizes.{Sizes}
use Rattle.segment.specs.declared.Position.{Position}
use Rattle.segment.specs.declared.Position.TheVariants.{Idle, First, Open, Ignoring}
use Rattle.segment.specs.declared.Display.TheVariants.{Off}
use Rattle.segment.specs.declared.command.Command.{Command}
use Rattle.segment.specs.declared.command.Command.TheVariants.{Mode, Test, Setting, AnySetting, Control, Start}
use Rattle.segment.specs.Fact.{Fact, cell, address, data_mode, stepping, mode, dimming, display, led, key, switches, read_count, position, same?, Sort, memory, setting, input, transfer, sort}
use Rattle.segment.specs.Value.{pointer, data_mode_of, steps, shows, at_position}
use Rattle.segment.specs.Command.{command_of, Defined}
use Rattle.segment.specs.Move.{Forms, sets, stores, lights, then, commanded, after, stored, byte_in, counted, move}
use Rattle.segment.specs.Laws.{every}
use Rattle.whole.specs.Clear.{Own, AllOwn, Clear, keep_own, change_own, bits_own}
use Rattle.whole.specs.Usual.{UsualAt}

-- Settings and the transfer position.
abbrev pub Asked : Sort → Type 0
Asked memory = ⊥
Asked setting = Unit
Asked input = ⊥
Asked transfer = Unit

-- What the start is asked to know, and all that rules look at.
abbrev pub Steers : Fact → Type 0
Steers f = Asked (sort f)

-- A bit of the LED that the start is asked to know is a setting.
pub led_asked : (j : ℕ) → Steers (led j) → sort (led j) ≡ setting
led_asked j = whether_all (λ (t : Sort). Asked t → t ≡ setting) (ltb j 4) setting memory (λ _ _. refl) (λ _ n. absurd n)

-- The event is no gap and, where the position is known to be first byte, no undefined command.
abbrev pub Usual : Sizes → Event → (Fact → Standing) → Type 0
Usual s e k = UsualAt (at_position First) (λ b. Defined (command_of s b)) e (k position)

abbrev Fine : Forms → Type 0
Fine φ = AllOwn Steers φ

sets_fine : (g : Fact) (v : ℕ) (φ : Forms) → Fine φ → Fine (sets g v φ)
sets_fine g v φ h = change_own Steers same? g (value v) φ tt h

kept : Fine keep
kept = keep_own Steers

then_fine : (q : Position) → Fine (then q)
then_fine q = sets_fine position (at_position q) keep kept

stores_fine : (i b : ℕ) → Fine (stores i b keep)
stores_fine i b = bits_own Steers same? (cell i) 8 b keep kept

lights_fine : (b : ℕ) → Fine (lights b keep)
lights_fine b = bits_own Steers same? led 4 b keep kept

module _ (s : Sizes) (k : Fact → Standing) where
  abbrev Clears : Rule Fact Fact → Type 0
  Clears rule = Clear Steers rule k

  commanded_clear : (m : Command) → Defined m → Clears (commanded m)
  commanded_clear (Mode m) h = (
    tt,
    λ old _. whether_all Clears (eqb old m) _ _ (λ _. then_fine Ignoring)
        (λ _. sets_fine mode m _ (sets_fine display (shows Off) _ (then_fine Ignoring))),
  )
  commanded_clear Test h = absurd h
  commanded_clear (Setting d i) h = sets_fine data_mode (data_mode_of d) _ (sets_fine stepping (steps i) _ (sets_fine read_count 0 _ (then_fine Open)))
  commanded_clear (AnySetting i) h = absurd h
  commanded_clear (Control d o) h = sets_fine dimming d _ (sets_fine display (shows o) _ (then_fine Ignoring))
  commanded_clear (Start a) h = sets_fine address (pointer a) _ (then_fine Open)

  stored_clear : (b a : ℕ) → Clears (stored s b a)
  stored_clear b zero = kept
  stored_clear b (suc i) =
      whether_all Clears (ltb i s.cells) _ _
      (λ _. (tt, λ n _. of2_all Clears _ _ (sets_fine address (pointer (after s i)) _ (stores_fine i b)) (stores_fine i b) n))
      (λ _. kept)

  -- A byte, by the position: only a first byte is a command.
  byte_clear : (b q : ℕ) → (q ≡ 1 → Defined (command_of s b)) → Clears (byte_in s b q)
  byte_clear b zero h = kept
  byte_clear b (suc zero) h = commanded_clear (command_of s b) (h refl)
  byte_clear b (suc (suc zero)) h = (
    tt,
    λ d _. of4_all Clears _ _ _ _ (tt, λ a _. stored_clear b a) (lights_fine b) kept kept d,
  )
  byte_clear b (suc (suc (suc n))) h = kept

  counted_clear : Clears (look read_count counted)
  counted_clear = (tt, λ n _. sets_fine read_count (min (n + 1) 4) keep kept)

-- Every event but a gap and an undefined command is clear.
pub clear : (s : Sizes) (e : Event) (k : Fact → Standing) → Usual s e k → Clear Steers (move s e) k
clear s Power k h = every _ (λ i j n. n) tt tt tt tt tt tt (λ j. lights_fine s.led (led j)) (λ i n. n) (λ n. n) tt tt
clear s Falls k h = then_fine First
clear s (ByteIn b) k h = (tt, λ q e. byte_clear s k b q (λ p. h (e ∙ ap known p)))
clear s Rises k h = then_fine Idle
clear s Gap k h = absurd h
clear s (Unfinished n) k h = then_fine Idle
clear s (Keys k0 k1 k2 k3) k h =
    sets_fine (key 0) k0 _
    (sets_fine (key 1) k1 _
    (sets_fine (key 2) k2 _
    (change_own Steers same? (key 3) _ keep (whether_all (Own Steers (key 3)) (ltb 3 s.keys) (value k3) (copy (key 3)) (λ _. tt) (λ _. refl)) kept)))
clear s (Switches v) k h = whether_all Fine s.switched _ _ (λ _. sets_fine switches (v % 16) keep kept) (λ _. kept)
clear s ByteOut k h = (
  tt,
  λ q _. of4_all (Clears s k) _ _ _ _ kept kept
      (tt, λ d _. of4_all (Clears s k) _ _ _ _ kept kept (counted_clear s k) (counted_clear s k) d)
      kept q,
)
