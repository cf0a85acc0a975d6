-- Demand 3's last sentence for PT6302. The argument is that for PT6312 and PT6315: every rule looks only at settings
-- and the position, and, with no gap and no undefined command, lets only memory become anything.
use Prim.Native.Nat.{ℕ, zero, suc, ◌+◌, ◌*◌, ◌%◌}
use Rattle.std.proofs.Common.{◌∙◌}
use Rattle.std.specs.Prelude.{◌≡◌, refl, Bool, true, false, ltb, eqb}
use Rattle.std.proofs.Math.Path.{ap}
use Rattle.rules.specs.Choice.{whether, whether_all}
use Rattle.rules.specs.Rule.{value, Rule}
use Rattle.rules.specs.Change.{keep}
use Rattle.knowing.specs.Standing.{Standing, known}
use Rattle.terms.specs.declared.Event.{Event}
use Rattle.terms.specs.declared.Event.TheVariants.{Power, Falls, ByteIn, Rises, Gap, Unfinished, Keys, Switches, ByteOut}
use Rattle.character.specs.declared.command.Command.{Command}
use Rattle.character.specs.declared.command.Command.TheVariants.{Dcram, Cgram, Adram, Port, Duty, Digits, Light, Nothing, Undefined}
use Rattle.character.specs.declared.Position.{Position}
use Rattle.character.specs.declared.Position.TheVariants.{Idle, First, Dcram as in_dcram, Cgram as in_cgram, Adram as in_adram, Ignoring}
use Rattle.character.specs.Fact.{Fact, same?, dcram, cgram, adram, dcram_at, cgram_at, adram_at, column, port, duty, digits, lights, position, Sort, memory, setting, transfer, sort}
use Rattle.character.specs.Value.{lit, at_position}
use Rattle.character.specs.Command.{command_of, Defined}
use Rattle.character.specs.Move.{Forms, sets, spells, then, commanded, drawn, byte_in, move}
use Rattle.character.specs.Laws.{every}
use Rattle.whole.specs.Clear.{AllOwn, Clear, keep_own, change_own, bits_own}
use Rattle.whole.specs.Usual.{UsualAt}

-- Settings and the transfer position.
abbrev pub Asked : Sort → Type 0
Asked memory = ⊥
Asked setting = Unit
Asked transfer = Unit

-- What the start is asked to know, and all that rules look at.
abbrev pub Steers : Fact → Type 0
Steers f = Asked (sort f)

-- A bit of the port that the start is asked to know is a setting.
pub port_asked : (j : ℕ) → Steers (port j) → sort (port j) ≡ setting
port_asked j = go (ltb j 2)
  where
    go : (t : Bool) → Asked (whether t setting memory) → whether t setting memory ≡ setting
    go true n = refl
    go false n = absurd n

-- The event is no gap and, where the position is known to be first byte, no undefined command.
abbrev pub Usual : Event → (Fact → Standing) → Type 0
Usual e k = UsualAt (at_position First) (λ b. Defined (command_of b)) e (k position)

abbrev Fine : Forms → Type 0
Fine φ = AllOwn Steers φ

sets_fine : (g : Fact) (v : ℕ) (φ : Forms) → Fine φ → Fine (sets g v φ)
sets_fine g v φ h = change_own Steers same? g (value v) φ tt h

spells_fine : (at : ℕ → Fact) (w b : ℕ) (φ : Forms) → Fine φ → Fine (spells at w b φ)
spells_fine at w b φ h = bits_own Steers same? at w b φ h

kept : Fine keep
kept = keep_own Steers

then_fine : (q : Position) → Fine (then q)
then_fine q = sets_fine position (at_position q) keep kept

commanded_fine : (m : Command) → Defined m → Fine (commanded m)
commanded_fine (Dcram a) h = sets_fine dcram_at a.0 _ (then_fine in_dcram)
commanded_fine (Cgram a) h = sets_fine cgram_at a.0 _ (sets_fine column 0 _ (then_fine in_cgram))
commanded_fine (Adram a) h = sets_fine adram_at a.0 _ (then_fine in_adram)
commanded_fine (Port p) h = spells_fine port 2 p _ (then_fine Ignoring)
commanded_fine (Duty d) h = sets_fine duty d _ (then_fine Ignoring)
commanded_fine (Digits d) h = sets_fine digits d _ (then_fine Ignoring)
commanded_fine (Light l) h = sets_fine lights (lit l) _ (then_fine Ignoring)
commanded_fine Nothing h = then_fine Ignoring
commanded_fine Undefined h = absurd h

module _ (k : Fact → Standing) where
  abbrev Clears : Rule Fact Fact → Type 0
  Clears rule = Clear Steers rule k

  drawn_clear : (b a i : ℕ) → Clears (drawn b a i)
  drawn_clear b a i =
      let cells : Forms = spells (cgram (a % 8 * 5 + i % 5)) 7 b keep in
      let h = spells_fine (cgram (a % 8 * 5 + i % 5)) 7 b keep kept in
      whether_all Clears (eqb (i % 5) 4) _ _
      (λ _. sets_fine cgram_at ((a % 8 + 1) % 8) (sets column 0 cells) (sets_fine column 0 cells h))
      (λ _. sets_fine column (i % 5 + 1) cells h)

  -- A byte, by the position: only a first byte is a command.
  byte_clear : (b q : ℕ) → (q ≡ 1 → Defined (command_of b)) → Clears (byte_in b q)
  byte_clear b zero h = kept
  byte_clear b (suc zero) h = commanded_fine (command_of b) (h refl)
  byte_clear b (suc (suc zero)) h = (tt, λ a _. sets_fine dcram_at ((a % 16 + 1) % 16) _ (spells_fine (dcram (a % 16)) 8 b keep kept))
  byte_clear b (suc (suc (suc zero))) h = (tt, λ a _. (tt, λ i _. drawn_clear b a i))
  byte_clear b (suc (suc (suc (suc zero)))) h = (tt, λ a _. sets_fine adram_at ((a % 16 + 1) % 16) _ (spells_fine (adram (a % 16)) 2 b keep kept))
  byte_clear b (suc (suc (suc (suc (suc n))))) h = kept

-- Every event but a gap and an undefined command is clear.
pub clear : (e : Event) (k : Fact → Standing) → Usual e k → Clear Steers (move e) k
clear Power k h = every _ (λ i j n. n) (λ i j n. n) (λ i j n. n) tt tt tt tt (λ j. spells_fine port 2 0 keep kept (port j)) tt tt tt tt
clear Falls k h = then_fine First
clear (ByteIn b) k h = (tt, λ q e. byte_clear k b q (λ p. h (e ∙ ap known p)))
clear Rises k h = then_fine Idle
clear Gap k h = absurd h
clear (Unfinished n) k h = then_fine Idle
clear (Keys k0 k1 k2 k3) k h = kept
clear (Switches v) k h = kept
clear ByteOut k h = kept
