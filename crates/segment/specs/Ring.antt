-- The cells are a ring (M-101). Which cell stands behind the last one, in the paper's own numbers, so that a ring of another
-- length is refused here; that an invalid address ignores data and stays; and that from a cell only a command, or a move that
-- leaves the address as anything, leads to an invalid one. The argument for the last: every form of every other rule has the
-- address as it was, or a cell's.
use Prim.Native.Nat.{ℕ, zero, suc}
use Rattle.std.proofs.Common.{arith}
use Rattle.std.specs.Prelude.{◌≡◌, ltb, eqb}
use Rattle.std.proofs.Math.Path.{refl}
use Rattle.rules.specs.Choice.{whether_all, of2_all, of4_all}
use Rattle.rules.specs.Change.{set_bits}
use Rattle.rules.specs.Rule.{Rule, gives, becomes, anything, run}
use Rattle.rules.specs.Laws.{says_by_value}
use Rattle.terms.specs.declared.Event.{Event}
use Rattle.terms.specs.declared.Event.TheVariants.{Power, Falls, ByteIn, Rises, Gap, Unfinished, Keys, Switches, ByteOut}
use Rattle.segment.specs.declared.Family.{Family}
use Rattle.segment.specs.declared.Family.TheVariants.{Pt6312, Pt6315}
use Rattle.segment.specs.declared.Sizes.{Sizes}
use Rattle.segment.specs.declared.Pointer.TheVariants.{At, Invalid}
use Rattle.segment.specs.declared.Data.TheVariants.{WriteDisplay}
use Rattle.segment.specs.declared.Position.TheVariants.{First, Open}
use Rattle.segment.specs.declared.command.Command.{Command}
use Rattle.segment.specs.declared.command.Command.TheVariants.{Mode, Test, Setting, AnySetting, Control, Start}
use Rattle.segment.specs.Fact.{Fact, address, data_mode, stepping, mode, position}
use Rattle.segment.specs.Value.{pointer, data_mode_of, at_position}
use Rattle.segment.specs.Family.{sizes}
use Rattle.segment.specs.Command.{command_of}
use Rattle.segment.specs.Move.{after, commanded, stored, written, byte_in, move}

-- Behind the cell i of the part stands the cell j.
abbrev pub Behind : Family → ℕ → ℕ → Type 0
Behind p i j = after (sizes p) i ≡ At (record { 0 = j })

-- Cells 00H to 15H.
pub pt6312_ring : Behind Pt6312 0x14 0x15 × Behind Pt6312 0x15 0x00
unfolding sizes
pt6312_ring = (refl, refl)

-- Cells 00H to 23H.
pub pt6315_ring : Behind Pt6315 0x22 0x23 × Behind Pt6315 0x23 0x00
unfolding sizes
pt6315_ring = (refl, refl)

-- A data byte at an invalid address changes nothing, the address included.
pub invalid_ignores : (s : Sizes) (b : ℕ) (c : Fact → ℕ) → c position ≡ at_position Open → c data_mode ≡ data_mode_of WriteDisplay → c address ≡ pointer Invalid
    → (f : Fact) → run (move s (ByteIn b)) c f ≡ becomes (c f)
invalid_ignores s b c q d a f =
    says_by_value (byte_in s b) c f _ (c position) 2 q
    (says_by_value (written s b) c f _ (c data_mode) 0 d
    (says_by_value (stored s b) c f _ (c address) 0 a refl))

-- The event is a first byte that sets an invalid address.
abbrev pub SetsInvalid : Sizes → (Fact → ℕ) → Event → Type 0
SetsInvalid s c Power = ⊥
SetsInvalid s c Falls = ⊥
SetsInvalid s c (ByteIn b) = (c position ≡ at_position First) × (command_of s b ≡ Start Invalid)
SetsInvalid s c Rises = ⊥
SetsInvalid s c Gap = ⊥
SetsInvalid s c (Unfinished n) = ⊥
SetsInvalid s c (Keys k0 k1 k2 k3) = ⊥
SetsInvalid s c (Switches v) = ⊥
SetsInvalid s c ByteOut = ⊥

module _ (s : Sizes) (c : Fact → ℕ) (valid : ¬ (c address ≡ pointer Invalid)) where
  -- The rule does not make the address invalid.
  abbrev Spares : Rule Fact Fact → Type 0
  Spares rule = ¬ (run rule c address ≡ becomes (pointer Invalid))

  as_it_was : ¬ (becomes (c address) ≡ becomes (pointer Invalid))
  as_it_was e = valid cc

  to_a_cell : (n : ℕ) → ¬ (becomes (suc n) ≡ becomes (pointer Invalid))
  to_a_cell n e = let z : ◌≡◌ {A = ℕ} (suc n) 0 = cc in omega arith

  not_told : ¬ (anything ≡ becomes (pointer Invalid))
  not_told e = let z : ◌≡◌ {A = ℕ} 0 1 = cc in omega arith

  by_command : (m : Command) → run (commanded m) c address ≡ becomes (pointer Invalid) → m ≡ Start Invalid
  by_command (Mode m) e = absurd (whether_all Spares (eqb (c mode) m) _ _ (λ _. as_it_was) (λ _. as_it_was) e)
  by_command Test e = absurd (not_told e)
  by_command (Setting d i) e = absurd (as_it_was e)
  by_command (AnySetting i) e = absurd (as_it_was e)
  by_command (Control d o) e = absurd (as_it_was e)
  by_command (Start (At a)) e = absurd (to_a_cell a.0 e)
  by_command (Start Invalid) e = refl

  by_data : (b a : ℕ) → c address ≡ a → Spares (stored s b a)
  unfolding set_bits
  by_data b zero h = absurd (valid h)
  by_data b (suc i) h =
      whether_all Spares (ltb i s.cells) _ _
      (λ _. of2_all Spares _ _ (to_a_cell _) as_it_was (c stepping))
      (λ _. as_it_was)

  by_mode : (b d : ℕ) → Spares (written s b d)
  unfolding set_bits
  by_mode b zero = by_data b (c address) refl
  by_mode b (suc zero) = as_it_was
  by_mode b (suc (suc zero)) = as_it_was
  by_mode b (suc (suc (suc d))) = as_it_was

  by_position : (b q : ℕ) → c position ≡ q → run (byte_in s b q) c address ≡ becomes (pointer Invalid) → SetsInvalid s c (ByteIn b)
  by_position b zero h e = absurd (as_it_was e)
  by_position b (suc zero) h e = (h, by_command (command_of s b) e)
  by_position b (suc (suc zero)) h e = absurd (by_mode b (c data_mode) e)
  by_position b (suc (suc (suc q))) h e = absurd (as_it_was e)

  -- From a cell, no event makes the address invalid but a first byte that sets it so.
  pub only_a_command : (e : Event) → run (move s e) c address ≡ becomes (pointer Invalid) → SetsInvalid s c e
  only_a_command Power e = to_a_cell 0 e
  only_a_command Falls e = as_it_was e
  only_a_command (ByteIn b) e = by_position b (c position) refl e
  only_a_command Rises e = as_it_was e
  only_a_command Gap e = not_told e
  only_a_command (Unfinished n) e = as_it_was e
  only_a_command (Keys k0 k1 k2 k3) e = as_it_was e
  only_a_command (Switches v) e = whether_all (λ φ. ¬ (run (gives φ) c address ≡ becomes (pointer Invalid))) s.switched _ _ (λ _. as_it_was) (λ _. as_it_was) e
  only_a_command ByteOut e = of4_all Spares _ _ _ _ as_it_was as_it_was (of4_all Spares _ _ _ _ as_it_was as_it_was as_it_was as_it_was (c data_mode)) as_it_was (c position) e
