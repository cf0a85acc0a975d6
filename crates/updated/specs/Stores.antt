-- What it means that an event writes a cell: it stores its byte there, bit by bit; and an event that does not write the cell leaves it as it was, or, as power,
-- a gap and test mode do, as anything. The argument: besides those three only a byte that is stored changes a cell, and where one is, the transfer is open,
-- the data mode is write display, and the address is that of the cell.
use Prim.Native.Nat.{ℕ, zero, suc, ◌<◌}
use Rattle.std.proofs.Common.{arith, ap, inr, ltb-true, lt-ltb}
use Rattle.std.specs.Prelude.{◌≡◌, true, ◌⊎◌, ltb, eqb}
use Rattle.std.proofs.Math.Path.{refl}
use Rattle.std.proofs.Math.Logic.{inl}
use Rattle.rules.specs.Choice.{whether_all, of2_all, of3_all, of4_all}
use Rattle.rules.specs.Rule.{Rule, gives, becomes, anything, outcome, run}
use Rattle.rules.specs.Change.{keep, set_bits}
use Rattle.rules.specs.Laws.{says_by_value}
use Rattle.rules.specs.Digit.{digit}
use Rattle.rules.specs.Touch.{bits_leave, bits_at}
use Rattle.terms.specs.declared.Event.{Event}
use Rattle.terms.specs.declared.Event.TheVariants.{Power, Falls, ByteIn, Rises, Gap, Unfinished, Keys, Switches, ByteOut}
use Rattle.segment.specs.declared.Sizes.{Sizes}
use Rattle.segment.specs.declared.command.Command.{Command}
use Rattle.segment.specs.declared.command.Command.TheVariants.{Mode, Test, Setting, AnySetting, Control, Start}
use Rattle.segment.specs.Fact.{Fact, same?, cell, address, data_mode, stepping, mode, position, cell_bits}
use Rattle.segment.specs.Command.{command_of}
use Rattle.segment.specs.Move.{Forms, stores, commanded, stored, written, byte_in, move}
use Rattle.segment.specs.Laws.{cells_apart}
use Rattle.painting.specs.SegmentLeads.{Chip}
use Rattle.updated.specs.Writes.{Writes}

-- By the rule cell i gets the byte b: each of its bits becomes the byte's.
abbrev pub Gets : Chip → ℕ → ℕ → Rule Fact Fact → Type 0
Gets c i b r = (k : ℕ) → k < cell_bits → run r c (cell i k) ≡ becomes (digit k b)

-- The rule leaves cell i as it was, or as anything: every bit of it.
abbrev pub Left : Chip → ℕ → Rule Fact Fact → Type 0
Left c i r = ((k : ℕ) → run r c (cell i k) ≡ becomes (c (cell i k))) ⊎ ((k : ℕ) → run r c (cell i k) ≡ anything)

module _ (s : Sizes) where
  store : (b : ℕ) (c : Chip) (i : ℕ) → Writes s (ByteIn b) c i → Gets c i b (move s (ByteIn b))
  store b c i (q, d, a, h) k l =
      says_by_value (byte_in s b) c (cell i k) _ (c position) 2 q
      (says_by_value (written s b) c (cell i k) _ (c data_mode) 0 d
      (says_by_value (stored s b) c (cell i k) _ (c address) (suc i) a
      (rw (lt-ltb i s.cells h) (of2_all (λ (r : Rule Fact Fact). run r c (cell i k) ≡ becomes (digit k b)) _ _ here here (c stepping)))))
    where
      here : outcome c (stores i b keep (cell i k)) ≡ becomes (digit k b)
      here = ap (outcome c) (bits_at same? (cell i) (λ m n e. (cells_apart i m i n e).1) 8 b keep k l)

  -- The cell is written: it holds the byte.
  pub writes_stores : (e : Event) (c : Chip) (i : ℕ) → Writes s e c i → (b : ℕ) × (e ≡ ByteIn b) × Gets c i b (move s e)
  writes_stores Power c i h = absurd h
  writes_stores Falls c i h = absurd h
  writes_stores (ByteIn b) c i h = (b, refl, store b c i h)
  writes_stores Rises c i h = absurd h
  writes_stores Gap c i h = absurd h
  writes_stores (Unfinished n) c i h = absurd h
  writes_stores (Keys k0 k1 k2 k3) c i h = absurd h
  writes_stores (Switches v) c i h = absurd h
  writes_stores ByteOut c i h = absurd h

  module _ (c : Chip) (i : ℕ) where
    commanded_left : (m : Command) → Left c i (commanded m)
    commanded_left (Mode m) = whether_all (Left c i) (eqb (c mode) m) _ _ (λ _. inl (λ k. refl)) (λ _. inl (λ k. refl))
    commanded_left Test = inr (λ k. refl)
    commanded_left (Setting d n) = inl (λ k. refl)
    commanded_left (AnySetting n) = inl (λ k. refl)
    commanded_left (Control d o) = inl (λ k. refl)
    commanded_left (Start a) = inl (λ k. refl)

    module _ (b : ℕ) (none : ¬ Writes s (ByteIn b) c i) where
      stored_left : c position ≡ 2 → c data_mode ≡ 0 → (a : ℕ) → c address ≡ a → Left c i (stored s b a)
      stored_left q d zero e = inl (λ k. refl)
      stored_left q d (suc j) e =
          whether_all (Left c i) (ltb j s.cells) _ _ (λ t. of2_all (Left c i) _ _ (inl (other t)) (inl (other t)) (c stepping)) (λ _. inl (λ k. refl))
        where
          other : ltb j s.cells ≡ true → (k : ℕ) → outcome c (stores j b keep (cell i k)) ≡ becomes (c (cell i k))
          other t k = ap (outcome c) (bits_leave same? (cell j) 8 b keep (cell i k) (λ m _ p. none (written_at (cells_apart i k j m p).0)))
            where
              written_at : i ≡ j → Writes s (ByteIn b) c i
              written_at p = (q, d, omega arith, omega (arith, ltb-true j s.cells t))

      byte_left : (q : ℕ) → c position ≡ q → Left c i (byte_in s b q)
      unfolding set_bits
      byte_left zero e = inl (λ k. refl)
      byte_left (suc zero) e = commanded_left (command_of s b)
      byte_left (suc (suc zero)) e = go (c data_mode) refl
        where
          go : (d : ℕ) → c data_mode ≡ d → Left c i (written s b d)
          go zero d = stored_left e d (c address) refl
          go (suc n) d = of3_all (Left c i) _ _ _ (inl (λ k. refl)) (inl (λ k. refl)) (inl (λ k. refl)) n
      byte_left (suc (suc (suc n))) e = inl (λ k. refl)

  -- It is not written: it is as it was, or anything.
  pub else_left : (e : Event) (c : Chip) (i : ℕ) → ¬ Writes s e c i → Left c i (move s e)
  else_left Power c i h = inr (λ k. refl)
  else_left Falls c i h = inl (λ k. refl)
  else_left (ByteIn b) c i h = byte_left c i b h (c position) refl
  else_left Rises c i h = inl (λ k. refl)
  else_left Gap c i h = inr (λ k. refl)
  else_left (Unfinished n) c i h = inl (λ k. refl)
  else_left (Keys k0 k1 k2 k3) c i h = inl (λ k. refl)
  else_left (Switches v) c i h = whether_all (λ (φ : Forms). Left c i (gives φ)) s.switched _ _ (λ _. inl (λ k. refl)) (λ _. inl (λ k. refl))
  else_left ByteOut c i h =
      of4_all (Left c i) _ _ _ _ (inl (λ k. refl)) (inl (λ k. refl))
      (of4_all (Left c i) _ _ _ _ (inl (λ k. refl)) (inl (λ k. refl)) (inl (λ k. refl)) (inl (λ k. refl)) (c data_mode))
      (inl (λ k. refl)) (c position)
