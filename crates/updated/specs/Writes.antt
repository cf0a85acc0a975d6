-- Which cells events write. The argument for the last two laws: events that say of every fact what becomes of it go one way only, and along that way each
-- of them writes the cell at its address, or none; so the cells that they write are one list.
use Rattle.std.specs.Prelude.{ℕ, ◌<◌, ◌≡◌, refl, ◌⊎◌}
use Rattle.std.proofs.Common.{arith, sym, subst, inl, inr, ⊎_elim}
use mathlib.Core.List.Memᴰ
use mathlib.Core.List.{List, [], ◌∷◌, Memᴰ}
use Rattle.rules.specs.Rule.{becomes, run}
use Rattle.rules.specs.Turn.{Result, Leads, sure_result, sure_only}
use Rattle.terms.specs.declared.Event.{Event}
use Rattle.terms.specs.declared.Event.TheVariants.{Power, Falls, ByteIn, Rises, Gap, Unfinished, Keys, Switches, ByteOut}
use Rattle.segment.specs.declared.Sizes.{Sizes}
use Rattle.segment.specs.declared.Pointer.TheVariants.{At}
use Rattle.segment.specs.declared.Data.TheVariants.{WriteDisplay}
use Rattle.segment.specs.declared.Position.TheVariants.{Open}
use Rattle.segment.specs.Fact.{Fact, range, address, data_mode, position}
use Rattle.segment.specs.Value.{pointer, data_mode_of, at_position}
use Rattle.segment.specs.Move.{move}
use Rattle.painting.specs.SegmentLeads.{Chip}

-- The event writes cell i of the chip c: it is a byte, the transfer is open, the data mode is write display, and the address is that of the cell.
abbrev pub Writes : Sizes → Event → Chip → ℕ → Type 0
Writes s Power c i = ⊥
Writes s Falls c i = ⊥
Writes s (ByteIn b) c i = (c position ≡ at_position Open) × (c data_mode ≡ data_mode_of WriteDisplay) × (c address ≡ pointer (At (record { 0 = i }))) × (i < s.cells)
Writes s Rises c i = ⊥
Writes s Gap c i = ⊥
Writes s (Unfinished n) c i = ⊥
Writes s (Keys k0 k1 k2 k3) c i = ⊥
Writes s (Switches v) c i = ⊥
Writes s ByteOut c i = ⊥

-- One of the events in turn writes cell i, along some way that the rules allow.
abbrev pub WrittenBy : Sizes → List Event → Chip → ℕ → Type 0
WrittenBy s [] c i = ⊥
WrittenBy s (e ∷ es) c i = Writes s e c i ⊎ ((y : Chip) × Result (range s) (move s e) c y × WrittenBy s es y i)

-- An event writes one cell at most.
one_cell : (s : Sizes) (e : Event) (c : Chip) (i j : ℕ) → Writes s e c i → Writes s e c j → i ≡ j
one_cell s Power c i j h g = absurd h
one_cell s Falls c i j h g = absurd h
one_cell s (ByteIn b) c i j h g = omega (arith, h.2, g.2)
one_cell s Rises c i j h g = absurd h
one_cell s Gap c i j h g = absurd h
one_cell s (Unfinished n) c i j h g = absurd h
one_cell s (Keys k0 k1 k2 k3) c i j h g = absurd h
one_cell s (Switches v) c i j h g = absurd h
one_cell s ByteOut c i j h g = absurd h

module _ (s : Sizes) where
  -- The event surely leads from c to y.
  abbrev pub Moved : Event → Chip → Chip → Type 0
  Moved e c y = (f : Fact) → run (move s e) c f ≡ becomes (y f)

  -- The events surely lead from c to x, and the cells that they write, one after the other, are these.
  pub data Traces : List Event → Chip → Chip → List ℕ → Type 0 where
    ends : {c : Chip} → Traces [] c c []
    passes : {e : Event} {es : List Event} {c x : Chip} {l : List ℕ} (y : Chip) → Moved e c y → ((i : ℕ) → ¬ Writes s e c i) → Traces es y x l → Traces (e ∷ es) c x l
    writes : {e : Event} {es : List Event} {c x : Chip} {l : List ℕ} (y : Chip) (i : ℕ) → Moved e c y → Writes s e c i → Traces es y x l → Traces (e ∷ es) c x (i ∷ l)

  pub traces_lead : {es : List Event} {c x : Chip} {l : List ℕ} → Traces es c x l → Leads (move s) es c x
  traces_lead ends = λ f. refl
  traces_lead (passes y m n t) = (y, m, traces_lead t)
  traces_lead (writes y i m w t) = (y, m, traces_lead t)

  -- What they write is in the list, and what is in the list they write.
  pub written_listed : {es : List Event} {c x : Chip} {l : List ℕ} (i : ℕ) → Traces es c x l → WrittenBy s es c i → Memᴰ i l
  written_listed i ends h = absurd h
  written_listed i (passes y m n t) (inl h) = absurd (n i h)
  written_listed i (passes {e} {es} {c} y m n t) (inr (z, r, h)) =
      written_listed i t (subst (λ (x : Chip). WrittenBy s es x i) (sure_only (range s) (move s e) c y z m r) h)
  written_listed i (writes {e} {c} y j m w t) (inl h) = Memᴰ.head (one_cell s e c i j h w)
  written_listed i (writes {e} {es} {c} y j m w t) (inr (z, r, h)) =
      Memᴰ.tail (written_listed i t (subst (λ (x : Chip). WrittenBy s es x i) (sure_only (range s) (move s e) c y z m r) h))

  pub listed_written : {es : List Event} {c x : Chip} {l : List ℕ} (i : ℕ) → Traces es c x l → Memᴰ i l → WrittenBy s es c i
  listed_written i ends h = absurd (Memᴰ.not-nil h)
  listed_written i (passes {e} {c} y m n t) h = inr (y, sure_result (range s) (move s e) c y m, listed_written i t h)
  listed_written i (writes {e} {c} y j m w t) h =
      ⊎_elim (λ p. inl (subst (Writes s e c) (sym p) w)) (λ k. inr (y, sure_result (range s) (move s e) c y m, listed_written i t k)) (Memᴰ.cases_cons h)
