-- An update by the part that it is for, so that it can be spoken of where a caller has a part byte. PT6302 has none: its answer is number 1.
use Rattle.std.specs.Prelude.{ℕ, ◌+◌, ◌<◌, ◌≡◌, refl, Bool, true, false, List, [], ◌∷◌, ◌++◌, map, length}
use Rattle.std.proofs.Common.{arith, ◌∙◌, lt-ltb}
use Rattle.rules.specs.Choice.{whether}
use Rattle.rules.specs.Turn.{Surely}
use Rattle.knowing.specs.Standing.{Standing, Fits}
use Rattle.knowing.specs.Bytes.{Spells}
use Rattle.knowing.specs.Turn.{in_turn}
use Rattle.terms.specs.declared.Event.{Event}
use Rattle.terms.specs.Event.{strobe}
use Rattle.terms.specs.declared.Part.{Part}
use Rattle.terms.specs.declared.Part.TheVariants.{Pt6302, Pt6312, Pt6315}
use Rattle.segment.specs.declared.Family.{Family}
use Rattle.segment.specs.declared.Family.TheVariants as OfFamily
use Rattle.segment.specs.Family.{sizes}
use Rattle.segment.specs.Laws.{some_cells}
use Rattle.segment.specs.Fact as Segment
use Rattle.parts.specs.Facts.{Fact, same?, range, move}
use Rattle.repainted.specs.Accepted.{Accepted}
use Rattle.runs.specs.Runs.{wanted, run_events}
use Rattle.runs.specs.Count.{bytes_in, strobe_bytes, run_bytes}
use Rattle.updating.specs.Update.{differs, differing, starts, sends40, update_events, wire_bytes}
use Rattle.updating.specs.Updated.{updated, known_after}
use Rattle.updating.specs.Refresh.{known_for}
use Rattle.updated.specs.Writes as Writes
use Rattle.updated.specs.Leads as Leads
use Rattle.updated.specs.Known as Known
use Rattle.updated.specs.Accepted as Read

-- The part has cells in a ring.
abbrev pub HasRing : Part → Type 0
HasRing Pt6302 = ⊥
HasRing Pt6312 = Unit
HasRing Pt6315 = Unit

abbrev pub cells_of : Part → ℕ
cells_of Pt6302 = 0
cells_of Pt6312 = (sizes OfFamily.Pt6312).cells
cells_of Pt6315 = (sizes OfFamily.Pt6315).cells

-- Bit j of cell i.
abbrev pub cell_in : (p : Part) → HasRing p → ℕ → ℕ → Fact p
cell_in Pt6302 x i j = absurd x
cell_in Pt6312 x i j = Segment.cell i j
cell_in Pt6315 x i j = Segment.cell i j

-- The cell is unknown or different; the cells that differ, and those at which a run starts; and whether 40H is sent.
abbrev pub differs_for : (p : Part) → (Fact p → Standing) → List ℕ → ℕ → Bool
differs_for Pt6302 k w i = false
differs_for Pt6312 k w i = differs (sizes OfFamily.Pt6312) k w i
differs_for Pt6315 k w i = differs (sizes OfFamily.Pt6315) k w i

abbrev pub differing_for : (p : Part) → (Fact p → Standing) → List ℕ → List ℕ
differing_for Pt6302 k w = []
differing_for Pt6312 k w = differing (sizes OfFamily.Pt6312) k w
differing_for Pt6315 k w = differing (sizes OfFamily.Pt6315) k w

abbrev pub starts_for : (p : Part) → (Fact p → Standing) → List ℕ → List ℕ
starts_for Pt6302 k w = []
starts_for Pt6312 k w = starts (sizes OfFamily.Pt6312) k w
starts_for Pt6315 k w = starts (sizes OfFamily.Pt6315) k w

abbrev pub setting_for : (p : Part) → (Fact p → Standing) → List ℕ → Bool
setting_for Pt6302 k w = false
setting_for Pt6312 k w = sends40 (sizes OfFamily.Pt6312) k w
setting_for Pt6315 k w = sends40 (sizes OfFamily.Pt6315) k w

-- The events of the update.
abbrev pub update_for : (p : Part) → (Fact p → Standing) → List ℕ → List Event
update_for Pt6302 k w = []
update_for Pt6312 k w = update_events (sizes OfFamily.Pt6312) k w
update_for Pt6315 k w = update_events (sizes OfFamily.Pt6315) k w

-- The chip that was c, updated. What is known then is `updating/Refresh.known_for`.
abbrev pub updated_by : (p : Part) → (Fact p → Standing) → List ℕ → (Fact p → ℕ) → Fact p → ℕ
updated_by Pt6302 k w c = c
updated_by Pt6312 k w c = updated (sizes OfFamily.Pt6312) k w c
updated_by Pt6315 k w c = updated (sizes OfFamily.Pt6315) k w c

-- One of the events in turn writes cell i.
abbrev pub WrittenOn : (p : Part) → List Event → (Fact p → ℕ) → ℕ → Type 0
WrittenOn Pt6302 es c i = ⊥
WrittenOn Pt6312 es c i = Writes.WrittenBy (sizes OfFamily.Pt6312) es c i
WrittenOn Pt6315 es c i = Writes.WrittenBy (sizes OfFamily.Pt6315) es c i

-- The number of bytes in the events is cells plus runs plus the setting byte.
pub update_bytes : (q : Family) (k : Segment.Fact → Standing) (w : List ℕ) → bytes_in (update_events (sizes q) k w) ≡ wire_bytes (sizes q) k w
update_bytes q k w = with_setting (sends40 (sizes q) k w) ∙ (let r = run_bytes (sizes q).cells (differs (sizes q) k w) (wanted w) (some_cells q) in omega arith)
  where
    with_setting : (t : Bool) → bytes_in (whether t (strobe (0x40 ∷ [])) [] ++ run_events (sizes q).cells (differs (sizes q) k w) (wanted w))
        ≡ whether t 1 0 + bytes_in (run_events (sizes q).cells (differs (sizes q) k w) (wanted w))
    with_setting true = strobe_bytes (0x40 ∷ []) (run_events (sizes q).cells (differs (sizes q) k w) (wanted w))
    with_setting false = omega arith

pub counts : (p : Part) → HasRing p → (k : Fact p → Standing) (w : List ℕ)
    → bytes_in (update_for p k w) ≡ length (differing_for p k w) + length (starts_for p k w) + whether (setting_for p k w) 1 0
counts Pt6302 h k w = absurd h
counts Pt6312 h k w = update_bytes OfFamily.Pt6312 k w
counts Pt6315 h k w = update_bytes OfFamily.Pt6315 k w

pub leads : (p : Part) → HasRing p → (k : Fact p → Standing) (w : List ℕ) (c : Fact p → ℕ) → Fits k c → Surely (map (move p) (update_for p k w)) c (updated_by p k w c)
leads Pt6302 h k w c f = absurd h
leads Pt6312 h k w c f = Leads.update_leads OfFamily.Pt6312 k w c f
leads Pt6315 h k w c f = Leads.update_leads OfFamily.Pt6315 k w c f

pub writes : (p : Part) → HasRing p → (k : Fact p → Standing) (w : List ℕ) (c : Fact p → ℕ) → Fits k c → (i : ℕ)
    → (WrittenOn p (update_for p k w) c i → (i < cells_of p) × (differs_for p k w i ≡ true))
    × (i < cells_of p → differs_for p k w i ≡ true → WrittenOn p (update_for p k w) c i)
writes Pt6302 h k w c f i = absurd h
writes Pt6312 h k w c f i = Leads.update_writes OfFamily.Pt6312 k w c f i
writes Pt6315 h k w c f i = Leads.update_writes OfFamily.Pt6315 k w c f i

pub knows : (p : Part) → HasRing p → (k : Fact p → Standing) (w : List ℕ) (f : Fact p)
    → in_turn (same? p) (range p) (map (move p) (update_for p k w)) k f ≡ known_for p k w f
knows Pt6302 h k w f = absurd h
knows Pt6312 h k w f = Known.update_knows OfFamily.Pt6312 k w f
knows Pt6315 h k w f = Known.update_knows OfFamily.Pt6315 k w f

pub reads : (p : Part) → HasRing p → (k : Fact p → Standing) (w : List ℕ) → Accepted p (update_for p k w)
reads Pt6302 h k w = absurd h
reads Pt6312 h k w = Read.update_accepted Pt6312 OfFamily.Pt6312 k w
reads Pt6315 h k w = Read.update_accepted Pt6315 OfFamily.Pt6315 k w

segment_spelt : (q : Family) (k : Segment.Fact → Standing) (w : List ℕ) (i : ℕ) → i < (sizes q).cells
    → Spells 8 (λ j. known_after (sizes q) k w (Segment.cell i j)) (wanted w i)
segment_spelt q k w i h j l = rw (lt-ltb i (sizes q).cells h, lt-ltb j 8 l) refl

-- Behind an update every cell is known to hold its wanted byte, each bit of it.
pub spelt : (p : Part) (x : HasRing p) (k : Fact p → Standing) (w : List ℕ) (i : ℕ) → i < cells_of p
    → Spells 8 (λ j. known_for p k w (cell_in p x i j)) (wanted w i)
spelt Pt6302 x k w i h = absurd x
spelt Pt6312 x k w i h = segment_spelt OfFamily.Pt6312 k w i h
spelt Pt6315 x k w i h = segment_spelt OfFamily.Pt6315 k w i h
