-- `packets::records::read_from` meets its contract: the walk tells how the records end and what is known then, and the account is settled by that.
-- Assumes nothing.
use Prim.Native.Nat.{ℕ, ◌+◌, ◌-◌}
use mathlib.Core.Path.{subst, subst⁻¹}
use mathlib.Core.List.{List}
use lib.ListN.{length, take, drop}
use Rattle.terms.specs.declared.Part.{Part}
use Rattle.panel.specs.declared.Panel.{Panel}
use Rattle.recording.specs.Laws.{part_from}
use Rattle.packets.specs.Walks.{Walks}
use Rattle.walks.specs.declared.Walked.{Walked}
use Rattle.packets.specs.declared.records.Taken.{Taken}
use Rattle.packets.specs.Takes.{ReadsRow}
use Rattle.packets.specs.Joined.{row_ends}
use Rattle.packets.proofs.records.read_from.Goals as goal

-- What the walk promises, of the bytes from the place on.
walks : (p : Part) (k : Panel) (packet : List ℕ) (from : ℕ) (w : Walked Panel) → Walks p k (take (length packet - from) (drop from packet)) w
    → Walks p k (drop from packet) w
walks p k packet from w h = subst (λ (m : List ℕ). Walks p k m w) (part_from from packet) h

pub returns : goal.returns
returns c =
    let a = c.args in
    let l = drop a.from a.packet.now in
    let w = walks a.part a.panel a.packet.now a.from c.panel_walk-walked.result c.panel_walk-walked.ensures in
    subst⁻¹ (λ (x : Taken). ReadsRow a.part a.panel (a.total + a.from) a.total (a.total + length a.packet.now) l x) c.with_panel.ensures
    (row_ends a.part a.panel c.panel_walk-walked.result.k (a.total + a.from) a.total (a.total + length a.packet.now) l c.settled.result _
    w.known w.kept w.ended c.settled.ensures)
