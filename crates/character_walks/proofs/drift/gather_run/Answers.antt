-- `character_walks::drift::gather_run` meets its contract: by the RAM that the bytes went to, by all of them, or by none.
-- Assumes nothing.
use Rattle.std.proofs.Common.{◌≡◌}
use Rattle.std.proofs.Math.Path.{subst⁻¹}
use Rattle.character_known.specs.Ram.{text, columns, pairs, gone}
use Rattle.character_walks.specs.declared.drift.Gathered.{Gathered}
use Rattle.character_walks.specs.Drifts.{Gathers, gathers_roaming}
use Rattle.character_walks.proofs.drift.gather_run.Goals as goal
use Rattle.character_walks.proofs.drift.gather_run.Goals.{in-Shown, in-Drawn, in-Marked}

pub returns : goal.returns
returns c = let a = c.args in
    let common = c.shared-common in
    let with : Gathered → Gathered = λ x. record { control = x.control; count = common.result.count; code = common.result.code; dcram = x.dcram; cgram = x.cgram; adram = x.adram } in
    let said : (x : Gathered) → c.match-place.run ≡ x → Gathers a.bytes.bytes.now a.bytes.at.0 a.c (with x) → Gathers a.bytes.bytes.now a.bytes.at.0 a.c (with c.match-place.run) = λ x e h. subst⁻¹ (λ (y : Gathered). Gathers a.bytes.bytes.now a.bytes.at.0 a.c (with y)) e h in
    elim c.match-place.branch [
      | in-Shown w ↦ said _ w.run-is (gathers_roaming text (gone a.c w.in-Shown.is c.requires) common.ensures)
      | in-Drawn w ↦ said _ w.run-is (gathers_roaming columns (gone a.c w.in-Drawn.is c.requires) common.ensures)
      | in-Marked w ↦ said _ w.run-is (gathers_roaming pairs (gone a.c w.in-Marked.is c.requires) common.ensures)
    ]
