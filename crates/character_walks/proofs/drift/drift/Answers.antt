-- `character_walks::drift::drift` meets its contract: at every step of the loop the control is what the bytes so far leave, and the code what they have in common.
-- Assumes nothing.
use Rattle.std.proofs.Common.{arith, subst, ℕ, ◌≡◌, ◌-◌, ◌/◌, length}
use Rattle.std.specs.Prelude.{eqb, ◌≤◌, ◌<◌}
use Rattle.std.proofs.lemmas.Bool.{eqb-false}
use Rattle.std.proofs.Math.Path.{subst⁻¹}
use Rattle.rules.specs.Choice.{whether_all}
use Rattle.character.specs.declared.command.Command.{Command}
use Rattle.character.specs.Command.{Defined, command_of}
use Rattle.character_knowledge.specs.declared.Control.{Control}
use Rattle.character_known.specs.Weakened.{Weakens}
use Rattle.character_known.specs.Drift.{aims_still}
use Rattle.walks.specs.Run.{byte_of}
use Rattle.character_walks.specs.Drifts.{Gathers, drifts_more, gathers_drift}
use Rattle.character_walks.proofs.drift.drift.Goals as goal
use Rattle.character_walks.proofs.drift.drift.Goals.{then-byte-ge64+in_default, else-byte-ge64+else-byte-lt16}

-- A byte from 10H on below 40H is a command: it sets an address.
sets : (b : ℕ) → 16 ≤ b → b < 64 → Defined (command_of b)
sets b low high =
    whether_all Defined (eqb (b / 16) 1) _ _ (λ e. tt)
    (λ n1. whether_all Defined (eqb (b / 16) 2) _ _ (λ e. tt)
    (λ n2. whether_all Defined (eqb (b / 16) 3) _ _ (λ e. tt)
    (λ n3. absurd (omega (arith, low, high, eqb-false (b / 16) 1 n1, eqb-false (b / 16) 2 n2, eqb-false (b / 16) 3 n3)))))

pub loop-j-preserved : goal.loop-j-preserved
loop-j-preserved c = let a = c.args in
    let at = c.loop-j in
    let byte = byte_of a.run.bytes.now a.run.at.0 at.j in
    let now = c.if-byte-ge64.control in
    let weak : Weakens (command_of byte) at.control now =
    elim c.if-byte-ge64.branch [
      | then-byte-ge64+in_default w ↦ subst⁻¹ (λ (r : Control). Weakens (command_of byte) at.control r) w.control-is (subst (λ (x : Command). Weakens x at.control w.weakened-control.result) w.command_of-command.ensures w.weakened-control.ensures)
      | else-byte-ge64+else-byte-lt16 w ↦ subst⁻¹ (λ (r : Control). Weakens (command_of byte) at.control r) w.control-is (aims_still at.control at.invariant.adrift byte w.if-byte-ge64.false (sets byte w.if-byte-lt16.false w.if-byte-ge64.false))
    ] in
    drifts_more a.run.bytes.now a.run.at.0 a.c at.j at.code c.code_of.result c.both_lamps-code.result at.control now at.invariant
    (omega arith) c.if-bytes-from-ne3.false weak c.code_of.ensures c.both_lamps-code.ensures

pub returns-then-byte-lt16 : goal.returns-then-byte-lt16
returns-then-byte-lt16 c = rw c.adrift-then-byte-lt16.ensures (gathers_drift c.loop-j.invariant)

pub returns-then-bytes-from-ne3 : goal.returns-then-bytes-from-ne3
returns-then-bytes-from-ne3 c = rw c.adrift.ensures (gathers_drift c.loop-j.invariant)

pub returns-in-Undefined : goal.returns-in-Undefined
returns-in-Undefined c = rw c.adrift-in-Undefined.ensures (gathers_drift c.loop-j.invariant)

-- There are no more records.
pub returns : goal.returns
returns c = let a = c.args in
    let n = (length a.run.bytes.now - a.run.at.0) / 2 in
    let e : c.loop-j.j ≡ n = omega arith in
    rw c.adrift-2.ensures (subst (λ (m : ℕ). Gathers a.run.bytes.now a.run.at.0 a.c (record { control = c.loop-j.control; count = m; code = c.loop-j.code; dcram = 16; cgram = 40; adram = 16 })) e (gathers_drift c.loop-j.invariant))
