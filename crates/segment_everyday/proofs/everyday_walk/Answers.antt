-- `everyday_walk` meets its contract: wherever a walk stood at the first place, it stands at the place that the loop has come to. Each arm takes it over a record, or a run of
-- them, to the next. Assumes nothing.
use borrow.Author.Rules.{rules}
use Prim.Native.Nat.{ℕ, ◌+◌, ◌*◌, ◌≤◌}
use native.Mathlib.Omega.{arith}
use mathlib.Core.Path.{◌≡◌, refl, sym, ◌∙◌}
use lib.ListN.{length}
use Rattle.segment.specs.Family.{sizes as sizes_of}
use mathlib.Core.Path.{subst}
use Rattle.segment_knowledge.specs.declared.Knowledge.{Knowledge}
use Rattle.one_record.specs.declared.glance.Everyday.{Everyday}
use Rattle.one_record.specs.Glance.{Shows}
use mathlib.Core.List.{List}
use Rattle.terms.specs.declared.Event.TheVariants.{ByteIn}
use Rattle.terms.specs.declared.Part.{Part}
use Rattle.lamps.specs.Lamp.{wide8, wide4}
use Rattle.changes.specs.Change.{Changes}
use Rattle.stored_runs.specs.Putting.{PutsRun}
use Rattle.segment.specs.Laws.{room}
use Rattle.changes.specs.declared.Change.TheVariants.{Meet}
use Rattle.segment.specs.declared.Sizes.{Sizes}
use Rattle.segment.specs.Command.{command_of}
use Rattle.segment.specs.Move.{commanded}
use Rattle.segment_knowledge.specs.declared.Control.{Control}
use Rattle.segment_knowledge.specs.View.{held}
use Rattle.segment_steps.specs.declared.Step.{Step}
use Rattle.segment_steps.specs.Step.{Steps, kept_of, forgotten_of}
use Rattle.segment_known.specs.declared.everyday.Target.{Target}
use Rattle.segment_known.specs.Everyday.{Hits, lights_in, drifts_lit, drifts_at, lost_deaf}
use Rattle.segment_known.specs.Ways.{mode_small}
use Rattle.segment_everyday.specs.Arms.{GoesOn, goes_on, goes_as, Together, takes, fell, rose, lost, took, ordered, sets_by, tests_by, byte_is, passes, stays, stores, met_together, none_together, roam, drift_on}
use Rattle.segment_everyday.proofs.everyday_walk.Goals as goal
use Rattle.segment_everyday.proofs.everyday_walk.Goals.{in-Mode, in-Test, in-Setting, in-AnySetting, in-Control, in-Start, then-not-none_known, else-not-none_known}

-- What a glance or a target says, of one that is another in name.
shown_as : (l : List ℕ) (i : ℕ) {r s : Everyday} → r ≡ s → Shows l i r → Shows l i s
shown_as l i e h = subst (λ (x : Everyday). Shows l i x) e h

hit : (s : Sizes) (c : Control) {t u : Target} → t ≡ u → Hits s c t → Hits s c u
hit s c e h = subst (λ (x : Target). Hits s c x) e h

pub loop-i-preserved-in-Falls : goal.loop-i-preserved-in-Falls
loop-i-preserved-in-Falls c = let a = c.args in
    let at = c.loop-i in
    goes_on at.invariant (omega arith) (omega (arith, c.loop-i-test.true)) at.invariant.size (λ part first. fell part a.family a.bytes.now first at.i at.cells at.control _ c.loop-i-test.true (shown_as a.bytes.now at.i c.in-Falls.is c.everyday_at-record.ensures) (c.falls-control.ensures.0 (sizes_of a.family)))

pub to_mode-control-requires : goal.to_mode-control-requires
to_mode-control-requires c = let a = c.args in
    mode_small (sizes_of a.family) c.in-Strobe.byte _ (sym c.in-Mode.is ∙ c.command_of-command.ensures)

pub loop-i-preserved-in-Strobe : goal.loop-i-preserved-in-Strobe
loop-i-preserved-in-Strobe c = let a = c.args in
    let at = c.loop-i in
    let shows = shown_as a.bytes.now at.i c.in-Strobe.is c.everyday_at-record.ensures in
    let byte = c.in-Strobe.byte in
    let begun = c.falls-control-in-Strobe.result in
    let is = c.command_of-command.ensures in
    let there = shows.1.there in
    let order : (new : List ℕ) (x : Step) → length new ≡ 36 → Steps (sizes_of a.family) (commanded (command_of (sizes_of a.family) byte)) begun x → Changes 8 x.change at.cells new → GoesOn a.family a.bytes.now a.from.0 a.cells.now a.was (at.i + 3) new x.control =
    λ new x size steps changed. goes_on at.invariant (omega arith) (omega (arith, there)) size (λ part first. ordered part a.family a.bytes.now first at.i byte at.cells new at.control begun x shows.0 shows.1 size (c.falls-control-in-Strobe.ensures.0 (sizes_of a.family)) c.falls-control-in-Strobe.ensures.1 steps changed) in
    elim c.match-command.branch [
      | in-Mode w ↦ goes_as w.cells-is w.control-is (order at.cells (kept_of w.to_mode-control.result) at.invariant.size (sets_by a.family byte begun _ _ _ is w.in-Mode.is w.to_mode-control.ensures) (λ j k. refl))
      | in-Test w ↦ goes_as w.cells-is w.control-is (order w.forget.new.codes (forgotten_of w.in_test-control.result) (w.forget.auto.codes ∙ at.invariant.size) (tests_by a.family byte begun _ _ _ is w.in-Test.is w.in_test-control.ensures) (λ j k. w.forget.ensures 8 j k))
      | in-Setting w ↦ goes_as w.cells-is w.control-is (order at.cells (kept_of w.data_set-control.result) at.invariant.size (sets_by a.family byte begun _ _ _ is w.in-Setting.is w.data_set-control.ensures) (λ j k. refl))
      | in-AnySetting w ↦ goes_as w.cells-is w.control-is (order at.cells (kept_of w.stepping_set-control.result) at.invariant.size (sets_by a.family byte begun _ _ _ is w.in-AnySetting.is w.stepping_set-control.ensures) (λ j k. refl))
      | in-Control w ↦ goes_as w.cells-is w.control-is (order at.cells (kept_of w.display_set-control.result) at.invariant.size (sets_by a.family byte begun _ _ _ is w.in-Control.is w.display_set-control.ensures) (λ j k. refl))
      | in-Start w ↦ goes_as w.cells-is w.control-is (order at.cells (kept_of w.address_set-control.result) at.invariant.size (sets_by a.family byte begun _ _ _ is w.in-Start.is w.address_set-control.ensures) (λ j k. refl))
    ]

pub loop-i-preserved-in-Rises : goal.loop-i-preserved-in-Rises
loop-i-preserved-in-Rises c = let a = c.args in
    let at = c.loop-i in
    goes_on at.invariant (omega arith) (omega (arith, c.loop-i-test.true)) at.invariant.size (λ part first. rose part a.family a.bytes.now first at.i at.cells at.control _ c.loop-i-test.true (shown_as a.bytes.now at.i c.in-Rises.is c.everyday_at-record.ensures) (c.rises-control.ensures (sizes_of a.family)))

pub put_run-count-requires : goal.put_run-count-requires
put_run-count-requires c = let a = c.args in
    let at = c.loop-i in
    let h = hit (sizes_of a.family) at.control c.in-Cell.is c.goes_to-to.ensures in
    let s = c.sizes-sizes.ensures in
    let room : c.sizes-sizes.result.cells ≤ 36 = rw s (room a.family).0 in
    record { inside = rw s h.inside; room = omega (arith, room, at.invariant.size) }

pub counted_on-control-requires : goal.counted_on-control-requires
counted_on-control-requires c = subst (λ (x : Sizes). c.in-Cell.cell.0 + c.put_run-count.result ≤ x.cells) c.sizes-sizes.ensures c.put_run-count.ensures.room

pub loop-i-preserved-in-Cell : goal.loop-i-preserved-in-Cell
loop-i-preserved-in-Cell c = let a = c.args in
    let at = c.loop-i in
    goes_on at.invariant (omega arith) c.put_run-count.ensures.run.fits (c.put_run-count.auto.codes ∙ at.invariant.size) (λ part first. stores part a.family a.bytes.now first at.i _ c.in-Cell.cell.0 at.cells _ at.control _ (hit (sizes_of a.family) at.control c.in-Cell.is c.goes_to-to.ensures) (subst (λ (x : Sizes). PutsRun 65535 c.in-Cell.cell.0 x.cells a.bytes.now at.i at.cells c.put_run-count.result c.put_run-count.new.codes) c.sizes-sizes.ensures c.put_run-count.ensures) (c.put_run-count.auto.codes ∙ at.invariant.size) c.counted_on-control.ensures)

pub loop-i-preserved-then-none_known : goal.loop-i-preserved-then-none_known
loop-i-preserved-then-none_known c = let a = c.args in
    let at = c.loop-i in
    goes_on at.invariant (omega arith) c.passed.ensures.run.fits at.invariant.size (λ part first. roam part a.family a.bytes.now first at.i _ at.cells at.cells at.control (hit (sizes_of a.family) at.control c.in-Anywhere.is c.goes_to-to.ensures) c.passed.ensures.run at.invariant.size (none_together part a.family a.bytes.now first at.i c.passed.result at.cells (λ j k. c.none_known.ensures c.if-none_known.true 8 j k)))

pub loop-i-preserved-else-none_known : goal.loop-i-preserved-else-none_known
loop-i-preserved-else-none_known c = let a = c.args in
    let at = c.loop-i in
    goes_on at.invariant (omega arith) c.shared-common.ensures.run.fits (c.meets.ensures.size ∙ at.invariant.size) (λ part first. roam part a.family a.bytes.now first at.i _ at.cells _ at.control (hit (sizes_of a.family) at.control c.in-Anywhere.is c.goes_to-to.ensures) c.shared-common.ensures.run (c.meets.ensures.size ∙ at.invariant.size) (met_together part a.family a.bytes.now first at.i _ _ at.cells _ c.shared-common.ensures c.meets.ensures))

pub loop-i-preserved-in-Perhaps : goal.loop-i-preserved-in-Perhaps
loop-i-preserved-in-Perhaps c = let a = c.args in
    let at = c.loop-i in
    let shares = c.shared-common-in-Perhaps.ensures in
    let on : (new : List ℕ) → length new ≡ 36 → ((part : Part) (first : Knowledge) → Together part a.family a.bytes.now first at.i c.shared-common-in-Perhaps.result.count at.cells new) → GoesOn a.family a.bytes.now a.from.0 a.cells.now a.was (at.i + 2 * c.shared-common-in-Perhaps.result.count) new c.perhaps_lit-control.result =
    λ new size cells. goes_on at.invariant (omega arith) shares.run.fits size (λ part first. drift_on part a.family a.bytes.now first at.i _ _ _ at.cells new at.control _ (hit (sizes_of a.family) at.control c.in-Perhaps.is c.goes_to-to.ensures) shares (c.cut.ensures 4 wide4) c.perhaps_lit-control.ensures size (cells part first)) in
    elim c.if-not-none_known.branch [
      | then-not-none_known w ↦ goes_as w.cells-is refl (on w.meets-then-not-none_known.new.cells (w.meets-then-not-none_known.ensures.size ∙ at.invariant.size) (λ part first. met_together part a.family a.bytes.now first at.i _ _ at.cells _ shares w.meets-then-not-none_known.ensures))
      | else-not-none_known w ↦ goes_as w.cells-is refl (on at.cells at.invariant.size (λ part first. none_together part a.family a.bytes.now first at.i c.shared-common-in-Perhaps.result.count at.cells (λ j k. c.none_known-in-Perhaps.ensures w.if-not-none_known.false 8 j k)))
    ]

pub loop-i-preserved-in-Nowhere : goal.loop-i-preserved-in-Nowhere
loop-i-preserved-in-Nowhere c = let a = c.args in
    let at = c.loop-i in
    goes_on at.invariant (omega arith) c.passed-in-Nowhere.ensures.run.fits at.invariant.size (λ part first. passes part a.family a.bytes.now first at.i _ at.cells at.control c.passed-in-Nowhere.ensures.run (λ b. ((hit (sizes_of a.family) at.control c.in-Nowhere.is c.goes_to-to.ensures) b).knows (held at.cells)))

pub loop-i-preserved-in-Led : goal.loop-i-preserved-in-Led
loop-i-preserved-in-Led c = let a = c.args in
    let at = c.loop-i in
    let b = shown_as a.bytes.now at.i c.in-ByteIn.is c.everyday_at-record.ensures in
    goes_on at.invariant (omega arith) (omega (arith, b.there)) at.invariant.size (λ part first. took part a.family a.bytes.now first at.i _ at.cells at.cells at.control (kept_of c.lit-control.result) b at.invariant.size (lights_in a.family at.control _ _ (hit (sizes_of a.family) at.control c.in-Led.is c.goes_to-to.ensures) (c.lit-control.ensures (sizes_of a.family))) (λ j k. refl))

pub meet_one-requires : goal.meet_one-requires
meet_one-requires c = let a = c.args in
    let at = c.loop-i in
    let h = hit (sizes_of a.family) at.control c.in-PerhapsCell.is c.goes_to-to.ensures in
    omega (arith, h.1, (room a.family).0, at.invariant.size)

pub loop-i-preserved-in-PerhapsCell : goal.loop-i-preserved-in-PerhapsCell
loop-i-preserved-in-PerhapsCell c = let a = c.args in
    let at = c.loop-i in
    let b = shown_as a.bytes.now at.i c.in-ByteIn.is c.everyday_at-record.ensures in
    goes_on at.invariant (omega arith) (omega (arith, b.there)) (c.meet_one.auto.codes ∙ at.invariant.size) (λ part first. took part a.family a.bytes.now first at.i _ at.cells _ at.control (record { control = c.perhaps_stepped-control.result; change = Meet c.in-PerhapsCell.cell 1 1 c.in-ByteIn.byte }) b (c.meet_one.auto.codes ∙ at.invariant.size) (drifts_at a.family at.control _ _ _ _ _ (hit (sizes_of a.family) at.control c.in-PerhapsCell.is c.goes_to-to.ensures).0 (hit (sizes_of a.family) at.control c.in-PerhapsCell.is c.goes_to-to.ensures).1 (c.code_of.ensures 4 wide4) c.perhaps_lit-control-in-PerhapsCell.ensures c.perhaps_stepped-control.ensures) (c.meet_one.ensures 8 wide8))

pub loop-i-preserved-in-PerhapsLed : goal.loop-i-preserved-in-PerhapsLed
loop-i-preserved-in-PerhapsLed c = let a = c.args in
    let at = c.loop-i in
    let b = shown_as a.bytes.now at.i c.in-ByteIn.is c.everyday_at-record.ensures in
    goes_on at.invariant (omega arith) (omega (arith, b.there)) at.invariant.size (λ part first. took part a.family a.bytes.now first at.i _ at.cells at.cells at.control (kept_of c.perhaps_lit-control-in-PerhapsLed.result) b at.invariant.size (drifts_lit a.family at.control _ _ _ (hit (sizes_of a.family) at.control c.in-PerhapsLed.is c.goes_to-to.ensures) (c.code_of-in-PerhapsLed.ensures 4 wide4) c.perhaps_lit-control-in-PerhapsLed.ensures) (λ j k. refl))

pub loop-i-preserved-then-none_known-2 : goal.loop-i-preserved-then-none_known-2
loop-i-preserved-then-none_known-2 c = let a = c.args in
    let at = c.loop-i in
    goes_on at.invariant (omega arith) c.passed-then-none_known-2.ensures.run.fits at.invariant.size (λ part first. passes part a.family a.bytes.now first at.i _ at.cells at.control c.passed-then-none_known-2.ensures.run (lost_deaf a.family at.control (held at.cells) (c.nothing_left.ensures c.if-nothing_left.true) (λ j k. c.none_known-then-nothing_left.ensures c.if-none_known-2.true 8 j k)))

pub loop-i-preserved-then-count-gt0 : goal.loop-i-preserved-then-count-gt0
loop-i-preserved-then-count-gt0 c = let a = c.args in
    let at = c.loop-i in
    goes_on at.invariant (omega arith) c.still-count.ensures.run.fits at.invariant.size (λ part first. stays part a.family a.bytes.now first at.i _ at.cells at.control c.still-count.ensures)

pub loop-i-preserved-else-count-gt0 : goal.loop-i-preserved-else-count-gt0
loop-i-preserved-else-count-gt0 c = let a = c.args in
    let at = c.loop-i in
    let b = shown_as a.bytes.now at.i c.in-ByteIn.is c.everyday_at-record.ensures in
    goes_on at.invariant (omega arith) (omega (arith, b.there)) (search rules) (λ part first. takes part a.family a.bytes.now first at.i 2 (ByteIn c.in-ByteIn.byte) at.cells _ at.control _ (omega (arith, b.there)) (byte_is part a.bytes.now at.i _ b) (search rules) c.taken-control.ensures)

pub loop-i-preserved : goal.loop-i-preserved
loop-i-preserved c = let a = c.args in
    let at = c.loop-i in
    goes_on at.invariant (omega arith) (omega (arith, c.loop-i-test.true)) (c.forget-in-Gap.auto.codes ∙ at.invariant.size) (λ part first. lost part a.family a.bytes.now first at.i at.cells _ at.control _ c.loop-i-test.true (shown_as a.bytes.now at.i c.in-Gap.is c.everyday_at-record.ensures) (c.forget-in-Gap.auto.codes ∙ at.invariant.size) (λ j k. c.forget-in-Gap.ensures 8 j k) c.no_control-control.ensures)

pub returns-in-Other : goal.returns-in-Other
returns-in-Other c = c.loop-i.invariant

pub returns : goal.returns
returns c = c.loop-i.invariant
