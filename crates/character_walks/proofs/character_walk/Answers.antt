-- `character_walks::character_walk` meets its contract: what is left of the walk makes of the knowledge so far, which stands in the rows and beside
-- them, what the whole walk makes of the first one. Each turn of the loop takes a record, the two of a strobe, or a run of bytes, and says so by the law of
-- its kind; the commands of a strobe come together behind their match.
-- Assumes nothing.
use Rattle.std.proofs.Common.{rules, arith, sym, ap, ◌∙◌, ◌+◌, ◌≡◌}
use Rattle.rules.specs.Rule.{gives}
use Rattle.recording.specs.Steps.{rest, rest_end, rest_stops}
use Rattle.recording.specs.Walk.{walked, done}
use Rattle.std.specs.Prelude.{Ok, Err}
use Rattle.recording.specs.Record.{record_of}
use Rattle.terms.specs.declared.Event.TheVariants.{Falls, ByteIn, Rises, Gap}
use Rattle.lamps.specs.Lamp.{wide8, wide7, wide2}
use Rattle.character.specs.declared.command.Command.{Command}
use Rattle.character.specs.Command.{command_of}
use Rattle.character.specs.Move.{move, commanded}
use Rattle.character.specs.Fact.{same?, range}
use Rattle.character_knowledge.specs.declared.Control.{Control}
use Rattle.character_knowledge.specs.declared.Knowledge.{Knowledge}
use Rattle.character_knowledge.specs.View.{memory, kview, Knows}
use Rattle.character_steps.specs.Step.{Keeps}
use Rattle.character_known.specs.Ram.{text, columns, pairs}
use Rattle.character_known.specs.Everyday.{hit, first_kept, first_forgot}
use Rattle.character_known.specs.Together.{together}
use Rattle.walks.specs.Kept.{kept_as, kept_done, kept_stops}
use Rattle.walks.specs.Reads.{falls_there, byte_there, rises_there, gap_there}
use Rattle.character_walks.specs.Reached.{Sized, Reached, reached, blanked, glanced, record_within, one_on, strobe_on}
use Rattle.character_walks.specs.Runs.{stored_on, passed_on}
use Rattle.character_walks.proofs.character_walk.Goals as goal
use Rattle.character_walks.proofs.character_walk.Goals.{in-Dcram, in-Cgram, in-Adram, in-Port, in-Duty, in-Digits, in-Light, in-Nothing, in-Undefined}

pub loop-i-preserved-in-Falls : goal.loop-i-preserved-in-Falls
loop-i-preserved-in-Falls c = let at = c.loop-i in
    let inside = c.loop-i-test.true in
    one_on at.invariant inside _ Falls 1 (falls_there c.args.part c.args.bytes.now at.i (glanced c.args.bytes.now at.i c.in-Falls.is c.everyday_at-day.ensures) inside) (c.falls-control.ensures (memory (together at.rows at.control))) at.invariant.sized

-- Each command sets what it is about, or forgets all.
pub loop-i-preserved-in-Strobe : goal.loop-i-preserved-in-Strobe
loop-i-preserved-in-Strobe c = let a = c.args in
    let at = c.loop-i in
    let l = a.bytes.now in
    let day = glanced l at.i c.in-Strobe.is c.everyday_at-day.ensures in
    let b = c.in-Strobe.byte in
    let falls = c.falls-control-in-Strobe in
    let begun = together at.rows falls.result in
    let said = sym c.command_of-command.ensures in
    let on : (r : Knowledge) → Knows (move (ByteIn b)) begun r → Sized r → Reached a.part l (walked a.part l) (kview a.k) (at.i + 3) r = λ r. strobe_on at.invariant c.loop-i-test.true begun r b (falls_there a.part l at.i day.0 c.loop-i-test.true) (byte_there a.part l (at.i + 1) day.1.kind day.1.there ∙ ap (λ x. Ok (record_of (ByteIn x) 2)) (sym day.1.byte)) (omega (arith, day.1.there)) (falls.ensures (memory (together at.rows at.control))) in
    let sets : (r : Control) (x : Command) → command_of b ≡ x → Keeps (gives (commanded x)) falls.result r → Reached a.part l (walked a.part l) (kview a.k) (at.i + 3) (together at.rows r) = λ r x e k. on (together at.rows r) (first_kept b at.control falls.result r falls.ensures e k (memory begun)) at.invariant.sized in
    elim c.match-command.branch [
      | in-Dcram w ↦ reached w.rows-is w.control-is (sets _ _ (said ∙ w.in-Dcram.is) w.show_from-control.ensures)
      | in-Cgram w ↦ reached w.rows-is w.control-is (sets _ _ (said ∙ w.in-Cgram.is) w.draw_from-control.ensures)
      | in-Adram w ↦ reached w.rows-is w.control-is (sets _ _ (said ∙ w.in-Adram.is) w.mark_from-control.ensures)
      | in-Port w ↦ reached w.rows-is w.control-is (sets _ _ (said ∙ w.in-Port.is) w.port_set-control.ensures)
      | in-Duty w ↦ reached w.rows-is w.control-is (sets _ _ (said ∙ w.in-Duty.is) w.duty_set-control.ensures)
      | in-Digits w ↦ reached w.rows-is w.control-is (sets _ _ (said ∙ w.in-Digits.is) w.digits_set-control.ensures)
      | in-Light w ↦ reached w.rows-is w.control-is (sets _ _ (said ∙ w.in-Light.is) w.lights_set-control.ensures)
      | in-Nothing w ↦ reached w.rows-is w.control-is (sets _ _ (said ∙ w.in-Nothing.is) w.ignoring_on-control.ensures)
      | in-Undefined w ↦ reached w.rows-is w.control-is (on (together w.forget_all.new.rows w.undefined_in-control.result)
          (blanked (move (ByteIn b)) begun w.undefined_in-control.result (first_forgot b at.control falls.result w.undefined_in-control.result falls.ensures (said ∙ w.in-Undefined.is) (w.undefined_in-control.ensures falls.result)) w.forget_all.ensures.blank) w.forget_all.ensures.sized)
    ]

pub loop-i-preserved-in-Rises : goal.loop-i-preserved-in-Rises
loop-i-preserved-in-Rises c = let at = c.loop-i in
    let inside = c.loop-i-test.true in
    one_on at.invariant inside _ Rises 1 (rises_there c.args.part c.args.bytes.now at.i (glanced c.args.bytes.now at.i c.in-Rises.is c.everyday_at-day.ensures) inside) (c.rises-control.ensures (memory (together at.rows at.control))) at.invariant.sized

pub loop-i-preserved-in-Shown : goal.loop-i-preserved-in-Shown
loop-i-preserved-in-Shown c = let at = c.loop-i in
    let put = c.put_run-n in
    stored_on put.result at.invariant put.ensures.run text c.in-Shown.cell.0 put.new.codes c.shown_by-control.result (hit at.control c.in-Shown.is c.goes_to-to.ensures) put.ensures.room (put.ensures.stored 8 wide8) c.shown_by-control.ensures (search rules, at.invariant.sized.1)

pub loop-i-preserved-in-Drawn : goal.loop-i-preserved-in-Drawn
loop-i-preserved-in-Drawn c = let at = c.loop-i in
    let put = c.put_run-n-in-Drawn in
    stored_on put.result at.invariant put.ensures.run columns c.in-Drawn.cell.0 put.new.codes c.drawn_by-control.result (hit at.control c.in-Drawn.is c.goes_to-to.ensures) put.ensures.room (put.ensures.stored 7 wide7) c.drawn_by-control.ensures (at.invariant.sized.0, (search rules, at.invariant.sized.1.1))

pub loop-i-preserved-in-Marked : goal.loop-i-preserved-in-Marked
loop-i-preserved-in-Marked c = let at = c.loop-i in
    let put = c.put_run-n-in-Marked in
    stored_on put.result at.invariant put.ensures.run pairs c.in-Marked.cell.0 put.new.codes c.marked_by-control.result (hit at.control c.in-Marked.is c.goes_to-to.ensures) put.ensures.room (put.ensures.stored 2 wide2) c.marked_by-control.ensures (at.invariant.sized.0, (at.invariant.sized.1.0, search rules))

pub loop-i-preserved-in-Nowhere : goal.loop-i-preserved-in-Nowhere
loop-i-preserved-in-Nowhere c = let at = c.loop-i in
    passed_on c.passed.result at.invariant c.passed.ensures.run (λ b. hit at.control c.in-Nowhere.is c.goes_to-to.ensures b (memory (together at.rows at.control)))

pub overflow_mul-i-in-Elsewhere : goal.overflow_mul-i-in-Elsewhere
overflow_mul-i-in-Elsewhere c =
    let on = c.stray_run-strayed.ensures.leads c.args.part (walked c.args.part c.args.bytes.now) (kview c.args.k) c.loop-i.invariant in
    record { fits = omega (arith, on.within, c.well_formed.1.1.0) }

pub overflow_add-i-in-Elsewhere : goal.overflow_add-i-in-Elsewhere
overflow_add-i-in-Elsewhere c =
    let on = c.stray_run-strayed.ensures.leads c.args.part (walked c.args.part c.args.bytes.now) (kview c.args.k) c.loop-i.invariant in
    record { fits = omega (arith, on.within, c.well_formed.1.1.0) }

pub loop-i-preserved-in-Elsewhere : goal.loop-i-preserved-in-Elsewhere
loop-i-preserved-in-Elsewhere c = c.stray_run-strayed.ensures.leads c.args.part (walked c.args.part c.args.bytes.now) (kview c.args.k) c.loop-i.invariant

pub loop-i-preserved-in-Gap : goal.loop-i-preserved-in-Gap
loop-i-preserved-in-Gap c = let at = c.loop-i in
    let inside = c.loop-i-test.true in
    one_on at.invariant inside _ Gap 1 (gap_there c.args.part c.args.bytes.now at.i (glanced c.args.bytes.now at.i c.in-Gap.is c.everyday_at-day.ensures) inside)
    (blanked (move Gap) (together at.rows at.control) c.no_control-control.result (λ m. c.no_control-control.ensures) c.forget_all-in-Gap.ensures.blank) c.forget_all-in-Gap.ensures.sized

-- A record that is there ends within the bytes.
pub overflow_add-i-in-Ok : goal.overflow_add-i-in-Ok
overflow_add-i-in-Ok c = let f = record_within c.args.part c.args.bytes.now c.loop-i.i c.in-Ok.field-0.event c.in-Ok.field-0.length c.loop-i-test.true (sym c.record_at.ensures ∙ c.in-Ok.is) in
    record { fits = omega (arith, f, c.well_formed.1.1.0) }

pub loop-i-smaller : goal.loop-i-smaller
loop-i-smaller c = let f = record_within c.args.part c.args.bytes.now c.loop-i.i c.in-Ok.field-0.event c.in-Ok.field-0.length c.loop-i-test.true (sym c.record_at.ensures ∙ c.in-Ok.is) in
    omega (arith, f, c.loop-i-test.true)

pub loop-i-preserved : goal.loop-i-preserved
loop-i-preserved c =
    one_on c.loop-i.invariant c.loop-i-test.true _ c.in-Ok.field-0.event c.in-Ok.field-0.length (sym c.record_at.ensures ∙ c.in-Ok.is)
    c.taken-control.ensures.knows c.taken-control.ensures.sized

pub returns-in-Err : goal.returns-in-Err
returns-in-Err c = let a = c.args in
    let at = c.loop-i in
    let w = walked a.part a.bytes.now in
    let h = rest_stops a.part a.bytes.now at.i _ c.loop-i-test.true (sym c.record_at.ensures ∙ c.in-Err.is) in
    let d = kept_stops same? range move w (kview a.k) _ _ _ (kept_as same? range move w (kview a.k) (rest a.part a.bytes.now at.i) _ _ h at.invariant.kept) in
    record { ended = ap Err c.stops_at.ensures ∙ d.0; known = rw c.with.ensures d.1 }

pub returns : goal.returns
returns c = let a = c.args in
    let at = c.loop-i in
    let w = walked a.part a.bytes.now in
    let h = rest_end a.part a.bytes.now at.i c.loop-i-test.false in
    let d = kept_done same? range move w (kview a.k) _ (kept_as same? range move w (kview a.k) (rest a.part a.bytes.now at.i) done _ h at.invariant.kept) in
    record { ended = d.0; known = rw c.with-2.ensures d.1 }
