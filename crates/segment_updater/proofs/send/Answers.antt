-- `segment_updater::send` meets its contract: what was counted tells the length; 10 where there is no room, else the setting and the runs are the stream.
-- Assumes nothing.
use Prim.Native.Nat.{◌+◌, ◌*◌, ◌≤◌}
use native.Mathlib.Omega.{arith}
use mathlib.Core.Path.{◌≡◌, refl}
use mathlib.Core.Bool.{Bool, true, false, not, ◌&&◌}
use lib.Dec.{eqb}
use lib.ListN.{length}
use mir.Val.{bool_byte}
use borrow.Author.Rules.{rules}
use Rattle.writing.specs.Laws.{writes_front}
use Rattle.writing.specs.Wrote.{wrote_back}
use Rattle.rules.specs.Where.{good, bad}
use Rattle.terms.specs.Event.{recording}
use Rattle.survey.specs.declared.Survey.{Survey}
use Rattle.runs.specs.declared.ring.Ring.{Ring}
use Rattle.runs.specs.Runs.{wanted}
use Rattle.runs.specs.Survey.{differ, Surveyed}
use Rattle.updating.specs.Update.{sent_events}
use Rattle.segment_updater.specs.Sends.{Told, told, told_most, told_size, told_count, told_behind, sent_written}
use Rattle.segment_updater.proofs.send.Goals as goal

-- A test counts once at most.
one_most : (t : Bool) → bool_byte t ≤ 1
one_most true = omega arith
one_most false = omega arith

-- What was counted, and whether 40H goes first.
module _ (ring : Ring) (set : Bool) {r : Survey} (s : Surveyed ring.n (differ ring.codes.now ring.wanted.now) r) where
  abbrev setting : Bool
  setting = not set && not (eqb r.cells 0)

  found : Told ring.n (differ ring.codes.now ring.wanted.now) set ring.wanted.now ring.some r.cells r.runs (bool_byte setting) setting
  found = told ring.n (differ ring.codes.now ring.wanted.now) set ring.wanted.now ring.some r s

  few : (r.cells ≤ ring.n) × (r.runs ≤ ring.n)
  few = let m = told_most ring.n (differ ring.codes.now ring.wanted.now) set ring.wanted.now ring.some r.cells r.runs _ _ found in (m.0, m.1)

  sized : 2 * r.cells + 4 * (r.runs + bool_byte setting) ≡ length (recording (sent_events ring.n (differ ring.codes.now ring.wanted.now) set (wanted ring.wanted.now)))
  sized = told_size ring.n (differ ring.codes.now ring.wanted.now) set ring.wanted.now ring.some r.cells r.runs _ _ found

pub overflow_mul-size : goal.overflow_mul-size
overflow_mul-size c = omega (arith, one_most, few c.args.ring c.args.set c.look_over-found.ensures, c.args.ring.few)

pub overflow_add-size : goal.overflow_add-size
overflow_add-size c = omega (arith, one_most, few c.args.ring c.args.set c.look_over-found.ensures, c.args.ring.few)

pub overflow_mul-size-2 : goal.overflow_mul-size-2
overflow_mul-size-2 c = omega (arith, one_most, few c.args.ring c.args.set c.look_over-found.ensures, c.args.ring.few)

pub overflow_add-size-2 : goal.overflow_add-size-2
overflow_add-size-2 c = omega (arith, one_most, few c.args.ring c.args.set c.look_over-found.ensures, c.args.ring.few)

pub returns-then-out-size : goal.returns-then-out-size
returns-then-out-size c =
    let z = sized c.args.ring c.args.set c.look_over-found.ensures in
    (bad (λ q. omega (arith, z, c.if-out-size.true)) (record { numbered = refl; placed = refl; counted = refl; kept = refl }), refl)

pub write_runs-end-requires : goal.write_runs-end-requires
write_runs-end-requires c = c.look_over-found.ensures.front

pub returns : goal.returns
returns c =
    let a = c.args in
    let ring = a.ring in
    let w = ring.wanted.now in
    let d = differ ring.codes.now w in
    let r = c.look_over-found.result in
    let t = found ring a.set c.look_over-found.ensures in
    let z = sized ring a.set c.look_over-found.ensures in
    let fits : length (recording (sent_events ring.n d a.set (wanted w))) ≤ length a.out.now = omega (arith, z, c.if-out-size.false) in
    let both = sent_written ring.n d a.set w ring.some _ t.setting_is c.write_setting.ensures c.write_runs-end.ensures.1 in (
      good fits (record {
        numbered = refl;
        placed = z;
        counted = told_count ring.n d a.set w ring.some r.cells r.runs _ _ t;
        wrote = (writes_front fits (wrote_back both (search rules))).1;
      }),
      told_behind ring.n d a.set w ring.some r.cells r.runs _ _ t _ _ c.write_runs-end.ensures.0 c.behind_last.ensures,
    )
