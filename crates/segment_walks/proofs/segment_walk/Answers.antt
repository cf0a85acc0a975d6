-- `segment_walk` meets its contract: what is left of the walk makes of the knowledge so far, which stands in the cells and beside them, what the whole walk makes of the first
-- one. The records of every day keep that, and so does each record that is not of every day. Assumes nothing.
use Rattle.std.specs.Prelude.{Err}
use borrow.Author.Rules.{rules}
use native.Mathlib.Omega.{arith}
use mathlib.Core.Path.{sym, ap, ◌∙◌}
use lib.ListN.{drop, length-drop}
use Rattle.recording.specs.Steps.{rest, rest_end, rest_stops, stop_fits}
use Rattle.recording.specs.Tests.{record_fits}
use Rattle.recording.specs.Walk.{walked, done}
use Rattle.walks.specs.Kept.{kept_start, kept_as, kept_done, kept_stops}
use Rattle.segment.specs.Fact.{same?, range}
use Rattle.segment.specs.Family.{sizes}
use Rattle.segment.specs.Move.{move}
use Rattle.segment_knowledge.specs.View.{kview}
use Rattle.segment_everyday.specs.Arms.{takes}
use Rattle.segment_walks.proofs.segment_walk.Goals as goal

pub loop-i-init : goal.loop-i-init
loop-i-init c = (omega arith, record { size = search rules; kept = kept_start same? _ _ _ _ })

pub returns-then-bytes-i : goal.returns-then-bytes-i
returns-then-bytes-i c =
    let a = c.args in
    let i = c.everyday_walk-went.result.at.0 in
    let stood = c.everyday_walk-went.ensures.stands a.part a.k c.loop-i.invariant.1 in
    let h = rest_end a.part a.bytes.now i c.if-bytes-i.true in
    let d = kept_done same? (range (sizes a.family)) (move (sizes a.family)) (walked a.part a.bytes.now) (kview a.k) _ (kept_as same? (range (sizes a.family)) (move (sizes a.family)) (walked a.part a.bytes.now) (kview a.k) (rest a.part a.bytes.now i) done _ h stood.kept) in
    record { ended = d.0; known = d.1 }

pub overflow_add-i : goal.overflow_add-i
overflow_add-i c =
    let a = c.args in
    let i = c.everyday_walk-went.result.at.0 in
    let read = c.in-Ok.field-0 in
    let e = sym c.record_at.ensures ∙ c.in-Ok.is in
    let fits = record_fits a.part (drop i a.bytes.now) read.event read.length e in
    let d = length-drop i a.bytes.now in
    record { fits = omega (arith, fits, d, c.if-bytes-i.false) }

pub loop-i-smaller : goal.loop-i-smaller
loop-i-smaller c =
    let a = c.args in
    let i = c.everyday_walk-went.result.at.0 in
    let read = c.in-Ok.field-0 in
    let e = sym c.record_at.ensures ∙ c.in-Ok.is in
    let fits = record_fits a.part (drop i a.bytes.now) read.event read.length e in
    let d = length-drop i a.bytes.now in
    omega (arith, fits, d, c.if-bytes-i.false, c.everyday_walk-went.ensures.behind)

pub loop-i-preserved : goal.loop-i-preserved
loop-i-preserved c =
    let a = c.args in
    let i = c.everyday_walk-went.result.at.0 in
    let read = c.in-Ok.field-0 in
    let e = sym c.record_at.ensures ∙ c.in-Ok.is in
    let fits = record_fits a.part (drop i a.bytes.now) read.event read.length e in
    let d = length-drop i a.bytes.now in
    let stood = c.everyday_walk-went.ensures.stands a.part a.k c.loop-i.invariant.1 in
    (omega (arith, fits, d, c.if-bytes-i.false), takes a.part a.family a.bytes.now a.k i read.length read.event _ c.taken-control.new.cells _ _ c.if-bytes-i.false e (omega (arith, stood.size)) c.taken-control.ensures stood)

pub stops_at-requires : goal.stops_at-requires
stops_at-requires c =
    let a = c.args in
    let i = c.everyday_walk-went.result.at.0 in
    stop_fits a.part a.bytes.now i _ c.if-bytes-i.false (sym c.record_at.ensures ∙ c.in-Err.is)

pub returns-in-Err : goal.returns-in-Err
returns-in-Err c =
    let a = c.args in
    let i = c.everyday_walk-went.result.at.0 in
    let stood = c.everyday_walk-went.ensures.stands a.part a.k c.loop-i.invariant.1 in
    let h = rest_stops a.part a.bytes.now i _ c.if-bytes-i.false (sym c.record_at.ensures ∙ c.in-Err.is) in
    let d = kept_stops same? (range (sizes a.family)) (move (sizes a.family)) (walked a.part a.bytes.now) (kview a.k) _ _ _ (kept_as same? (range (sizes a.family)) (move (sizes a.family)) (walked a.part a.bytes.now) (kview a.k) (rest a.part a.bytes.now i) _ _ h stood.kept) in
    record { ended = ap Err c.stops_at.ensures ∙ d.0; known = d.1 }
