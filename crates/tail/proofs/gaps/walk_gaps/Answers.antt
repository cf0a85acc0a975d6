-- `tail::gaps::walk_gaps` meets its contract: what is left of the walk, from the last gap so far, ends as the whole walk does.
-- Assumes nothing.
use Rattle.std.specs.Prelude.{◌+◌, drop}
use Rattle.std.proofs.Common.{arith, sym, ◌∙◌, length-drop}
use Rattle.recording.specs.Steps.{rest, rest_next}
use Rattle.recording.specs.Tests.{record_fits}
use Rattle.recording.specs.Walk.{walked}
use Rattle.tail.specs.Laws.{kept_next}
use Rattle.tail.proofs.gaps.walk_gaps.Goals as goal

pub loop-i-smaller : goal.loop-i-smaller
loop-i-smaller c = let a = c.args in
    let read = c.in-Ok.field-0 in
    let f = record_fits a.part (drop c.loop-i.i a.bytes.now) read.event read.length (sym c.record_at.ensures ∙ c.in-Ok.is) in
    let d = length-drop c.loop-i.i a.bytes.now in
    omega (arith, f, d, c.loop-i-test.true)

pub loop-i-preserved : goal.loop-i-preserved
loop-i-preserved c = let a = c.args in
    let read = c.in-Ok.field-0 in
    let e = sym c.record_at.ensures ∙ c.in-Ok.is in
    let f = record_fits a.part (drop c.loop-i.i a.bytes.now) read.event read.length e in
    let d = length-drop c.loop-i.i a.bytes.now in
    let h = rest_next a.part a.bytes.now c.loop-i.i read.event read.length c.loop-i-test.true e in (
      omega (arith, f, d, c.loop-i-test.true),
      kept_next (walked a.part a.bytes.now) c.loop-i.i read.event (rest a.part a.bytes.now c.loop-i.i) (rest a.part a.bytes.now (c.loop-i.i + read.length)) c.loop-i.start c.behind-start.result h c.behind-start.ensures c.loop-i.invariant.1,
    )
