-- `runs::ring::Ring::write_runs` meets its contract. The invariant: what has been written so far, and what is ahead, are the runs, and so for the
-- cell behind the last of them.
-- Assumes nothing.
use Prim.Native.Nat.{◌+◌, ◌-◌}
use native.Mathlib.Omega.{arith}
use mathlib.Core.Path.{◌≡◌}
use Rattle.runs.specs.Runs.{wanted}
use Rattle.runs.specs.Walk.{behind_inside}
use Rattle.runs.specs.Survey.{differ}
use Rattle.runs.specs.Front.{front_is}
use Rattle.runs.specs.Written.{begun, more, ended, end_begun, end_more}
use Rattle.runs.proofs.ring.Ring.write_runs.Goals as goal

pub loop-init : goal.loop-init
loop-init c =
    let a = c.args.self in
    let d = differ a.codes.now a.wanted.now in
    let z : a.n - 0 ≡ a.n = omega arith in
    rw (c.requires, z) ((front_is a.n d a.some).inside, begun a.n d (wanted a.wanted.now) _ a.some, end_begun a.n d a.some)

pub loop-preserved : goal.loop-preserved
loop-preserved c =
    let a = c.args.self in
    let l = c.loop in
    let d = differ a.codes.now a.wanted.now in
    let e : c.differs-here.result ≡ d l.i = c.differs-here.ensures in
    let left = a.n - l.counter in
    let z : a.n - (l.counter + 1) ≡ a.n - l.counter - 1 = omega arith in
    rw (c.last_end-end.ensures, c.next-i.ensures, e, z) (
      behind_inside a.n l.i l.invariant.0,
      more a.n d (wanted a.wanted.now) _ l.w _ l.low l.i left l.invariant.1 (omega arith) (rw e at c.write_cell.ensures),
      end_more a.n d l.end l.i left l.invariant.0 l.invariant.2 (omega arith),
    )

pub returns : goal.returns
returns c =
    let a = c.args.self in
    let l = c.loop in
    let z : a.n - l.counter ≡ 0 = omega arith in
    ((rw z at l.invariant.2).ahead, ended a.n (differ a.codes.now a.wanted.now) (wanted a.wanted.now) _ l.w _ l.low l.i (rw z at l.invariant.1) c.rise.ensures)
