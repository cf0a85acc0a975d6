-- `stored_runs::put_run` meets its contract: the bytes so far are a run and stand in the codes, at every step of the loop; the first is stored
-- in any case. Assumes nothing.
use Rattle.std.proofs.Common.{arith, refl, ap, subst, ◌∙◌, ℕ, ◌+◌, ◌*◌, ◌<◌, ◌≡◌, List, get_or, length}
use Rattle.std.proofs.Math.Decide.{ℕ_discrete}
use Rattle.std.proofs.Math.ListN.{set, length-set}
use Rattle.lamps.specs.View.{told}
use Rattle.changes.specs.Laws.{set_seen}
use Rattle.walks.specs.Run.{byte_of, run_none, run_more}
use Rattle.stored_runs.specs.Putting.{PutsRun, stored_more}
use Rattle.stored_runs.proofs.put_run.Goals as goal

-- The first record is a byte, so that a loop that stopped at another has passed it.
begun : (l : List ℕ) (from j : ℕ) → get_or l from 0 ≡ 3 → ¬ (get_or l (from + 2 * j) 0 ≡ 3) → 0 < j
begun l from j kind other = go (ℕ_discrete j 0)
  where
    go : Dec (j ≡ 0) → 0 < j
    go (yes p) = let e : from + 2 * j ≡ from = omega arith in absurd (other (ap (λ (i : ℕ). get_or l i 0) e ∙ kind))
    go (no p) = omega arith

pub loop-j-init : goal.loop-j-init
loop-j-init c = record { run = run_none _ _ (omega (arith, c.args.run.inside)); stored = λ w W i k. refl }

pub loop-j-preserved : goal.loop-j-preserved
loop-j-preserved c = let l = c.loop-j in
    let inside : c.args.first.0 + l.j < length l.codes = omega arith in
    record {
      run = run_more _ _ l.j l.invariant.run (omega arith) c.if-bytes-from-ne3.false;
      stored = stored_more _ c.args.first.0 (byte_of c.args.run.bytes.now c.args.run.at.0) c.args.codes.now l.j l.codes _ l.invariant.stored (λ w W. set_seen w (told w _) l.codes (c.args.first.0 + l.j) _ inside (c.put_byte.ensures w W));
    }

pub returns-then-bytes-from-ne3 : goal.returns-then-bytes-from-ne3
returns-then-bytes-from-ne3 c = let l = c.loop-j in
    record { some = begun c.args.run.bytes.now c.args.run.at.0 l.j c.args.run.kind c.if-bytes-from-ne3.true; run = l.invariant.run; room = omega arith; stored = l.invariant.stored }

-- The last one is behind all that there is room for.
pub returns : goal.returns
returns c = let l = c.loop-j in
    subst (λ (n : ℕ). PutsRun c.args.wide c.args.first.0 c.args.cells c.args.run.bytes.now c.args.run.at.0 c.args.codes.now n l.codes) (omega arith)
    (record { some = omega (arith, c.args.run.inside); run = l.invariant.run; room = omega arith; stored = l.invariant.stored })
