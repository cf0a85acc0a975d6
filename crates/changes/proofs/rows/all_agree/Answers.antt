-- `changes::rows::all_agree` meets its contract: the codes passed agree with the byte, where each is what it has in common with it. Assumes nothing.
use native.Mathlib.Omega.{arith}
use Rattle.changes.specs.Laws.{agree_all}
use Rattle.changes.proofs.rows.all_agree.Goals as goal

pub returns : goal.returns
returns c = let l = c.loop-code in
    λ e. agree_all c.args.codes.now _ l.code-index (l.invariant e) (omega arith)
