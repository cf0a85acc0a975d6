-- `changes::rows::forget` meets its contract: all codes are 0, so that none says anything. Assumes nothing.
use mathlib.Core.Path.{◌≡◌}
use lib.ListN.{length, replicate}
use Rattle.lamps.specs.Row.{none_held}
use Rattle.changes.proofs.rows.forget.Goals as goal

pub returns : goal.returns
returns c =
    let e : c.fill.new.self ≡ replicate (length c.args.codes.now) 0 = c.fill.ensures.after (λ y h. h) in
    λ w i k. rw e (none_held w _ i k)
