-- `account_fair::is_start` meets its contract: no bytes are a start.
-- Assumes nothing.
use mathlib.Core.Path.{sym, ◌∙◌}
use Rattle.account_fair.specs.Laws.{cut_none}
use Rattle.account_fair.proofs.is_start.Goals as goal

pub returns-then-count-eq0 : goal.returns-then-count-eq0
returns-then-count-eq0 c = cut_none c.args.part _ (sym c.count_of-count.ensures ∙ c.if-count-eq0.true)
