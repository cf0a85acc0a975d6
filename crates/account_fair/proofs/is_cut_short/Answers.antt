-- `account_fair::is_cut_short` meets its contract: what is read at the front tells whether the bytes are cut short.
-- Assumes nothing.
use Rattle.std.specs.Prelude.{Err}
use Rattle.std.proofs.Common.{sym, ap, ◌∙◌}
use Rattle.account_fair.specs.Laws.{is_cut, is_told}
use Rattle.account_fair.proofs.is_cut_short.Goals as goal

pub returns-in-CutShort : goal.returns-in-CutShort
returns-in-CutShort c =
    is_cut c.args.part c.args.bytes.now c.requires (sym c.record_at.ensures ∙ c.in-Err.is ∙ ap Err c.in-CutShort.is)

pub returns-in-Unlisted : goal.returns-in-Unlisted
returns-in-Unlisted c =
    is_told c.args.part c.args.bytes.now _ c.requires (sym c.record_at.ensures ∙ c.in-Err.is ∙ ap Err c.in-Unlisted.is) tt

pub returns-in-Foreign : goal.returns-in-Foreign
returns-in-Foreign c =
    is_told c.args.part c.args.bytes.now _ c.requires (sym c.record_at.ensures ∙ c.in-Err.is ∙ ap Err c.in-Foreign.is) tt

pub returns-in-Forbidden : goal.returns-in-Forbidden
returns-in-Forbidden c =
    is_told c.args.part c.args.bytes.now _ c.requires (sym c.record_at.ensures ∙ c.in-Err.is ∙ ap Err c.in-Forbidden.is) tt

pub returns-in-Ok : goal.returns-in-Ok
returns-in-Ok c = is_told c.args.part c.args.bytes.now _ c.requires (sym c.record_at.ensures ∙ c.in-Ok.is) tt
