-- `character_known::anywhere::in_anywhere` meets its contract: an undefined command may have made everything anything; of any other the six ways have in common what was known, weakened.
-- Assumes nothing.
use mathlib.Core.Path.{sym, ◌∙◌, subst}
use Rattle.character.specs.declared.command.Command.{Command}
use Rattle.character_known.specs.Weakened.{Weakens, defined_unless}
use Rattle.character_known.specs.Anywhere.{anywhere, lost_anywhere}
use Rattle.character_known.proofs.anywhere.in_anywhere.Goals as goal

pub returns-in-Undefined : goal.returns-in-Undefined
returns-in-Undefined c = let s = c in
    lost_anywhere s.args.byte s.args.c s.requires (sym c.command_of-command.ensures ∙ c.in-Undefined.is) c.lost.ensures

pub weakened-requires : goal.weakened-requires
weakened-requires c = defined_unless _ c.in_default.not-Undefined

pub returns : goal.returns
returns c = let s = c in
    let weak = c.weakened in
    rw (c.met_cells.ensures, c.met_columns.ensures, c.met_cells-2.ensures)
    (anywhere s.args.byte s.args.c s.requires weak.result (subst (λ (x : Command). Weakens x s.args.c weak.result) c.command_of-command.ensures weak.ensures))
