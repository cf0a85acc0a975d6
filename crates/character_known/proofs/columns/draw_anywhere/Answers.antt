-- `character_known::columns::draw_anywhere` meets its contract: a known column may be in any character, an unknown one in any place.
-- Assumes nothing.
use mathlib.Core.Path.{refl, ap}
use Rattle.fact.specs.View.{stands}
use Rattle.character_known.specs.Ram.{columns}
use Rattle.character_known.specs.Open.{open_step}
use Rattle.character_known.specs.Places.{as_changed, character_step}
use Rattle.character_known.proofs.columns.draw_anywhere.Goals as goal

pub returns-in-Known : goal.returns-in-Known
returns-in-Known c = let s = c in
    as_changed columns c.drawing-c.ensures refl (character_step s.args.byte s.args.c _ s.requires (ap stands c.in-Known.is))

pub returns-in-Unknown : goal.returns-in-Unknown
returns-in-Unknown c = open_step c.args.byte columns (c.requires, ap stands c.in-Unknown.is)
