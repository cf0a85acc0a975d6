-- `segment_known::commanded::to_mode` meets its contract: the mode so far is known, or not. Assumes nothing.
use Rattle.segment.specs.Family.{sizes}
use Rattle.segment_known.specs.Ways.{mode_set, top_room}
use Rattle.segment_known.proofs.commanded.to_mode.Goals as goal

pub returns : goal.returns
returns c = let a = c.args in
    mode_set (sizes a.family) a.c a.code _ c.requires (top_room a.family) c.display_in-display.ensures
