-- `hearing::halves::after` meets its contract: the part's half becomes what its family's move makes of it, and the other is as it was.
-- Assumes nothing.
use mathlib.Core.Path.{ap, ◌∙◌}
use Rattle.parts.specs.Kind.{part_is}
use Rattle.hearing.specs.Laws.{segment_after}
use Rattle.hearing.proofs.halves.after.Goals as goal

pub returns-in-Character : goal.returns-in-Character
returns-in-Character c =
    let w = c.with_character.ensures in
    rw (c.from.ensures ∙ ap part_is c.in-Character.is)
    (record { known = rw w.0 c.moved.ensures; kept = w.1 })

pub returns-in-Segment : goal.returns-in-Segment
returns-in-Segment c =
    let w = c.with_segment.ensures in
    let a = c.args in
    rw (c.from.ensures ∙ ap part_is c.in-Segment.is)
    (segment_after _ a.event a.panel _ (rw (← w.0) at c.moved-in-Segment.ensures) w.1)
