-- `panel_walk` meets its contract: each part goes to its family, whose facts, ranges and moves are the part's. Assumes nothing.
use mathlib.Core.Path.{ap, ◌∙◌, subst⁻¹}
use Rattle.parts.specs.Kind.{part_is}
use Rattle.packets.specs.Walks.{Walks, by_family}
use Rattle.packets.proofs.walked.panel_walk.Goals as goal

pub returns-in-Segment : goal.returns-in-Segment
returns-in-Segment c =
    let a = c.args in
    let e = c.from.ensures ∙ ap part_is c.in-Segment.is in
    subst⁻¹ (λ p. Walks p a.panel a.bytes.now c.segment_walked.result) e (by_family _ a.panel a.bytes.now c.segment_walked.result (rw e at c.segment_walked.ensures))
