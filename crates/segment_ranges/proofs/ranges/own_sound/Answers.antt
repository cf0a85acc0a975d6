-- `segment_ranges::ranges::own_sound` meets its contract: each arm's numbers are the ranges of its part, and the tests together are all four facts in
-- range. PT6315 has no switches, and any byte stands there in range. Assumes nothing.
use mathlib.Core.Path.{refl}
use Rattle.segment.specs.Family.{sizes}
use Rattle.rules.specs.Tests.{both_tell, tells_as}
use Rattle.fact.specs.View.{stands}
use Rattle.segment_ranges.specs.Ranges.{byte_lacking}
use Rattle.segment_ranges.proofs.ranges.own_sound.Goals as goal

pub returns-in-Pt6312 : goal.returns-in-Pt6312
unfolding sizes
returns-in-Pt6312 c =
    rw c.in-Pt6312.is
    (both_tell refl
    (both_tell refl (both_tell refl c.within.ensures.0 c.within-in-Pt6312.ensures.0) c.within-in-Pt6312-2.ensures.0)
    c.within-low.ensures.0)

pub returns-in-Pt6315 : goal.returns-in-Pt6315
unfolding sizes
returns-in-Pt6315 c =
    rw c.in-Pt6315.is
    (tells_as (λ p. (p, byte_lacking (stands c.args.switches) c.within-low.ensures.1)) (λ p. p.0)
    (both_tell refl (both_tell refl c.within-in-Pt6315.ensures.0 c.within-in-Pt6315-2.ensures.0) c.within-in-Pt6315-3.ensures.0))
