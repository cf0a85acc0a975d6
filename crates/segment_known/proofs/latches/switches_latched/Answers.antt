-- `segment_known::latches::switches_latched` meets its contract: each arm knows its part, and so whether it has switches.
-- Assumes nothing.
use mathlib.Core.Path.{refl}
use Rattle.segment.specs.Family.{sizes}
use Rattle.segment.specs.Laws.{every}
use Rattle.segment_known.proofs.latches.switches_latched.Goals as goal

pub returns-in-Pt6312 : goal.returns-in-Pt6312
unfolding sizes
returns-in-Pt6312 c = λ cells. rw c.in-Pt6312.is (every _ (λ i k. refl) refl refl refl refl refl refl (λ k. refl) (λ i. refl) refl refl refl)

pub returns-in-Pt6315 : goal.returns-in-Pt6315
unfolding sizes
returns-in-Pt6315 c = λ cells. rw c.in-Pt6315.is (λ f. refl)
