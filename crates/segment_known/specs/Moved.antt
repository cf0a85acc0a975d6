-- A step, and the cells changed as it says, are what the event makes of the knowledge.
use Rattle.std.specs.Prelude.{ℕ, ◌≡◌, refl, List}
use Rattle.std.proofs.Common.{◌∙◌}
use Rattle.changes.specs.Change.{Changes}
use Rattle.terms.specs.declared.Event.{Event}
use Rattle.segment.specs.declared.Family.{Family}
use Rattle.segment.specs.Family.{sizes}
use Rattle.segment.specs.Fact.{Fact}
use Rattle.segment.specs.Laws.{every}
use Rattle.segment.specs.Move.{move}
use Rattle.segment_knowledge.specs.declared.Knowledge.{Knowledge}
use Rattle.segment_knowledge.specs.View.{held, kview, Knows}
use Rattle.segment_steps.specs.declared.Step.{Step}
use Rattle.segment_steps.specs.Step.{sview, Steps}

-- The knowledge of the cells and what stands beside them is what the step says.
changed_view : (old new : List ℕ) (r : Step) → Changes 8 r.change old new → (f : Fact) → kview (record { cells = new; control = r.control }) f ≡ sview (held old) r f
changed_view old new r h =
    every (λ (f : Fact). kview (record { cells = new; control = r.control }) f ≡ sview (held old) r f)
    h refl refl refl refl refl refl (λ k. refl) (λ i. refl) refl refl refl

pub step_done : (p : Family) (k : Knowledge) (e : Event) (r : Step) (new : List ℕ) → Steps (sizes p) (move (sizes p) e) k.control r → Changes 8 r.change k.cells new
    → Knows (sizes p) (move (sizes p) e) k (record { cells = new; control = r.control })
step_done p k e r new h m f = changed_view k.cells new r m f ∙ h.knows (held k.cells) f
