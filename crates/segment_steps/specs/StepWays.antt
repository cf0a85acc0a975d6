-- A look at a known fact, as a step of this family: `knowing/Steps` over what is known of the cells.
use Rattle.std.specs.Prelude.{ℕ, ◌≡◌}
use Rattle.rules.specs.Rule.{Rule, look}
use Rattle.knowing.specs.Standing.{Standing, known}
use Rattle.knowing.specs.Steps as Of
use Rattle.segment.specs.declared.Sizes.{Sizes}
use Rattle.segment.specs.Fact.{Fact, same?, range}
use Rattle.segment_knowledge.specs.declared.Control.{Control}
use Rattle.segment_knowledge.specs.View.{cview}
use Rattle.segment_steps.specs.declared.Step.{Step}
use Rattle.segment_steps.specs.Step.{sview, StaysInside, Steps}

pub step_known : (s : Sizes) (g : Fact) (κ : ℕ → Rule Fact Fact) (c : Control) {r : Step} (v : ℕ) → ((cells : ℕ → ℕ → Standing) → cview cells c g ≡ known v) → Steps s (κ v) c r → Steps s (look g κ) c r
step_known s = Of.step_known cview sview StaysInside same? (range s)
