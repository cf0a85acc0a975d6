-- Laws of steps: a control that keeps or forgets the cells is a step.
use Rattle.std.specs.Prelude.{◌≡◌}
use Rattle.std.proofs.Math.Path.{subst⁻¹}
use Rattle.rules.specs.Rule.{Rule}
use Rattle.knowing.specs.Steps as Of
use Rattle.segment.specs.declared.Sizes.{Sizes}
use Rattle.segment.specs.Fact.{Fact, same?, range}
use Rattle.segment_knowledge.specs.declared.Control.{Control}
use Rattle.segment_knowledge.specs.View.{cview}
use Rattle.segment_steps.specs.declared.Step.{Step}
use Rattle.segment_steps.specs.Step.{sview, StaysInside, Steps, Keeps, Forgets, kept_of, forgotten_of}

pub kept_steps : (s : Sizes) {rule : Rule Fact Fact} {c d : Control} {r : Step} → r ≡ kept_of d → Keeps s rule c d → Steps s rule c r
kept_steps s {rule} {c} {d} {r} e h = subst⁻¹ (λ (x : Step). Steps s rule c x) e (record { knows = h; inside = tt })

pub forgotten_steps : (s : Sizes) {rule : Rule Fact Fact} {c d : Control} {r : Step} → r ≡ forgotten_of d → Forgets s rule c d → Steps s rule c r
forgotten_steps s {rule} {c} {d} {r} e h = subst⁻¹ (λ (x : Step). Steps s rule c x) e (record { knows = h; inside = tt })

pub as_steps : (s : Sizes) {x y : Rule Fact Fact} {c : Control} {r : Step} → x ≡ y → Steps s y c r → Steps s x c r
as_steps s = Of.as_steps cview sview StaysInside same? (range s)
