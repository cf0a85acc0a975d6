-- What an event makes of a knowledge, told in two: the facts beside the cells, and what happens to the cells.
use Rattle.std.specs.Prelude.{ℕ}
use Rattle.rules.specs.Rule.{Rule}
use Rattle.knowing.specs.Standing.{Standing, unknown}
use Rattle.knowing.specs.Steps as Of
use Rattle.knowing.specs.Ways as Ways
use Rattle.changes.specs.declared.Change.TheVariants.{Keep, Forget}
use Rattle.changes.specs.Change.{seen, Inside}
use Rattle.segment.specs.declared.Sizes.{Sizes}
use Rattle.segment.specs.Fact.{Fact, same?, range, cell_bits}
use Rattle.segment_knowledge.specs.declared.Control.{Control}
use Rattle.segment_knowledge.specs.View.{cview}
use Rattle.segment_steps.specs.declared.Step.{Step}

-- What is known after a step, by what was known of the cells before it.
abbrev pub sview : (ℕ → ℕ → Standing) → Step → Fact → Standing
sview cells r = cview (λ i k. seen cell_bits r.change i k (cells i k)) r.control

-- The change stays within the cells.
abbrev pub StaysInside : Step → Type 0
StaysInside r = Inside 36 r.change

-- The step r is what the rule makes of c, whatever is known of the cells, and it stays within them.
abbrev pub Steps : Sizes → Rule Fact Fact → Control → Step → Type 0
Steps s = Of.Steps cview sview StaysInside same? (range s)

-- The same where the cells stay, and where they are forgotten.
abbrev pub Keeps : Sizes → Rule Fact Fact → Control → Control → Type 0
Keeps s rule c r = (cells : ℕ → ℕ → Standing) → Ways.Knows (cview cells) (cview cells) same? (range s) rule c r

abbrev pub Forgets : Sizes → Rule Fact Fact → Control → Control → Type 0
Forgets s rule c r = (cells : ℕ → ℕ → Standing) → Ways.Knows (cview cells) (cview (λ i k. unknown)) same? (range s) rule c r

abbrev pub kept_of : Control → Step
kept_of c = record { control = c; change = Keep }

abbrev pub forgotten_of : Control → Step
forgotten_of c = record { control = c; change = Forget }
