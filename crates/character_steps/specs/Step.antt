-- What an event makes of a knowledge, told in two: the facts beside the memory, and what happens to each RAM.
use Rattle.rules.specs.Rule.{Rule}
use Rattle.knowing.specs.Standing.{Standing}
use Rattle.knowing.specs.Steps as Of
use Rattle.knowing.specs.Ways as Ways
use Rattle.changes.specs.declared.Change.TheVariants.{Keep, Forget}
use Rattle.changes.specs.Change.{seen, Inside}
use Rattle.character.specs.Fact.{Fact, same?, range, text_bits, column_bits, pair_bits}
use Rattle.character_knowledge.specs.declared.Control.{Control}
use Rattle.character_knowledge.specs.View.{Memory, blank, cview}
use Rattle.character_steps.specs.declared.Step.{Step}

-- What is known of the memory after a step.
abbrev pub after : Step → Memory → Memory
after r m = record {
  dcram = λ i k. seen text_bits r.dcram i k (m.dcram i k);
  cgram = λ i k. seen column_bits r.cgram i k (m.cgram i k);
  adram = λ i k. seen pair_bits r.adram i k (m.adram i k);
}

-- What is known after a step, by what was known of the memory before it.
abbrev pub sview : Memory → Step → Fact → Standing
sview m r = cview (after r m) r.control

-- Each change stays within its RAM.
abbrev pub AllInside : Step → Type 0
AllInside r = Inside 16 r.dcram × (Inside 40 r.cgram × Inside 16 r.adram)

-- The step r is what the rule makes of c, whatever is known of the memory, and it stays within it.
abbrev pub Steps : Rule Fact Fact → Control → Step → Type 0
Steps = Of.Steps cview sview AllInside same? range

-- The same where the memory stays, and where it is forgotten.
abbrev pub Keeps : Rule Fact Fact → Control → Control → Type 0
Keeps rule c r = (m : Memory) → Ways.Knows (cview m) (cview m) same? range rule c r

abbrev pub Forgets : Rule Fact Fact → Control → Control → Type 0
Forgets rule c r = (m : Memory) → Ways.Knows (cview m) (cview blank) same? range rule c r

abbrev pub kept_of : Control → Step
kept_of c = record { control = c; dcram = Keep; cgram = Keep; adram = Keep }

abbrev pub forgotten_of : Control → Step
forgotten_of c = record { control = c; dcram = Forget; cgram = Forget; adram = Forget }
