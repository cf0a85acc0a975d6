-- Laws of steps: a control that keeps or forgets the memory is a step; a rule that looks at a known fact goes its one way, and one that looks at an unknown fact all of them;
-- and a step done to the rows makes of a knowledge what the rule makes of it.
use Rattle.std.specs.Prelude.{ℕ, ◌≡◌, List}
use Rattle.std.proofs.Common.{◌∙◌}
use Rattle.std.proofs.Math.Path.{subst⁻¹}
use Rattle.rules.specs.Rule.{Rule, look}
use Rattle.knowing.specs.Standing.{known, unknown}
use Rattle.knowing.specs.Steps as Of
use Rattle.knowing.specs.Ways as Ways
use Rattle.changes.specs.Change.{Changes}
use Rattle.character.specs.Fact.{Fact, same?, range, dcram, cgram, adram, dcram_at, cgram_at, adram_at, column, port, duty, digits, lights, position}
use Rattle.character.specs.Laws.{every}
use Rattle.character_knowledge.specs.declared.Control.{Control}
use Rattle.character_knowledge.specs.declared.Knowledge.{Knowledge}
use Rattle.character_knowledge.specs.View.{Memory, cview, memory, Knows}
use Rattle.character_steps.specs.declared.Step.{Step}
use Rattle.character_steps.specs.Step.{sview, AllInside, Steps, Keeps, Forgets, kept_of, forgotten_of}

pub kept_steps : {rule : Rule Fact Fact} {c d : Control} {r : Step} → r ≡ kept_of d → Keeps rule c d → Steps rule c r
kept_steps {rule} {c} {d} {r} e h = subst⁻¹ (λ (x : Step). Steps rule c x) e (record { knows = h; inside = (tt, (tt, tt)) })

pub forgotten_steps : {rule : Rule Fact Fact} {c d : Control} {r : Step} → r ≡ forgotten_of d → Forgets rule c d → Steps rule c r
forgotten_steps {rule} {c} {d} {r} e h = subst⁻¹ (λ (x : Step). Steps rule c x) e (record { knows = h; inside = (tt, (tt, tt)) })

-- A rule that is another, in name.
pub same_rule : {a b : Rule Fact Fact} {c : Control} {r : Step} → a ≡ b → Steps b c r → Steps a c r
same_rule = Of.as_steps cview sview AllInside same? range

-- The ways of a look, as steps of this part: `knowing/Steps` over what is known of the memory.
module _ (g : Fact) (κ : ℕ → Rule Fact Fact) (c : Control) where
  abbrev pub Goes : ℕ → Step → Type 0
  Goes = Of.Goes cview sview AllInside same? range g κ c

  abbrev pub Gathered : ℕ → Step → Type 0
  Gathered = Of.Gathered cview sview AllInside same? range g κ c

  pub known_step : (r : Step) (v : ℕ) → ((m : Memory) → cview m c g ≡ known v) → Steps (κ v) c r → Steps (look g κ) c r
  known_step r v = Of.step_known cview sview AllInside same? range g κ c v

  pub goes : (v : ℕ) (l : Control) (r : Step) → ((m : Memory) → Ways.Learns (cview m) same? g v c l) → Steps (κ v) l r → Goes v r
  goes v l r = Of.goes cview sview AllInside same? range g κ c v l

  pub all_steps : (n : ℕ) (r : Step) → range g ≡ n → ((m : Memory) → cview m c g ≡ unknown) → Gathered n r → Steps (look g κ) c r
  all_steps n r = Of.step_all cview sview AllInside same? range g κ c n

-- The step is done to the rows.
pub applied : (rule : Rule Fact Fact) (k : Knowledge) (s : Step) (d g a : List ℕ) → Steps rule k.control s → Changes 8 s.dcram k.dcram d → Changes 7 s.cgram k.cgram g → Changes 2 s.adram k.adram a
    → Knows rule k (record { dcram = d; cgram = g; adram = a; control = s.control })
applied rule k s d g a h p q r =
    let e = h.knows (memory k) in
    every _ (λ i j. p i j ∙ e (dcram i j)) (λ i j. q i j ∙ e (cgram i j)) (λ i j. r i j ∙ e (adram i j)) (e dcram_at) (e cgram_at) (e adram_at) (e column) (λ k. e (port k)) (e duty) (e digits) (e lights) (e position)
