-- `character_known::commanded::undefined_in` meets its contract: nothing is known but the position.
-- Assumes nothing.
use mathlib.Core.Path.{refl, ◌∙◌}
use Rattle.character.specs.Fact.{dcram_at, cgram_at, adram_at, column, port, duty, digits, lights, position}
use Rattle.character.specs.Laws.{every, port_undefined}
use Rattle.character_knowledge.specs.View.{blank}
use Rattle.character_known.proofs.commanded.undefined_in.Goals as goal

pub returns : goal.returns
returns c = let u = c.no_control.ensures in
    let e = c.at.ensures blank in
    λ k m. every _ (λ i k. refl) (λ i k. refl) (λ i k. refl) (e dcram_at ∙ u dcram_at) (e cgram_at ∙ u cgram_at) (e adram_at ∙ u adram_at) (e column ∙ u column) (λ k. rw (port_undefined k) (e (port k) ∙ u (port k))) (e duty ∙ u duty) (e digits ∙ u digits) (e lights ∙ u lights) (e position)
