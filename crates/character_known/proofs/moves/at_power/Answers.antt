-- `character_known::moves::at_power` meets its contract: nothing is known of the memory, and each single fact is as the rule has it.
-- Assumes nothing.
use mathlib.Core.Path.{refl}
use Rattle.lamps.specs.Lamp.{wide2}
use Rattle.changes.specs.Laws.{code_told}
use Rattle.character.specs.Fact.{same?, port}
use Rattle.character.specs.Laws.{every, ports_apart}
use Rattle.character_knowledge.specs.View.{cview}
use Rattle.character_steps.specs.Steps.{forgotten_steps}
use Rattle.character_known.proofs.moves.at_power.Goals as goal

pub returns : goal.returns
returns c = let a = c.args in
    forgotten_steps c.forgotten.ensures (λ m. every _ (λ i k. refl) (λ i k. refl) (λ i k. refl) refl refl refl refl
    (λ k. code_told same? port ports_apart (cview m a.c) 2 771 0 a.c.port _ k wide2 refl c.put_byte-port.ensures)
    refl refl refl refl)
