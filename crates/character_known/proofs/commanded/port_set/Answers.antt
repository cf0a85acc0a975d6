-- `character_known::commanded::port_set` meets its contract: only the bits of the port and the position change.
-- Assumes nothing.
use mathlib.Core.Path.{refl}
use Rattle.rules.specs.Change.{set_bits}
use Rattle.lamps.specs.Lamp.{wide2}
use Rattle.changes.specs.Laws.{code_told}
use Rattle.character.specs.Fact.{same?, port}
use Rattle.character.specs.Laws.{every, ports_apart}
use Rattle.character_knowledge.specs.View.{cview}
use Rattle.character_known.proofs.commanded.port_set.Goals as goal

pub returns : goal.returns
unfolding set_bits
returns c = λ m.
    let a = c.args in
    every _ (λ i k. refl) (λ i k. refl) (λ i k. refl) refl refl refl refl
    (λ k. code_told same? port ports_apart (cview m a.c) 2 771 a.bits a.c.port _ k wide2 refl c.put_byte-port.ensures)
    refl refl refl refl
