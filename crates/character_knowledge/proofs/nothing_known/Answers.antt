-- `character_knowledge::nothing_known` meets its contract: no cell is known, and nothing beside them.
-- Assumes nothing.
use Rattle.lamps.specs.Row.{none_held}
use Rattle.character.specs.Fact.{dcram_at, cgram_at, adram_at, column, port, duty, digits, lights, position}
use Rattle.character.specs.Laws.{every}
use Rattle.character_knowledge.proofs.nothing_known.Goals as goal

pub returns : goal.returns
returns c = let n = c.no_control.ensures in
    every _ (none_held 8 16) (none_held 7 40) (none_held 2 16)
    (n dcram_at) (n cgram_at) (n adram_at) (n column) (λ k. n (port k)) (n duty) (n digits) (n lights) (n position)
