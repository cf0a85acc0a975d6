-- `character_known::lost::nothing_known` meets its contract: nothing is known beside the memory, and nothing of each row.
-- Assumes nothing.
use Rattle.rules.specs.Choice.{both}
use Rattle.character.specs.Fact.{dcram_at, cgram_at, adram_at, column, port, duty, digits, lights, position}
use Rattle.character.specs.Laws.{every}
use Rattle.character_known.proofs.lost.nothing_known.Goals as goal

pub returns-then-nothing_left : goal.returns-then-nothing_left
returns-then-nothing_left c = λ e.
    let all = both _ _ e in
    let two = both _ _ all.1 in
    let u = c.nothing_left.ensures c.if-nothing_left.true in
    every _ (λ i k. c.none_known.ensures all.0 8 i k) (λ i k. c.none_known-then-nothing_left.ensures two.0 7 i k) (λ i k. c.none_known-then-nothing_left-2.ensures two.1 2 i k)
    (u dcram_at) (u cgram_at) (u adram_at) (u column) (λ k. u (port k)) (u duty) (u digits) (u lights) (u position)
