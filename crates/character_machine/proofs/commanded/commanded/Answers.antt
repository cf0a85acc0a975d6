-- `character_machine::commanded::commanded` meets its contract: each arm knows its command; what it stores, with the position that `at` gives, is the rule fact by fact.
-- Assumes nothing.
use mathlib.Core.Path.{refl, ◌∙◌}
use Rattle.rules.specs.Change.{set_bits}
use Rattle.character.specs.Move.{then}
use Rattle.character.specs.declared.Position.TheVariants.{Ignoring}
use Rattle.character.specs.Laws.{every, port_set}
use Rattle.character.specs.Fact.{dcram, cgram, adram, dcram_at, cgram_at, adram_at, column, port, duty, digits, lights, position}
use Rattle.character_machine.proofs.commanded.commanded.Goals as goal

pub returns-in-Cgram : goal.returns-in-Cgram
returns-in-Cgram c = rw c.in-Cgram.is (let h = c.at-in-Cgram.ensures in every _ (λ i k. h (dcram i k)) (λ i k. h (cgram i k)) (λ i k. h (adram i k)) (h dcram_at) (h cgram_at) (h adram_at) (h column) (λ k. h (port k)) (h duty) (h digits) (h lights) (h position))

pub returns-in-Port : goal.returns-in-Port
unfolding set_bits
returns-in-Port c =
    let a = c.args in
    let h = c.at-in-Port.ensures in
    rw c.in-Port.is
    (every _ (λ i k. h (dcram i k)) (λ i k. h (cgram i k)) (λ i k. h (adram i k)) (h dcram_at) (h cgram_at) (h adram_at) (h column)
    (λ k. h (port k) ∙ port_set a.chip (then Ignoring) _ _ k refl refl) (h duty) (h digits) (h lights) (h position))
