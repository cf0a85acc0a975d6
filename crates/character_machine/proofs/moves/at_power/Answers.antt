-- `character_machine::moves::at_power` meets its contract: fact by fact, the RAMs are anything and the others what the rule says; the port without its two
-- low bits is the port with those of 0.
-- Assumes nothing.
use mathlib.Core.Path.{refl, sym}
use lib.Bits.{or_zero_r}
use Rattle.character.specs.Laws.{every, port_set}
use Rattle.rules.specs.Change.{keep}
use Rattle.character_machine.proofs.moves.at_power.Goals as goal

pub returns : goal.returns
returns c =
    let a = c.args in
    every _ (λ i k. refl) (λ i k. refl) (λ i k. refl) refl refl refl refl (λ k. port_set a.chip keep _ 0 k refl (sym (or_zero_r _))) refl refl refl refl
