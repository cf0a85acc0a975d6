-- `character_rams::rams::to_mark` meets its contract: the cell is one of the sixteen, so its store is the rule's.
-- Assumes nothing.
use native.Mathlib.Omega.{arith}
use Prim.Native.Nat.{◌%◌, ◌<◌}
use mathlib.Core.Path.{◌≡◌, refl}
use lib.ListN.{length}
use Rattle.rules.specs.Change.{set_bits}
use Rattle.character.specs.Laws.{every, adram_stored}
use borrow.Author.Rules.{rules}
use Rattle.character_rams.proofs.rams.to_mark.Goals as goal

pub returns : goal.returns
unfolding set_bits
returns c =
    let a = c.args in
    let n : length a.chip.adram ≡ 16 = search rules in
    let h : a.chip.adram_at.0 % 16 < length a.chip.adram = omega arith in
    every _ (λ i k. refl) (λ i k. refl) (λ i k. adram_stored a.chip _ (a.chip.adram_at.0 % 16) a.byte i k refl h) refl refl refl refl (λ k. refl) refl refl refl refl
