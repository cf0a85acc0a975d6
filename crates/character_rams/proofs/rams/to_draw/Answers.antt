-- `character_rams::rams::to_draw` meets its contract: the column is one of the forty, so its store is the rule's; the test is the rule's own.
-- Assumes nothing.
use native.Mathlib.Omega.{arith}
use Prim.Native.Nat.{◌+◌, ◌*◌, ◌%◌, ◌<◌}
use mathlib.Core.Path.{◌≡◌, refl}
use lib.ListN.{length}
use Rattle.rules.specs.Change.{set_bits}
use borrow.Author.Tests.{eq-eqb, ne_eqb}
use Rattle.character.specs.Laws.{every, cgram_stored}
use borrow.Author.Rules.{rules}
use Rattle.character_rams.proofs.rams.to_draw.Goals as goal

pub returns-then-column-eq4 : goal.returns-then-column-eq4
unfolding set_bits
returns-then-column-eq4 c =
    let a = c.args in
    let n : length a.chip.cgram ≡ 40 = search rules in
    let h : a.chip.cgram_at.0 % 8 * 5 + a.chip.column % 5 < length a.chip.cgram = omega arith in
    simp (eq-eqb _ _ c.if-column-eq4.true)
    (every _ (λ i k. refl) (λ i k. cgram_stored a.chip _ (a.chip.cgram_at.0 % 8 * 5 + a.chip.column % 5) a.byte i k refl h) (λ i k. refl) refl refl refl refl (λ k. refl) refl refl refl refl)

pub returns : goal.returns
unfolding set_bits
returns c =
    let a = c.args in
    let n : length a.chip.cgram ≡ 40 = search rules in
    let h : a.chip.cgram_at.0 % 8 * 5 + a.chip.column % 5 < length a.chip.cgram = omega arith in
    simp (ne_eqb _ _ c.if-column-eq4.false)
    (every _ (λ i k. refl) (λ i k. cgram_stored a.chip _ (a.chip.cgram_at.0 % 8 * 5 + a.chip.column % 5) a.byte i k refl h) (λ i k. refl) refl refl refl refl (λ k. refl) refl refl refl refl)
