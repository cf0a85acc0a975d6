-- `segment_machine::bytes::stored_at` meets its contract: the cell is one of the array's, so its store is the rule's; each arm knows whether the address steps on.
-- Assumes nothing.
use native.Mathlib.Omega.{arith}
use Prim.Native.Nat.{◌<◌}
use mathlib.Core.Path.{◌≡◌, refl, ap}
use lib.ListN.{length}
use Rattle.rules.specs.Laws.{by_value}
use Rattle.rules.specs.Change.{set_bits}
use Rattle.segment.specs.Family.{sizes}
use Rattle.segment.specs.Laws.{every, room, cell_stored}
use Rattle.segment.specs.Value.{steps}
use Rattle.segment.specs.Move.{stored_at}
use borrow.Author.Rules.{rules}
use Rattle.segment_machine.proofs.bytes.stored_at.Goals as goal

pub bounds-chip-i : goal.bounds-chip-i
bounds-chip-i c = omega (arith, c.requires, (room c.args.family).0)

pub returns-in-Increment : goal.returns-in-Increment
unfolding set_bits
returns-in-Increment c =
    let a = c.args in
    let n : length a.chip.cells ≡ 36 = search rules in
    let within : a.cell.0 < length a.chip.cells = omega (arith, c.requires, (room a.family).0) in
    by_value (stored_at (sizes a.family) a.byte a.cell.0) _ _ _ _ _ (ap steps c.in-Increment.is)
    (rw c.behind-address.ensures
    (every _ (λ i k. cell_stored a.chip _ a.cell.0 a.byte i k refl within) refl refl refl refl refl refl (λ k. refl) (λ i. refl) refl refl refl))

pub returns-in-Fixed : goal.returns-in-Fixed
unfolding set_bits
returns-in-Fixed c =
    let a = c.args in
    let n : length a.chip.cells ≡ 36 = search rules in
    let within : a.cell.0 < length a.chip.cells = omega (arith, c.requires, (room a.family).0) in
    by_value (stored_at (sizes a.family) a.byte a.cell.0) _ _ _ _ _ (ap steps c.in-Fixed.is)
    (every _ (λ i k. cell_stored a.chip _ a.cell.0 a.byte i k refl within) refl refl refl refl refl refl (λ k. refl) (λ i. refl) refl refl refl)
