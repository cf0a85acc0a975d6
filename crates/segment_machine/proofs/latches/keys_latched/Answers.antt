-- `segment_machine::latches::keys_latched` meets its contract: each arm knows its part, and so whether it has a fourth key byte; the others are set as the rule has them, and no other fact changes.
-- Assumes nothing.
use Prim.Native.Nat.{ℕ}
use mathlib.Core.Path.{◌≡◌, refl}
use mathlib.Core.List.{List}
use lib.Dec.{ltb}
use lib.ListN.{length, set}
use Rattle.rules.specs.Choice.{whether}
use Rattle.segment.specs.Laws.{every, key_latched}
use Rattle.segment.specs.Family.{sizes}
use borrow.Author.Rules.{rules}
use Rattle.segment_machine.proofs.latches.keys_latched.Goals as goal
use Rattle.segment_machine.proofs.latches.keys_latched.Goals.{in-Pt6312, in-Pt6315}

pub returns : goal.returns
unfolding sizes
returns c =
    let a = c.args in
    let n : length a.chip.keys ≡ 4 = search rules in
    let set_to : (rest : List ℕ) (i : ℕ) → rest ≡ whether (ltb 3 (sizes a.family).keys) (set a.chip.keys 3 a.k3) a.chip.keys → _ =
    λ rest i e. key_latched (sizes a.family) a.chip a.k0 a.k1 a.k2 a.k3 rest _ i e n refl in
    elim c.match-family.branch [
      | in-Pt6312 w ↦ rw w.chip-is (every _ (λ i k. refl) refl refl refl refl refl refl (λ k. refl) (λ i. set_to a.chip.keys i (rw w.in-Pt6312.is)) refl refl refl)
      | in-Pt6315 w ↦ rw w.chip-is (every _ (λ i k. refl) refl refl refl refl refl refl (λ k. refl) (λ i. set_to (set a.chip.keys 3 a.k3) i (rw w.in-Pt6315.is)) refl refl refl)
    ]
