-- No longer stream: runs of n cells have at most 3n bytes, three for each cell; so 66 on PT6312, with 22 cells, and 108 on PT6315, with 36. The argument,
-- where not all cells differ: a cell that differs has two bytes, and a start four more, but a start stands behind a cell that has none. So let each cell
-- that does not differ save its three for the one behind it: going once around the ring, every cell is paid for, and in the end as much is saved as was at
-- first. Where all cells differ there is one run, and four of them pay one each for its start.
use Rattle.std.specs.Prelude.{ℕ, zero, suc, ◌+◌, ◌*◌, ◌<◌, ◌≤◌, ◌≡◌, refl, Bool, true, false, not, ◌&&◌, ◌∷◌, length}
use Rattle.std.proofs.Common.{arith, eqb-true}
use Rattle.rules.specs.Choice.{whether}
use Rattle.terms.specs.Event.{recording}
use Rattle.runs.specs.Runs.{those, before, differing, all, run_events}
use Rattle.runs.specs.Survey.{before_end, begins, some_differ, all_one}
use Rattle.runs.specs.Count.{run_length}

module _ (n : ℕ) (d : ℕ → Bool) where
  -- What is saved when one comes to cell i.
  abbrev saved : ℕ → ℕ
  saved i = whether (d (before n i)) 0 3

  -- Over m cells from cell i on.
  paid : (m i : ℕ) → 2 * length (those d m i) + 4 * length (those (begins n d) m i) + saved (i + m) ≤ 3 * m + saved i
  paid zero i =
      let z : i + 0 ≡ i = omega arith in
      rw z (omega arith)
  paid (suc m) i =
      let z : i + suc m ≡ suc i + m = omega arith in
      rw z (go (d i) (d (before n i)) (paid m (suc i)))
    where
      go : (here last : Bool) → 2 * length (those d m (suc i)) + 4 * length (those (begins n d) m (suc i)) + saved (suc i + m) ≤ 3 * m + whether here 0 3
          → 2 * length (whether here (i ∷ those d m (suc i)) (those d m (suc i)))
          + 4 * length (whether (here && not last) (i ∷ those (begins n d) m (suc i)) (those (begins n d) m (suc i))) + saved (suc i + m)
          ≤ 3 * suc m + whether last 0 3
      go true true h = omega arith
      go true false h = omega arith
      go false true h = omega arith
      go false false h = omega arith

  pub longest : (w : ℕ → ℕ) → 4 ≤ n → length (recording (run_events n d w)) ≤ 3 * n
  longest w h = go (omega arith) (all n d) refl
    where
      go : 0 < n → (a : Bool) → all n d ≡ a → length (recording (run_events n d w)) ≤ 3 * n
      go some true a = omega (arith, run_length n d w some, eqb-true (length (differing n d)) n a, all_one n d some a)
      go some false a =
          let z : 0 + n ≡ n = omega arith in
          let round : saved (0 + n) ≡ saved 0 = rw (z, before_end n some) refl in
          omega (arith, run_length n d w some, some_differ n d a, paid n 0)
