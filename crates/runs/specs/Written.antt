-- What has been written so far, going around the ring: the events passed stand from the place on, and with those to come they are the runs. The argument:
-- at each cell its events are written behind what stands there.
use Rattle.std.specs.Prelude.{ℕ, zero, suc, ◌-◌, ◌<◌, ◌≡◌, Bool, true, false, List, [], ◌++◌}
use Rattle.std.proofs.Common.{arith, ◌∙◌, append_assoc}
use Rattle.rules.specs.Choice.{whether}
use Rattle.writing.specs.declared.Writer.{Writer}
use Rattle.writing.specs.Wrote.{Wrote, wrote_none}
use Rattle.terms.specs.declared.Event.{Event}
use Rattle.terms.specs.Event.{recording}
use Rattle.strobes.specs.Stream.{wrote_events}
use Rattle.runs.specs.Runs.{behind, starts_of, last_end, run_events}
use Rattle.runs.specs.Walk.{behind_inside}
use Rattle.runs.specs.Linear.{rises_if, cell_events, goes, goes_runs, goes_end, goes_ends}
use Rattle.runs.specs.Front.{front_of, front_is}

pub record SoFar (n : ℕ) (d : ℕ → Bool) (w : ℕ → ℕ) (first now' : Writer) (low : Bool) (i left : ℕ) : Type 0 where
  pub passed : List Event
  pub wrote : Wrote first (recording passed) now'
  pub ahead : passed ++ goes n d w left i low ≡ run_events n d w

module _ (n : ℕ) (d : ℕ → Bool) (w : ℕ → ℕ) (first : Writer) where
  pub begun : 0 < n → SoFar n d w first first false (front_of n d) n
  begun h = record { passed = []; wrote = wrote_none first; ahead = goes_runs n d w (front_of n d) (front_is n d h) }

  pub more : (now' next : Writer) (low : Bool) (i left : ℕ) → SoFar n d w first now' low i left → 0 < left
      → Wrote now' (recording (cell_events low (d i) i (w i))) next → SoFar n d w first next (d i) (behind n i) (left - 1)
  more now' next low i left s h q = go left h s
    where
      go : (m : ℕ) → 0 < m → SoFar n d w first now' low i m → SoFar n d w first next (d i) (behind n i) (m - 1)
      go zero h s = absurd (omega arith)
      go (suc m) h s =
          let cell : List Event = cell_events low (d i) i (w i) in
          let z : suc m - 1 ≡ m = omega arith in
          rw z (record {
            passed = s.passed ++ cell;
            wrote = wrote_events s.passed cell s.wrote q;
            ahead = append_assoc s.passed cell (goes n d w m (behind n i) (d i)) ∙ s.ahead;
          })

  -- Behind the last cell a strobe that is low rises.
  pub ended : (now' next : Writer) (low : Bool) (i : ℕ) → SoFar n d w first now' low i 0 → Wrote now' (recording (rises_if low)) next
      → Wrote first (recording (run_events n d w)) next
  ended now' next low i s q = rw (← s.ahead) (wrote_events s.passed (rises_if low) s.wrote q)

-- The cell behind the last that differed so far: with those to come it is the cell behind the last run.
pub record EndSoFar (n : ℕ) (d : ℕ → Bool) (end i left : ℕ) : Type 0 where
  pub inside : end < n
  pub ahead : goes_end n d left i end ≡ last_end n d 0 (starts_of n d)

module _ (n : ℕ) (d : ℕ → Bool) where
  pub end_begun : 0 < n → EndSoFar n d 0 (front_of n d) n
  end_begun h = record { inside = h; ahead = goes_ends n d (front_of n d) (front_is n d h) 0 }

  pub end_more : (end i left : ℕ) → i < n → EndSoFar n d end i left → 0 < left → EndSoFar n d (whether (d i) (behind n i) end) (behind n i) (left - 1)
  end_more end i left g s h = go left h s
    where
      inside : (b : Bool) → end < n → whether b (behind n i) end < n
      inside true l = behind_inside n i g
      inside false l = l

      go : (m : ℕ) → 0 < m → EndSoFar n d end i m → EndSoFar n d (whether (d i) (behind n i) end) (behind n i) (m - 1)
      go zero h s = absurd (omega arith)
      go (suc m) h s =
          let z : suc m - 1 ≡ m = omega arith in
          rw z (record { inside = inside (d i) s.inside; ahead = s.ahead })
