-- What `moved` answers and the results that demand 3 counts are one thing: the results of a chip's move are exactly
-- the good chips that have the answer's value wherever the answer does not say anything. The argument is that of
-- `rules/Results`, with the family's rules, which keep facts in range.
use Rattle.std.specs.Prelude.{ℕ}
use Rattle.rules.specs.Range.{Good}
use Rattle.rules.specs.Turn.{Result}
use Rattle.rules.specs.Results.{HasAnswer}
use Rattle.rules.proofs.Results.{results_exactly}
use Rattle.terms.specs.declared.Event.{Event}
use Rattle.terms.specs.Event.{Bytes}
use Rattle.segment.specs.declared.Family.{Family}
use Rattle.segment.specs.declared.Segment.{Segment}
use Rattle.segment.specs.declared.Moved.{Moved}
use Rattle.segment.specs.Family.{sizes}
use Rattle.segment.specs.Fact.{Fact, range}
use Rattle.segment.specs.Move.{move}
use Rattle.segment.specs.Range.{proper, ranged}
use Rattle.segment.specs.View.{view, covers, By}

-- The chip is in range, and m is what `moved` answers to the event.
module _ (q : Family) (e : Event) (bytes : Bytes e) (chip : Segment) (m : Moved)
    (good : Good (range (sizes q)) (view chip)) (met : By (move (sizes q) e) chip m) where
  pub moved_results : (x : Fact → ℕ)
      → (Result (range (sizes q)) (move (sizes q) e) (view chip) x
      → Good (range (sizes q)) x × HasAnswer (view m.chip) (covers m.any) x)
      × (Good (range (sizes q)) x × HasAnswer (view m.chip) (covers m.any) x
      → Result (range (sizes q)) (move (sizes q) e) (view chip) x)
  moved_results =
      results_exactly (range (sizes q)) (move (sizes q) e) (view chip) (view m.chip) (covers m.any) met
      (ranged (sizes q) (proper q) e bytes) good
