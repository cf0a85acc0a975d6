-- What `moved` answers and the results that demand 3 counts are one thing: the results of a chip's move are exactly
-- the good chips that have the answer's value wherever the answer does not say anything. The argument is that of
-- `rules/Results`, with PT6302's rules, which keep facts in range.
use Rattle.std.specs.Prelude.{ℕ}
use Rattle.rules.specs.Range.{Good}
use Rattle.rules.specs.Turn.{Result}
use Rattle.rules.specs.Results.{HasAnswer}
use Rattle.rules.proofs.Results.{results_exactly}
use Rattle.terms.specs.declared.Event.{Event}
use Rattle.character.specs.declared.Character.{Character}
use Rattle.character.specs.declared.Moved.{Moved}
use Rattle.character.specs.Fact.{Fact, range}
use Rattle.character.specs.Move.{move}
use Rattle.character.specs.Range.{ranged}
use Rattle.character.specs.View.{view, covers, By}

-- The chip is in range, and m is what `moved` answers to the event.
module _ (e : Event) (chip : Character) (m : Moved) (good : Good range (view chip))
    (met : By (move e) chip m) where
  pub moved_results : (x : Fact → ℕ)
      → (Result range (move e) (view chip) x → Good range x × HasAnswer (view m.chip) (covers m.any) x)
      × (Good range x × HasAnswer (view m.chip) (covers m.any) x → Result range (move e) (view chip) x)
  moved_results =
      results_exactly range (move e) (view chip) (view m.chip) (covers m.any) met (ranged e) good
