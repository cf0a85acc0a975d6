-- The events of a recording carry bytes. The argument: an event carries what stands in its record, and a recording is
-- bytes.
use Rattle.std.specs.Prelude.{ℕ, zero, suc, ◌+◌, ◌<◌, List, [], ◌∷◌, length, get_or, drop, eqb, ltb, Ok, Err}
use Rattle.std.proofs.Math.Path.{subst⁻¹}
use Rattle.std.proofs.Common.{get_or-drop}
use Rattle.rules.specs.Choice.{whether_all}
use Rattle.terms.specs.Event.{Bytes}
use Rattle.terms.specs.declared.Part.{Part}
use Rattle.recording.specs.Record.{listed, belongs, body_of, allowed, event_of, front, Read}
use Rattle.recording.specs.Walk.{step, walk, events}
use Rattle.whole.specs.Usual.{Each}
use Rattle.demand.specs.Recording.{AllBytes, events_from}

event_carries : (k b0 b1 b2 b3 : ℕ) → b0 < 256 → b1 < 256 → b2 < 256 → b3 < 256 → Bytes (event_of k b0 b1 b2 b3)
event_carries k b0 b1 b2 b3 h0 h1 h2 h3 =
    whether_all Bytes (eqb k 1) _ _ (λ _. tt)
    (λ _. whether_all Bytes (eqb k 2) _ _ (λ _. tt)
    (λ _. whether_all Bytes (eqb k 3) _ _ (λ _. h0)
    (λ _. whether_all Bytes (eqb k 4) _ _ (λ _. tt)
    (λ _. whether_all Bytes (eqb k 5) _ _ (λ _. tt)
    (λ _. whether_all Bytes (eqb k 6) _ _ (λ _. h0)
    (λ _. whether_all Bytes (eqb k 7) _ _ (λ _. (h0, h1, h2, h3))
    (λ _. whether_all Bytes (eqb k 8) _ _ (λ _. h0) (λ _. tt))))))))

Carried : Read → Type 0
Carried (Ok it) = Bytes it.event
Carried (Err r) = Unit

carried : (p : Part) (l : List ℕ) → AllBytes l → Carried (front p l)
unfolding Carried
carried p l h =
    whether_all Carried (listed (get_or l 0 0)) _ _
    (λ _. whether_all Carried (belongs p (get_or l 0 0)) _ _
    (λ _. whether_all Carried (ltb (body_of (get_or l 0 0)) (length l)) _ _
    (λ _. whether_all Carried (allowed p (get_or l 0 0) (get_or l 1 0) (get_or l 4 0)) _ _
    (λ _. event_carries (get_or l 0 0) (get_or l 1 0) (get_or l 2 0) (get_or l 3 0) (get_or l 4 0) (h 1) (h 2) (h 3) (h 4))
    (λ _. tt))
    (λ _. tt))
    (λ _. tt))
    (λ _. tt)

pub drop_bytes : (m : ℕ) (l : List ℕ) → AllBytes l → AllBytes (drop m l)
drop_bytes m l h i = subst⁻¹ (λ (n : ℕ). n < 256) (get_or-drop m l i 0) (h (m + i))

walk_carries : (n : ℕ) (p : Part) (at : ℕ) (l : List ℕ) → AllBytes l → Each Bytes (events (walk n p at l))
unfolding Carried
walk_carries zero p at l h = tt
walk_carries (suc n) p at [] h = tt
walk_carries (suc n) p at (b ∷ l) h = go (front p (b ∷ l)) (carried p (b ∷ l) h) (λ m. walk_carries n p (at + m) (drop m (b ∷ l)) (drop_bytes m (b ∷ l) h))
  where
    go : (r : Read) → Carried r → ((m : ℕ) → Each Bytes (events (walk n p (at + m) (drop m (b ∷ l)))))
        → Each Bytes (events (step at b (λ m. walk n p (at + m) (drop m (b ∷ l))) r))
    go (Ok it) c ih = (c, ih it.length)
    go (Err x) c ih = tt

pub carry : (p : Part) (start : ℕ) (l : List ℕ) → AllBytes l → Each Bytes (events_from p start l)
carry p start l h = walk_carries (length (drop start l)) p 0 (drop start l) (drop_bytes start l h)
