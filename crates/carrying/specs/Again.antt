-- The record of an event, as a part reads it: the event again, or refused by 6 or by 8. The argument: the kind of an
-- event's record is listed and its body is whole, so that only the tests of 6 and 8 have a say; and an event that was
-- read from a record has passed them.
use Rattle.std.specs.Prelude.{ℕ, zero, suc, ◌<◌, ◌≡◌, refl, Bool, true, false, List, ◌⊎◌, length, get_or, ltb, Result, Ok, Err}
use Rattle.std.proofs.Common.{arith, sym, ap, ◌∙◌, subst, inl, inr, ltb-true}
use Rattle.rules.specs.Choice.{whether, whether_all, both}
use Rattle.terms.specs.declared.Event.{Event}
use Rattle.terms.specs.declared.Event.TheVariants.{Power, Falls, ByteIn, Rises, Gap, Unfinished, Keys, Switches, ByteOut}
use Rattle.terms.specs.declared.Part.{Part}
use Rattle.terms.specs.Event.{recorded}
use Rattle.carrying.specs.declared.carried.Uncarried.{Uncarried}
use Rattle.carrying.specs.declared.carried.Uncarried.TheVariants as U
use Rattle.recording.specs.declared.Refusal.{Refusal}
use Rattle.recording.specs.declared.Refusal.TheVariants.{Foreign, Forbidden}
use Rattle.recording.specs.Record.{listed, belongs, body_of, allowed, event_of, front, number, Read, record_of}
use Rattle.carrying.specs.Carried.{read_as, tested_as}

-- The two tests, on the event's own record.
abbrev of_part : Part → Event → Bool
of_part p e = belongs p (get_or (recorded e) 0 0)

abbrev allowed_in : Part → Event → Bool
allowed_in p e = allowed p (get_or (recorded e) 0 0) (get_or (recorded e) 1 0) (get_or (recorded e) 4 0)

as_tested : (p : Part) (e : Event)
    → front p (recorded e) ≡ whether (of_part p e) (whether (allowed_in p e) (Ok (record_of e (length (recorded e)))) (Err Forbidden)) (Err Foreign)
as_tested p Power = refl
as_tested p Falls = refl
as_tested p (ByteIn b) = refl
as_tested p Rises = refl
as_tested p Gap = refl
as_tested p (Unfinished n) = refl
as_tested p (Keys k0 k1 k2 k3) = refl
as_tested p (Switches v) = refl
as_tested p ByteOut = refl

pub answered : (p : Part) (e : Event) (a b : Bool) (r : Result Unit Uncarried) → a ≡ of_part p e → b ≡ allowed_in p e → r ≡ tested_as a b
    → front p (recorded e) ≡ read_as e r
answered p e a b r f g h = as_tested p e ∙ rw (← f, ← g) (by a b) ∙ sym (ap (read_as e) h)
  where
    by : (x y : Bool) → whether x (whether y (Ok (record_of e (length (recorded e)))) (Err Forbidden)) (Err Foreign) ≡ read_as e (tested_as x y)
    by true true = refl
    by true false = refl
    by false y = refl

-- A refused event is refused by 6 or by 8.
pub six_or_eight : (p : Part) (e : Event) (x : Refusal) → front p (recorded e) ≡ Err x → (number x ≡ 6) ⊎ (number x ≡ 8)
six_or_eight p e x h =
    by (tested_as (of_part p e) (allowed_in p e)) (sym (answered p e (of_part p e) (allowed_in p e) _ refl refl refl) ∙ h)
  where
    same : (a b : Refusal) → ◌≡◌ {A = Read} (Err a) (Err b) → number b ≡ number a
    same a b q = let z : a ≡ b = cc in ap number (sym z)

    by : (r : Result Unit Uncarried) → read_as e r ≡ Err x → (number x ≡ 6) ⊎ (number x ≡ 8)
    by (Ok done) q = absurd (let z : ◌≡◌ {A = ℕ} 0 1 = cc in omega arith)
    by (Err U.Foreign) q = inl (same Foreign x q)
    by (Err U.Forbidden) q = inr (same Forbidden x q)

-- The event of a record is read again from a record of its own, which is as long: kind by kind.
again : (p : Part) (k b0 b1 b2 b3 : ℕ) → 0 < k → k < 10 → belongs p k ≡ true → allowed p k b0 b3 ≡ true
    → front p (recorded (event_of k b0 b1 b2 b3)) ≡ Ok (record_of (event_of k b0 b1 b2 b3) (suc (body_of k)))
again p zero b0 b1 b2 b3 l u h a = absurd (omega arith)
again p (suc zero) b0 b1 b2 b3 l u h a = refl
again p (suc (suc zero)) b0 b1 b2 b3 l u h a = refl
again p (suc (suc (suc zero))) b0 b1 b2 b3 l u h a = refl
again p (suc (suc (suc (suc zero)))) b0 b1 b2 b3 l u h a = refl
again p (suc (suc (suc (suc (suc zero))))) b0 b1 b2 b3 l u h a = refl
again p (suc (suc (suc (suc (suc (suc zero)))))) b0 b1 b2 b3 l u h a = rw a
again p (suc (suc (suc (suc (suc (suc (suc zero))))))) b0 b1 b2 b3 l u h a = rw (h, a)
again p (suc (suc (suc (suc (suc (suc (suc (suc zero)))))))) b0 b1 b2 b3 l u h a = rw (h, a)
again p (suc (suc (suc (suc (suc (suc (suc (suc (suc zero))))))))) b0 b1 b2 b3 l u h a = rw h
again p (suc (suc (suc (suc (suc (suc (suc (suc (suc (suc k)))))))))) b0 b1 b2 b3 l u h a = absurd (omega arith)

Again : Part → Read → Type 0
Again p (Ok it) = front p (recorded it.event) ≡ Ok (record_of it.event it.length)
Again p (Err x) = Unit

by_tests : (p : Part) (l : List ℕ) → Again p (front p l)
unfolding Again
by_tests p l =
    whether_all (Again p) (listed (get_or l 0 0)) _ _
    (λ d. whether_all (Again p) (belongs p (get_or l 0 0)) _ _
    (λ h. whether_all (Again p) (ltb (body_of (get_or l 0 0)) (length l)) _ _
    (λ _. whether_all (Again p) (allowed p (get_or l 0 0) (get_or l 1 0) (get_or l 4 0)) _ _
    (λ a. again p (get_or l 0 0) (get_or l 1 0) (get_or l 2 0) (get_or l 3 0) (get_or l 4 0) (ltb-true 0 _ (from_listed d).0) (ltb-true _ 10 (from_listed d).1) h a)
    (λ _. tt))
    (λ _. tt))
    (λ _. tt))
    (λ _. tt)
  where
    from_listed : listed (get_or l 0 0) ≡ true → (ltb 0 (get_or l 0 0) ≡ true) × (ltb (get_or l 0 0) 10 ≡ true)
    from_listed d = both (ltb 0 (get_or l 0 0)) (ltb (get_or l 0 0) 10) d

pub read_again : (p : Part) (l : List ℕ) (e : Event) (m : ℕ) → front p l ≡ Ok (record_of e m) → front p (recorded e) ≡ Ok (record_of e m)
unfolding Again
read_again p l e m q = subst (Again p) q (by_tests p l)
