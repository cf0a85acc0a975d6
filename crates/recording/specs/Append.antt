-- More bytes behind a record, and a walk from another place. The argument: a record looks at no byte past its end, and
-- a walk nowhere but at the bytes before it.
use Rattle.std.specs.Prelude.{ℕ, zero, suc, ◌+◌, ◌<◌, ◌≤◌, ◌≡◌, refl, List, [], ◌∷◌, ◌++◌, Bool, true, false, length, drop, get_or, ltb, Ok, Err}
use Rattle.std.proofs.Common.{arith, sym, ap, ◌∙◌, length-append, ltb-true, lt-ltb}
use Rattle.std.proofs.Math.Path.{subst⁻¹}
use Rattle.rules.specs.Choice.{whether}
use Rattle.terms.specs.declared.Event.{Event}
use Rattle.terms.specs.declared.Event.TheVariants.{ByteOut}
use Rattle.terms.specs.declared.Part.{Part}
use Rattle.recording.specs.declared.Refusal.TheVariants.{Unlisted, Foreign, CutShort, Forbidden}
use Rattle.recording.specs.Record.{listed, belongs, body_of, of_body, of_kind, front, place_within, Read, record_of}
use Rattle.recording.specs.Walk.{Walk, step, walk, events, end_of, Ending, stop_of}
use Rattle.recording.specs.Laws.{other_body}
use Rattle.recording.specs.Steps.{stops_there}

-- A body is looked at no further than it goes.
same_body : (p : Part) (k : ℕ) (l m : List ℕ) → ((j : ℕ) → j ≤ body_of k → get_or l j 0 ≡ get_or m j 0) → of_body p k l ≡ of_body p k m
same_body p zero l m h = refl
same_body p (suc zero) l m h = refl
same_body p (suc (suc zero)) l m h = refl
same_body p (suc (suc (suc zero))) l m h = rw (h 1 (omega arith)) refl
same_body p (suc (suc (suc (suc zero)))) l m h = refl
same_body p (suc (suc (suc (suc (suc zero))))) l m h = refl
same_body p (suc (suc (suc (suc (suc (suc zero)))))) l m h = rw (h 1 (omega arith)) refl
same_body p (suc (suc (suc (suc (suc (suc (suc zero))))))) l m h = rw (h 1 (omega arith), h 2 (omega arith), h 3 (omega arith), h 4 (omega arith)) refl
same_body p (suc (suc (suc (suc (suc (suc (suc (suc zero)))))))) l m h = rw (h 1 (omega arith)) refl
same_body p (suc (suc (suc (suc (suc (suc (suc (suc (suc n))))))))) l m h = other l ∙ sym (other m)
  where
    other : (x : List ℕ) → of_body p (suc (suc (suc (suc (suc (suc (suc (suc (suc n))))))))) x ≡ Ok (record_of ByteOut 1)
    other x = other_body p (suc (suc (suc (suc (suc (suc (suc (suc (suc n))))))))) x (λ e. omega arith) (λ e. omega arith) (λ e. omega arith) (λ e. omega arith) (λ e. omega arith) (λ e. omega arith) (λ e. omega arith) (λ e. omega arith)

pub get_d_append : (l m : List ℕ) (j : ℕ) → j < length l → get_or l j 0 ≡ get_or (l ++ m) j 0
get_d_append [] m j h = absurd (omega arith)
get_d_append (x ∷ l) m zero h = refl
get_d_append (x ∷ l) m (suc j) h = get_d_append l m j (omega arith)

-- Told by the bytes that are there: a record, or none whatever follows.
abbrev pub Told : Read → Type 0
Told (Ok it) = Unit
Told (Err Unlisted) = Unit
Told (Err Foreign) = Unit
Told (Err CutShort) = ⊥
Told (Err Forbidden) = Unit

-- By the tests in their order.
kind_append : (p : Part) (k : ℕ) (l m : List ℕ) (r : Read) → Told r → (body_of k < length l → of_body p k l ≡ of_body p k (l ++ m)) → of_kind p k l ≡ r → of_kind p k (l ++ m) ≡ r
kind_append p k l m r told same = go (listed k) (belongs p k) (ltb (body_of k) (length l)) refl
  where
    go : (a b t : Bool) → ltb (body_of k) (length l) ≡ t
        → whether a (whether b (whether t (of_body p k l) (Err CutShort)) (Err Foreign)) (Err Unlisted) ≡ r
        → whether a (whether b (whether (ltb (body_of k) (length (l ++ m))) (of_body p k (l ++ m)) (Err CutShort)) (Err Foreign)) (Err Unlisted) ≡ r
    go true true true z q =
        let h = ltb-true (body_of k) (length l) z in
        let d = length-append l m in
        rw (lt-ltb (body_of k) (length (l ++ m)) (omega (arith, h, d))) (sym (same h) ∙ q)
    go true true false z q = absurd (subst⁻¹ Told q told)
    go true false t z q = q
    go false b t z q = q

pub front_append : (p : Part) (l m : List ℕ) (r : Read) → Told r → 0 < length l → front p l ≡ r → front p (l ++ m) ≡ r
front_append p l m r told some q =
    ap (λ (k : ℕ). of_kind p k (l ++ m)) (sym (get_d_append l m 0 some))
    ∙ kind_append p (get_or l 0 0) l m r told (λ h. same_body p (get_or l 0 0) l (l ++ m) (λ j b. get_d_append l m j (omega arith))) q

-- The places of the second recording are counted from the front of the first.
abbrev pub shifted : ℕ → Ending → Ending
shifted n (Ok u) = Ok tt
shifted n (Err s) = Err (stop_of s.refusal (record { 0 = n + s.at.0 }))

pub shift_shift : (a b : ℕ) (e : Ending) → shifted a (shifted b e) ≡ shifted (a + b) e
shift_shift a b (Ok u) = refl
shift_shift a b (Err s) = stops_there s.refusal (record { 0 = a + (b + s.at.0) }) (a + b + s.at.0) (omega arith)

-- What one walk says that another does, the places shifted by `at`.
pub record Follows (at : ℕ) (w v : Walk) : Type 0 where
  pub same : events w ≡ events v
  pub ends : end_of w ≡ shifted at (end_of v)

-- A walk from another place has the same events.
pub from_place : (n : ℕ) (p : Part) (at : ℕ) (l : List ℕ) → Follows at (walk n p at l) (walk n p 0 l)
from_place zero p at l = record { same = refl; ends = refl }
from_place (suc n) p at [] = record { same = refl; ends = refl }
from_place (suc n) p at (b ∷ l) = go (front p (b ∷ l)) (λ m i. from_place n p i (drop m (b ∷ l)))
  where
    go : (r : Read) → ((m i : ℕ) → Follows i (walk n p i (drop m (b ∷ l))) (walk n p 0 (drop m (b ∷ l))))
        → Follows at (step at b (λ m. walk n p (at + m) (drop m (b ∷ l))) r)
        (step 0 b (λ m. walk n p (0 + m) (drop m (b ∷ l))) r)
    go (Ok it) ih = record {
      same = ap (λ (es : List Event). it.event ∷ es) ((ih it.length (at + it.length)).same ∙ sym (ih it.length (0 + it.length)).same);
      ends =
          let z : at + (0 + it.length) ≡ at + it.length = omega arith in
          (ih it.length (at + it.length)).ends ∙ sym (ap (shifted at) (ih it.length (0 + it.length)).ends ∙ shift_shift at (0 + it.length) (end_of (walk n p 0 (drop it.length (b ∷ l)))) ∙ ap (λ (i : ℕ). shifted i (end_of (walk n p 0 (drop it.length (b ∷ l))))) z);
    }
    go (Err x) ih = record { same = refl; ends = stops_there x (record { 0 = at + place_within x b }) (at + (0 + place_within x b)) (omega arith) }
