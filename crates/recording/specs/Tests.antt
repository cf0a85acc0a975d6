-- What the reading of a record says of the bytes: which test they fail, and that they pass those before it. The argument: the
-- tests come in their order, and each way through them ends in one reading.
use Rattle.std.specs.Prelude.{ℕ, ◌<◌, ◌≤◌, ◌≡◌, refl, Bool, true, false, List, ◌⊎◌, length, get_or, eqb, ltb, Ok, Err}
use Rattle.std.proofs.Common.{arith, subst, true≢false, inl, inr, eqb-true, ltb-true, ltb-false}
use Rattle.rules.specs.Choice.{whether, whether_all}
use Rattle.terms.specs.declared.Event.{Event}
use Rattle.terms.specs.declared.Part.{Part}
use Rattle.terms.specs.declared.Part.TheVariants.{Pt6302, Pt6312, Pt6315}
use Rattle.recording.specs.declared.Refusal.TheVariants.{Unlisted, Foreign, CutShort, Forbidden}
use Rattle.recording.specs.Record.{listed, belongs, body_of, bits_allowed, switches_allowed, fourth_allowed, allowed, front, Read, record_of}

-- 7: the kind is of the part, and at least one byte of the body is missing.
pub record Starts (p : Part) (l : List ℕ) : Type 0 where
  pub kind : listed (get_or l 0 0) ≡ true
  pub own : belongs p (get_or l 0 0) ≡ true
  pub short : length l ≤ body_of (get_or l 0 0)

-- 8: the kind is of the part, the body is there, and a value in it is not allowed.
pub record Forbids (p : Part) (l : List ℕ) : Type 0 where
  pub kind : listed (get_or l 0 0) ≡ true
  pub own : belongs p (get_or l 0 0) ≡ true
  pub long : body_of (get_or l 0 0) < length l
  pub not_allowed : allowed p (get_or l 0 0) (get_or l 1 0) (get_or l 4 0) ≡ false

Because : Part → List ℕ → Read → Type 0
Because p l (Ok it) = (1 ≤ it.length) × (it.length ≤ length l)
Because p l (Err Unlisted) = Unit
Because p l (Err Foreign) = Unit
Because p l (Err CutShort) = Starts p l
Because p l (Err Forbidden) = Forbids p l

because : (p : Part) (l : List ℕ) → Because p l (front p l)
unfolding Because
because p l =
    whether_all (Because p l) (listed (get_or l 0 0)) _ _
    (λ a. whether_all (Because p l) (belongs p (get_or l 0 0)) _ _
    (λ b. whether_all (Because p l) (ltb (body_of (get_or l 0 0)) (length l)) _ _
    (λ c. let h = ltb-true (body_of (get_or l 0 0)) (length l) c in
    whether_all (Because p l) (allowed p (get_or l 0 0) (get_or l 1 0) (get_or l 4 0)) _ _
    (λ _. (omega arith, omega arith))
    (λ d. record { kind = a; own = b; long = h; not_allowed = d }))
    (λ c. record { kind = a; own = b; short = ltb-false (body_of (get_or l 0 0)) (length l) c }))
    (λ _. tt))
    (λ _. tt)

-- A record has a first byte, and ends within the bytes.
pub record_fits : (p : Part) (l : List ℕ) (e : Event) (m : ℕ) → front p l ≡ Ok (record_of e m) → (1 ≤ m) × (m ≤ length l)
unfolding Because
record_fits p l e m q = subst (Because p l) q (because p l)

pub starts : (p : Part) (l : List ℕ) → front p l ≡ Err CutShort → Starts p l
unfolding Because
starts p l q = subst (Because p l) q (because p l)

pub forbids : (p : Part) (l : List ℕ) → front p l ≡ Err Forbidden → Forbids p l
unfolding Because
forbids p l q = subst (Because p l) q (because p l)

-- 8 is about 06 and 08, on every part that has them, and about 07 on PT6312.
pub eight_kinds : (p : Part) (kind b0 b3 : ℕ) → allowed p kind b0 b3 ≡ false → (kind ≡ 6) ⊎ ((kind ≡ 8) ⊎ ((kind ≡ 7) × (p ≡ Pt6312)))
eight_kinds p kind b0 b3 = by (eqb kind 6) (eqb kind 8) (eqb kind 7) refl refl refl
  where
    its_part : (q : Part) → fourth_allowed q b3 ≡ false → q ≡ Pt6312
    its_part Pt6302 f = absurd (true≢false f)
    its_part Pt6312 f = refl
    its_part Pt6315 f = absurd (true≢false f)

    by : (six eight seven : Bool) → eqb kind 6 ≡ six → eqb kind 8 ≡ eight → eqb kind 7 ≡ seven
        → whether six (bits_allowed b0) (whether eight (switches_allowed b0) (whether seven (fourth_allowed p b3) true)) ≡ false
        → (kind ≡ 6) ⊎ ((kind ≡ 8) ⊎ ((kind ≡ 7) × (p ≡ Pt6312)))
    by true eight seven s e v f = inl (eqb-true kind 6 s)
    by false true seven s e v f = inr (inl (eqb-true kind 8 e))
    by false false true s e v f = inr (inr (eqb-true kind 7 v, its_part p f))
    by false false false s e v f = absurd (true≢false f)
