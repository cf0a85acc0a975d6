-- Tests of code: true exactly where something holds.
use Rattle.std.specs.Prelude.{◌≡◌, refl, Bool, true, false, ◌&&◌}
use Rattle.std.proofs.Common.{sym, true≢false}
use Rattle.std.proofs.Math.Path.{subst⁻¹}

-- A test is true exactly where P holds.
pub record Tests (b : Bool) (P : Type 0) : Type 0 where
  pub so : b ≡ true → P
  pub back : P → b ≡ true

-- Two tests together.
pub both_tell : {a b r : Bool} {P Q : Type 0} → r ≡ (a && b) → Tests a P → Tests b Q → Tests r (P × Q)
both_tell {a} {b} {r} {P} {Q} e p q = subst⁻¹ (λ (t : Bool). Tests t (P × Q)) e (go a p)
  where
    go : (t : Bool) → Tests t P → Tests (t && b) (P × Q)
    go true u = record { so = λ h. (u.so refl, q.so h); back = λ h. q.back h.1 }
    go false u = record { so = λ h. absurd (true≢false (sym h)); back = λ h. u.back h.0 }

-- What a test tells, in other words.
pub tells_as : {b : Bool} {P Q : Type 0} → (P → Q) → (Q → P) → Tests b P → Tests b Q
tells_as to from t = record { so = λ e. to (t.so e); back = λ q. t.back (from q) }

-- Two tests that tell the same are one.
pub one_test : {a b : Bool} {P : Type 0} → Tests a P → Tests b P → a ≡ b
one_test {a} {b} {P} = go a b
  where
    go : (x y : Bool) → Tests x P → Tests y P → x ≡ y
    go true true s t = refl
    go true false s t = sym (t.back (s.so refl))
    go false true s t = s.back (t.so refl)
    go false false s t = refl
