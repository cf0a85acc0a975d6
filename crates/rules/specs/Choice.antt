-- Choosing by a test, by a bit and by a small number: the words in which rules and commands go by cases.
use Rattle.std.specs.Prelude.{ℕ, zero, suc, ◌/◌, ◌%◌, ◌^◌, Bool, true, false, ◌&&◌, ◌≡◌, refl, eqb}
use Rattle.std.proofs.Common.{true≢false, sym}

-- x where the test holds, y where it doesn't
abbrev pub whether : {A : Type 0} → Bool → A → A → A
whether true x y = x
whether false x y = y

-- bit k of a byte is set; bit 0 is the low one
abbrev pub bit : ℕ → ℕ → Bool
bit k b = eqb (b / 2 ^ k % 2) 1

-- by a number: 0, 1 and so on, the last one for all numbers behind
abbrev pub of2 : {A : Type 0} → A → A → ℕ → A
of2 a b zero = a
of2 a b (suc n) = b

abbrev pub of3 : {A : Type 0} → A → A → A → ℕ → A
of3 a b c zero = a
of3 a b c (suc n) = of2 b c n

abbrev pub of4 : {A : Type 0} → A → A → A → A → ℕ → A
of4 a b c d zero = a
of4 a b c d (suc n) = of3 b c d n

abbrev pub of5 : {A : Type 0} → A → A → A → A → A → ℕ → A
of5 a b c d e zero = a
of5 a b c d e (suc n) = of4 b c d e n

abbrev pub of6 : {A : Type 0} → A → A → A → A → A → A → ℕ → A
of6 a b c d e f zero = a
of6 a b c d e f (suc n) = of5 b c d e f n

-- What holds of every choice holds of the one that is made.
pub whether_all : {A : Type 0} (P : A → Type 0) (t : Bool) (x y : A) → (t ≡ true → P x) → (t ≡ false → P y) → P (whether t x y)
whether_all P true x y h k = h refl
whether_all P false x y h k = k refl

pub of2_all : {A : Type 0} (P : A → Type 0) (a b : A) → P a → P b → (n : ℕ) → P (of2 a b n)
of2_all P a b p q zero = p
of2_all P a b p q (suc n) = q

pub of3_all : {A : Type 0} (P : A → Type 0) (a b c : A) → P a → P b → P c → (n : ℕ) → P (of3 a b c n)
of3_all P a b c p q r zero = p
of3_all P a b c p q r (suc n) = of2_all P b c q r n

pub of4_all : {A : Type 0} (P : A → Type 0) (a b c d : A) → P a → P b → P c → P d → (n : ℕ) → P (of4 a b c d n)
of4_all P a b c d p q r s zero = p
of4_all P a b c d p q r s (suc n) = of3_all P b c d q r s n

pub of5_all : {A : Type 0} (P : A → Type 0) (a b c d e : A) → P a → P b → P c → P d → P e → (n : ℕ) → P (of5 a b c d e n)
of5_all P a b c d e p q r s t zero = p
of5_all P a b c d e p q r s t (suc n) = of4_all P b c d e q r s t n

pub of6_all : {A : Type 0} (P : A → Type 0) (a b c d e f : A) → P a → P b → P c → P d → P e → P f → (n : ℕ) → P (of6 a b c d e f n)
of6_all P a b c d e f p q r s t u zero = p
of6_all P a b c d e f p q r s t u (suc n) = of5_all P b c d e f q r s t u n

-- Two tests that hold together hold each.
pub both : (a b : Bool) → (a && b) ≡ true → (a ≡ true) × (b ≡ true)
both true b e = (refl, e)
both false b e = absurd (true≢false (sym e))
