-- Laws of decimal: its twenty digits are enough for every number of 64 bits, so that it is always a tenth of the
-- number and the last digit.
use Rattle.std.specs.Prelude.{ℕ, zero, suc, ◌/◌, ◌%◌, ◌^◌, ◌<◌, ◌≤◌, Bool, true, false, ◌≡◌, refl, List, [], ◌∷◌, ◌++◌, ltb, length}
use Rattle.std.proofs.Common.{pow-suc, mod-eq_of_lt, arith, ap, ◌∙◌, length-append, lt-ltb, le-ltb}
use Rattle.rules.specs.Choice.{whether, whether_all}
use Rattle.text.specs.Text.{digit, decimal_in, decimal}

-- Two choices that differ only in what is left where the test fails.
same_else : {A : Type 0} (t : Bool) (a x y : A) → x ≡ y → whether t a x ≡ whether t a y
same_else true a x y h = refl
same_else false a x y h = h

-- Where n has at most k + 1 digits, one more to spare changes nothing.
enough : (k n : ℕ) → n < 10 ^ suc k → decimal_in (suc k) n ≡ decimal_in (suc (suc k)) n
enough zero n h = rw (lt-ltb n 10 h) refl
enough (suc k) n h = same_else (ltb n 10) _ _ _ (ap (λ (l : List ℕ). l ++ (digit (n % 10) ∷ [])) (enough k (n / 10) (omega (arith, pow-suc 10 (suc k)))))

several : (k n : ℕ) → 10 ≤ n → decimal_in (suc k) n ≡ decimal_in k (n / 10) ++ (digit (n % 10) ∷ [])
several k n h = rw (le-ltb n 10 h) refl

pub decimal_one : (n : ℕ) → n < 10 → decimal n ≡ digit (n % 10) ∷ []
decimal_one n h = rw (lt-ltb n 10 h, mod-eq_of_lt h, lt-ltb n 10 h) refl

pub decimal_more : (n : ℕ) → n < 2 ^ 64 → 10 ≤ n → decimal n ≡ decimal (n / 10) ++ (digit (n % 10) ∷ [])
decimal_more n h k = several 19 n k ∙ ap (λ (l : List ℕ). l ++ (digit (n % 10) ∷ [])) (enough 18 (n / 10) (omega arith))

within : (k n : ℕ) → length (decimal_in k n) ≤ k
within zero n = omega arith
within (suc k) n =
    let h = within k (n / 10) in
    let e = length-append (decimal_in k (n / 10)) (digit (n % 10) ∷ []) in
    whether_all (λ (l : List ℕ). length l ≤ suc k) (ltb n 10) _ _ (λ _. omega arith) (λ _. omega arith)

pub decimal_length : (n : ℕ) → length (decimal n) ≤ 20
decimal_length n = within 20 n
