-- The rows that unfinished bytes are. The argument: a row of a known length is its bytes one by one, and so is the front of
-- any row.
use Rattle.std.specs.Prelude.{ℕ, zero, suc, ◌+◌, ◌≤◌, ◌≡◌, refl, List, [], ◌∷◌, length, take, drop, get_or}
use Rattle.std.proofs.Common.{arith, sym, ap, ◌∙◌, drop-cons}
use Rattle.account.specs.declared.unfinished.Unfinished.{Unfinished}
use Rattle.account.specs.declared.unfinished.Unfinished.TheVariants.{None, One, Two, Three, Four}
use Rattle.account.specs.Bytes.{bytes_of, row_of, first_five}

-- A row of a known length.
pub of_none : (l : List ℕ) → length l ≡ 0 → [] ≡ l
of_none [] e = refl
of_none (a ∷ l) e = absurd (omega (arith, e))

pub of_one : (l : List ℕ) → length l ≡ 1 → get_or l 0 0 ∷ [] ≡ l
of_one [] e = absurd (omega (arith, e))
of_one (a ∷ l) e = ap (λ (m : List ℕ). a ∷ m) (of_none l (omega (arith, e)))

pub of_two : (l : List ℕ) → length l ≡ 2 → get_or l 0 0 ∷ get_or l 1 0 ∷ [] ≡ l
of_two [] e = absurd (omega (arith, e))
of_two (a ∷ l) e = ap (λ (m : List ℕ). a ∷ m) (of_one l (omega (arith, e)))

pub of_three : (l : List ℕ) → length l ≡ 3 → get_or l 0 0 ∷ get_or l 1 0 ∷ get_or l 2 0 ∷ [] ≡ l
of_three [] e = absurd (omega (arith, e))
of_three (a ∷ l) e = ap (λ (m : List ℕ). a ∷ m) (of_two l (omega (arith, e)))

pub of_four : (l : List ℕ) → length l ≡ 4 → get_or l 0 0 ∷ get_or l 1 0 ∷ get_or l 2 0 ∷ get_or l 3 0 ∷ [] ≡ l
of_four [] e = absurd (omega (arith, e))
of_four (a ∷ l) e = ap (λ (m : List ℕ). a ∷ m) (of_three l (omega (arith, e)))

-- At most four bytes are unfinished.
pub four_at_most : (u : Unfinished) → length (bytes_of u) ≤ 4
four_at_most None = omega arith
four_at_most (One a) = omega arith
four_at_most (Two a b) = omega arith
four_at_most (Three a b c) = omega arith
four_at_most (Four a b c d) = omega arith

-- They are the front of their row.
pub front_of_row : (u : Unfinished) → take (length (bytes_of u)) (row_of (bytes_of u)) ≡ bytes_of u
front_of_row None = refl
front_of_row (One a) = refl
front_of_row (Two a b) = refl
front_of_row (Three a b c) = refl
front_of_row (Four a b c d) = refl

-- The first bytes of a row, as code puts them together.
ahead : ℕ → ℕ → List ℕ → List ℕ
ahead zero i x = []
ahead (suc m) i x = get_or x i 0 ∷ ahead m (suc i) x

ahead_take : (m n i : ℕ) (x : List ℕ) → n ≤ m → i + n ≤ length x → take n (ahead m i x) ≡ take n (drop i x)
unfolding ahead
ahead_take zero zero i x h g = refl
ahead_take zero (suc n) i x h g = absurd (omega arith)
ahead_take (suc m) zero i x h g = refl
ahead_take (suc m) (suc n) i x h g =
    ap (λ (l : List ℕ). get_or x i 0 ∷ l) (ahead_take m n (suc i) x (omega arith) (omega arith))
    ∙ sym (ap (take (suc n)) (drop-cons x i 0 (omega arith)))

pub first_take : (x : List ℕ) (n : ℕ) → n ≤ 5 → n ≤ length x → take n (first_five x) ≡ take n x
unfolding ahead
first_take x n h g = ahead_take 5 n 0 x h (omega arith)
