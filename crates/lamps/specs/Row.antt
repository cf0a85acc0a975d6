-- Rows of codes of which every bit is known or unknown. The argument: a row is known code by code, and behind it nothing is; a
-- test of a whole row is that of one code more at each step, and a number that takes in the bits of others is 0 where all are.
use Rattle.std.specs.Prelude.{ℕ, ◌+◌, ◌<◌, ◌≤◌, ◌≡◌, List, eqb, length, get_or, replicate}
use Rattle.std.proofs.Common.{arith, sym, ap, ap₂, ◌∙◌, subst, below_more, eqb-true, eq-eqb}
use Rattle.std.proofs.Math.Decide.{dec_lt}
use Rattle.std.specs.Int.Bits.{bit_or, or_add_and}
use Rattle.std.proofs.lemmas.Nat.{and_le_l, and_le_r}
use Rattle.std.proofs.Math.ListN.{get_or-eq_default}
use Rattle.rules.specs.Unique.{same_list, get_d_same}
use Rattle.knowing.specs.Standing.{Standing, unknown, Within}
use Rattle.rules.specs.Tests.{Tests}
use Rattle.lamps.specs.View.{shown, held}
use Rattle.lamps.specs.Lamp.{none_shown, one_code}

-- No bit of a row of codes 0 is known.
pub none_held : (w n i k : ℕ) → held w (replicate n 0) i k ≡ unknown
none_held w n i k = ap (λ (c : ℕ). shown w c k) (get_d_same n i 0) ∙ none_shown w k

-- Rows that say the same are equal.
pub one_row : (w n : ℕ) (l m : List ℕ) → length l ≡ n → length m ≡ n → ((i k : ℕ) → held w l i k ≡ held w m i k) → l ≡ m
one_row w n l m ll lm h = same_list n l m ll lm (λ i. one_code w (get_or l i 0) (get_or m i 0) (h i))

-- Number 2 of the first n codes: every bit is 0 or 1 where it is known.
abbrev pub LampsSound : ℕ → List ℕ → ℕ → Type 0
LampsSound w l n = (i k : ℕ) → i < n → Within 2 (held w l i k)

-- A number with the bits of two is 0 only where both are.
or_none : (a b : ℕ) → bit_or a b ≡ 0 → (a ≡ 0) × (b ≡ 0)
or_none a b e = (omega (arith, or_add_and a b, and_le_r a b), omega (arith, or_add_and a b, and_le_l a b))

-- One code more: a number that is 0 exactly where the codes before it are sound gets its wrong bits.
pub lamps_more : (w : ℕ) (l : List ℕ) (n a b : ℕ) → Tests (eqb a 0) (LampsSound w l n) → Tests (eqb b 0) ((k : ℕ) → Within 2 (held w l n k)) → Tests (eqb (bit_or a b) 0) (LampsSound w l (n + 1))
lamps_more w l n a b all one = record {
  so = λ e i k h.
      let z = or_none a b (eqb-true _ 0 e) in
      below_more (λ (j : ℕ). (k : ℕ) → Within 2 (held w l j k)) n (λ j m k. all.so (eq-eqb a 0 z.0) j k m) (one.so (eq-eqb b 0 z.1)) i h k;
  back = λ h. eq-eqb _ 0 (ap₂ bit_or (eqb-true a 0 (all.back (λ i k m. h i k (omega arith)))) (eqb-true b 0 (one.back (λ k. h n k (omega arith)))));
}

-- Where the row ends, nothing is known.
pub row_end : (w : ℕ) (l : List ℕ) (i k : ℕ) → length l ≤ i → held w l i k ≡ unknown
row_end w l i k h = ap (λ (c : ℕ). shown w c k) (get_or-eq_default l 0 h) ∙ none_shown w k

pub whole_lamps : (w : ℕ) (l : List ℕ) (n : ℕ) → length l ≡ n → LampsSound w l n → (i k : ℕ) → Within 2 (held w l i k)
whole_lamps w l n e h i k = go (dec_lt i n)
  where
    go : Dec (i < n) → Within 2 (held w l i k)
    go (yes p) = h i k p
    go (no p) = subst (λ (s : Standing). Within 2 s) (sym (row_end w l i k (omega arith))) tt

-- One code more is 0, and where all are, nothing is known.
pub noughts_more : (l : List ℕ) (n a : ℕ) → (a ≡ 0 → (i : ℕ) → i < n → get_or l i 0 ≡ 0) → bit_or a (get_or l n 0) ≡ 0 → (i : ℕ) → i < n + 1 → get_or l i 0 ≡ 0
noughts_more l n a all e =
    let z = or_none a (get_or l n 0) e in
    below_more (λ (i : ℕ). get_or l i 0 ≡ 0) n (all z.0) z.1

pub noughts_held : (w : ℕ) (l : List ℕ) (n : ℕ) → ((i : ℕ) → i < n → get_or l i 0 ≡ 0) → length l ≤ n → (i k : ℕ) → held w l i k ≡ unknown
noughts_held w l n h e i k = go (dec_lt i n)
  where
    go : Dec (i < n) → held w l i k ≡ unknown
    go (yes p) = ap (λ (c : ℕ). shown w c k) (h i p) ∙ none_shown w k
    go (no p) = row_end w l i k (omega arith)
