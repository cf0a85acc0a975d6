-- Laws of codes and of rows of codes: one code made known, codes in range, rows that say the same.
use Rattle.std.specs.Prelude.{ℕ, zero, suc, ◌<◌, ◌≡◌, refl, Bool, true, false, List, [], ◌∷◌, length, get_or, set, take, eqb, IsTrue, ◌≤◌, ◌↔◌}
use Rattle.std.proofs.Common.{arith, sym, ap, ◌∙◌, get_or-set_same, get_or-set_other, eqb-true, ne_eqb}
use Rattle.std.proofs.Math.Decide.{dec_lt}
use Rattle.std.proofs.Math.ListN.{get_or-eq_default}
use Rattle.std.proofs.lemmas.List.{get_or-take, get_or_default, length-take-le}
use Rattle.rules.specs.Rule.{Form, value}
use Rattle.rules.specs.Change.{change}
use Rattle.rules.specs.Unique.{same_list}
use Rattle.rules.specs.Choice.{whether}
use Rattle.knowing.specs.Standing.{Standing, known, unknown, Within}
use Rattle.knowing.specs.Know.{lifted}
use Rattle.knowing.specs.Join.{not_known, known_one}
use Rattle.rules.specs.Tests.{Tests}
use Rattle.key_codes.specs.View.{coded}

-- A byte's code is known to be the byte.
pub coded_byte : (b : ℕ) → b < 256 → coded b ≡ known b
coded_byte b h = rw (ne_eqb b 256 (λ e. omega arith)) refl

-- One of a row's codes is known now: the facts are numbered, as cells and key bytes are.
module _ {F : Type 0} (same? : Discrete F) (numbered : ℕ → F) (apart : (i j : ℕ) → numbered i ≡ numbered j → i ≡ j) (v : F → Standing) where
  pub coded_set : (φ : F → Form F) (l : List ℕ) (i b j : ℕ) → b < 256 → i < length l → coded (get_or l j 256) ≡ lifted v (φ (numbered j))
      → coded (get_or (set l i b) j 256) ≡ lifted v (change same? (numbered i) (value b) φ (numbered j))
  coded_set φ l i b j small h e = go (same? (numbered j) (numbered i))
    where
      go : (d : Dec (numbered j ≡ numbered i)) → coded (get_or (set l i b) j 256) ≡ lifted v (elim d [ yes _ ↦ value b | no _ ↦ φ (numbered j) ])
      go (yes p) =
          let q : j ≡ i = apart j i p in
          ap coded (ap (λ (n : ℕ). get_or (set l i b) n 256) q ∙ get_or-set_same l i b 256 h) ∙ coded_byte b small
      go (no n) = ap coded (get_or-set_other l i j b 256 (λ p. n (ap numbered p))) ∙ e

-- One code for each standing: codes that say the same are equal.
pub one_code : (a b : ℕ) → coded a ≡ coded b → a ≡ b
one_code a b e = go (eqb a 256) (eqb b 256) refl refl
  where
    said : (x : ℕ) (t : Bool) → eqb x 256 ≡ t → coded x ≡ whether t unknown (known x)
    said x t p = rw p refl

    go : (s t : Bool) → eqb a 256 ≡ s → eqb b 256 ≡ t → a ≡ b
    go true true p q = eqb-true a 256 p ∙ sym (eqb-true b 256 q)
    go true false p q = absurd (not_known b (sym (said a true p) ∙ e ∙ said b false q))
    go false true p q = absurd (not_known a (sym (said b true q) ∙ sym e ∙ said a false p))
    go false false p q = known_one a b (sym (said a false p) ∙ e ∙ said b false q)

-- What is known of the first n codes is below the limit.
abbrev pub RowSound : List ℕ → ℕ → ℕ → Type 0
RowSound l n limit = (i : ℕ) → i < n → Within limit (coded (get_or l i 256))

-- A test of the first n codes, asked as a row of their own.
pub first_within : (l : List ℕ) (n limit : ℕ) {b : Bool} → n ≤ length l → IsTrue b ↔ ((i : ℕ) → i < length (take n l) → Within limit (coded (get_or (take n l) i 0)))
    → Tests b (RowSound l n limit)
first_within l n limit h t = record {
  so = λ e i o. rw (sym (same i o)) (t.0 e i (omega (arith, length-take-le n l h)));
  back = λ all. t.1 (λ i o. let p : i < n = omega (arith, length-take-le n l h) in rw (same i p) (all i p));
}
  where
    same : (i : ℕ) → i < n → get_or (take n l) i 0 ≡ get_or l i 256
    same i o = get_or-take n l i 0 o ∙ get_or_default l i 0 256 (omega arith)

-- The codes are numbers of two bytes. This holds of every row that code hands over.
abbrev pub Small : List ℕ → Type 0
Small l = (i : ℕ) → get_or l i 256 < 65536

-- A number of two bytes is within what a part lacks.
pub small_within : (a n : ℕ) → a < n → Within n (coded a)
small_within a n h = go (eqb a 256)
  where
    go : (t : Bool) → Within n (whether t unknown (known a))
    go true = tt
    go false = h

pub small : (l : List ℕ) → ((i : ℕ) → get_or l i 0 < 65536) → Small l
small [] h i = omega arith
small (x ∷ l) h zero = h zero
small (x ∷ l) h (suc i) = small l (λ j. h (suc j)) i

-- Rows that say the same are equal.
pub same_row : (n : ℕ) (l m : List ℕ) → length l ≡ n → length m ≡ n → ((i : ℕ) → coded (get_or l i 256) ≡ coded (get_or m i 256)) → l ≡ m
same_row n l m ll lm h = same_list n l m ll lm (λ i. at i (dec_lt i n))
  where
    at : (i : ℕ) → Dec (i < n) → get_or l i 0 ≡ get_or m i 0
    at i (yes p) = get_or_default l i 0 256 (omega arith) ∙ one_code (get_or l i 256) (get_or m i 256) (h i) ∙ get_or_default m i 256 0 (omega arith)
    at i (no p) =
        let x : get_or l i 0 ≡ 0 = get_or-eq_default l 0 (omega arith) in
        let y : get_or m i 0 ≡ 0 = get_or-eq_default m 0 (omega arith) in
        x ∙ sym y
