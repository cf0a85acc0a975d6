-- What kinds have by their numbers, the record at a place, and the part from a place on.
use Rattle.std.specs.Prelude.{ℕ, zero, suc, ◌+◌, ◌-◌, ◌<◌, ◌≤◌, ◌≡◌, refl, true, false, List, length, get_or, drop, take, Ok, Err}
use Rattle.std.proofs.Common.{zero-lt-suc, arith, sym, ap, ◌∙◌, length-drop, get_or-drop, take_all, ne_eqb, lt-ltb, le-ltb}
use Rattle.terms.specs.declared.Event.TheVariants.{ByteOut}
use Rattle.terms.specs.declared.Part.{Part}
use Rattle.recording.specs.declared.Refusal.TheVariants.{Unlisted, Foreign, CutShort}
use Rattle.recording.specs.Record.{listed, keyed, switched, belongs, body_of, of_unfinished, of_switches, of_keys, of_body, of_kind, front, Read, record_of}

pub no_body : (k : ℕ) → ¬ (k ≡ 3) → ¬ (k ≡ 6) → ¬ (k ≡ 7) → ¬ (k ≡ 8) → body_of k ≡ 0
no_body k three six seven eight = rw (ne_eqb k 7 seven, ne_eqb k 3 three, ne_eqb k 6 six, ne_eqb k 8 eight) refl

pub no_inputs : (p : Part) (k : ℕ) → ¬ (k ≡ 7) → ¬ (k ≡ 8) → ¬ (k ≡ 9) → belongs p k ≡ true
no_inputs p k seven eight nine = rw (ne_eqb k 7 seven, ne_eqb k 9 nine, ne_eqb k 8 eight) refl

pub other_body : (p : Part) (k : ℕ) (l : List ℕ) → ¬ (k ≡ 1) → ¬ (k ≡ 2) → ¬ (k ≡ 3) → ¬ (k ≡ 4) → ¬ (k ≡ 5) → ¬ (k ≡ 6) → ¬ (k ≡ 7) → ¬ (k ≡ 8) → of_body p k l ≡ Ok (record_of ByteOut 1)
other_body p k l one two three four five six seven eight =
    rw (ne_eqb k 6 six, ne_eqb k 8 eight, ne_eqb k 7 seven, ne_eqb k 1 one, ne_eqb k 2 two, ne_eqb k 3 three, ne_eqb k 4 four, ne_eqb k 5 five) refl

-- In two steps, since omega cannot take all nine kinds at once.
past_six : (k : ℕ) → 0 < k → ¬ (k ≡ 1) → ¬ (k ≡ 2) → ¬ (k ≡ 3) → ¬ (k ≡ 4) → ¬ (k ≡ 5) → ¬ (k ≡ 6) → 7 ≤ k
past_six k h one two three four five six = omega arith

past_nine : (k : ℕ) → 7 ≤ k → ¬ (k ≡ 7) → ¬ (k ≡ 8) → ¬ (k ≡ 9) → 10 ≤ k
past_nine k h seven eight nine = omega arith

pub not_listed : (k : ℕ) → ¬ (k ≡ 1) → ¬ (k ≡ 2) → ¬ (k ≡ 3) → ¬ (k ≡ 4) → ¬ (k ≡ 5) → ¬ (k ≡ 6) → ¬ (k ≡ 7) → ¬ (k ≡ 8) → ¬ (k ≡ 9) → listed k ≡ false
not_listed zero one two three four five six seven eight nine = refl
not_listed (suc n) one two three four five six seven eight nine =
    rw (lt-ltb 0 (suc n) (zero-lt-suc n), le-ltb (suc n) 10 (past_nine (suc n) (past_six (suc n) (zero-lt-suc n) one two three four five six) seven eight nine)) refl

-- The first byte from a place on is the one that stands there.
pub kind_at : (l : List ℕ) (i : ℕ) → get_or (drop i l) 0 0 ≡ get_or l i 0
kind_at l i = let e : i + 0 ≡ i = omega arith in get_or-drop i l 0 0 ∙ ap (λ (n : ℕ). get_or l n 0) e

-- The record at a place, test by test.
module _ (p : Part) (l : List ℕ) (i : ℕ) where
  abbrev kind : ℕ
  kind = get_or l i 0

  front_at : front p (drop i l) ≡ of_kind p kind (drop i l)
  front_at = ap (λ (k : ℕ). of_kind p k (drop i l)) (kind_at l i)

  pub at_unlisted : listed kind ≡ false → Err Unlisted ≡ front p (drop i l)
  at_unlisted e = sym (front_at ∙ rw e refl)

  pub at_foreign : listed kind ≡ true → belongs p kind ≡ false → Err Foreign ≡ front p (drop i l)
  at_foreign e f = sym (front_at ∙ rw (e, f) refl)

  pub at_cut : listed kind ≡ true → belongs p kind ≡ true → length l - i ≤ body_of kind → Err CutShort ≡ front p (drop i l)
  at_cut e f h = sym (front_at ∙ rw (e, f, le-ltb (body_of kind) (length (drop i l)) (rw (length-drop i l) h)) refl)

  pub at_body : (r : Read) → listed kind ≡ true → belongs p kind ≡ true → body_of kind < length l - i → r ≡ of_body p kind (drop i l) → r ≡ front p (drop i l)
  at_body r e f h q = q ∙ sym (front_at ∙ rw (e, f, lt-ltb (body_of kind) (length (drop i l)) (rw (length-drop i l) h)) refl)

  -- 01 to 06 are of every part.
  pub at_common : (r : Read) → 0 < kind → kind < 7 → body_of kind < length l - i → r ≡ of_body p kind (drop i l) → r ≡ front p (drop i l)
  at_common r a b h q =
      at_body r
      (rw (lt-ltb 0 kind a, lt-ltb kind 10 (omega (arith, b))) refl)
      (no_inputs p kind (λ e. omega (arith, b, e)) (λ e. omega (arith, b, e)) (λ e. omega (arith, b, e)))
      h
      q

  -- 07 to 09 by their numbers, where the part has them.
  pub at_own : (k : ℕ) (r : Read) → kind ≡ k → listed k ≡ true → belongs p k ≡ true → body_of k < length l - i → r ≡ of_body p k (drop i l) → r ≡ front p (drop i l)
  at_own k r e f g h q = at_body r (rw e f) (rw e g) (rw e h) (rw e q)

  -- The bodies of 06, 08 and 07 where they stand.
  pub at_bits : (r : Read) → kind ≡ 6 → 1 < length l - i → r ≡ of_unfinished (get_or l (i + 1) 0) → r ≡ front p (drop i l)
  at_bits r e h q = at_common r (omega (arith, e)) (omega (arith, e)) (rw e h) (rw (e, get_or-drop i l 1 0) q)

  pub at_switches : (r : Read) → kind ≡ 8 → switched p ≡ true → 1 < length l - i → r ≡ of_switches (get_or l (i + 1) 0) → r ≡ front p (drop i l)
  at_switches r e f h q = at_own 8 r e refl f h (rw (get_or-drop i l 1 0) q)

  pub at_keys : (r : Read) → kind ≡ 7 → keyed p ≡ true → 4 < length l - i → r ≡ of_keys p (get_or l (i + 1) 0) (get_or l (i + 2) 0) (get_or l (i + 3) 0) (get_or l (i + 4) 0) → r ≡ front p (drop i l)
  at_keys r e f h q = at_own 7 r e refl f h (rw (get_or-drop i l 1 0, get_or-drop i l 2 0, get_or-drop i l 3 0, get_or-drop i l 4 0) q)

-- The part of a recording from a place on, as code lends it.
pub part_from : (from : ℕ) (l : List ℕ) → take (length l - from) (drop from l) ≡ drop from l
part_from from l = take_all (length l - from) (drop from l) (let d = length-drop from l in omega (arith, d))
