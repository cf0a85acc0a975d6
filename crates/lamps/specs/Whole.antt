-- A cell as a whole: which code is that of a byte, and which byte a code is of. The argument: there is one code for what is
-- known of the bits, and the one in which all are known has all marks.
use Rattle.std.specs.Prelude.{ℕ, ◌/◌, ◌%◌, ◌^◌, ◌-◌, ◌<◌, ◌≤◌, ◌≡◌, refl, Bool, true, false, eqb}
use Rattle.std.proofs.Common.{arith, mod-lt, sym, ap, ◌∙◌, subst, pow_pos, shr_lt, eqb-true, eq-eqb, lt-ltb, le-ltb}
use Rattle.std.proofs.Math.Decide.{dec_lt}
use Rattle.std.proofs.lemmas.Bool.{eqb-false}
use Rattle.rules.specs.Choice.{whether}
use Rattle.rules.specs.Tests.{one_test}
use Rattle.rules.specs.Digit.{digit, digit_small, digit_high, digit_below, full_digit, full_high, same_digits}
use Rattle.knowing.specs.Standing.{Standing, known, unknown, Within}
use Rattle.knowing.specs.Holds.{holds, byte_in}
use Rattle.knowing.specs.Bytes.{Spells, holds_tests, spelt_in, in_spelt}
use Rattle.lamps.specs.View.{shown, told, OfByte}
use Rattle.lamps.specs.Lamp.{one_code, known_marked, marked_known, past_empty}

-- A code has no bit past its bytes.
shown_past : (w n k : ℕ) → n < 65536 → 8 ≤ k → shown w n k ≡ unknown
unfolding shown
shown_past w n k h l = rw (digit_high 8 k (n % 256) (mod-lt n (omega arith)) l, digit_high 8 k (n / 256) (shr_lt 8 8 h) l) refl

-- A code is that of a byte exactly where the cell is known to hold it.
pub holds_code : (n b c : ℕ) → n < 65536 → OfByte 8 b c → eqb n c ≡ holds 8 (shown 8 n) b
holds_code n b c h o = one_test (record { so = to; back = from }) (holds_tests 8 (shown 8 n) b)
  where
    to : eqb n c ≡ true → Spells 8 (shown 8 n) b
    to e k l = ap (λ (x : ℕ). shown 8 x k) (eqb-true n c e) ∙ o k ∙ rw (lt-ltb k 8 l) refl

    from : Spells 8 (shown 8 n) b → eqb n c ≡ true
    from s = eq-eqb n c (one_code 8 n c (λ k. at k (dec_lt k 8) ∙ sym (o k)))
      where
        at : (k : ℕ) → Dec (k < 8) → shown 8 n k ≡ told 8 b k unknown
        at k (yes l) = s k l ∙ rw (lt-ltb k 8 l) refl
        at k (no l) = shown_past 8 n k h (omega arith) ∙ rw (le-ltb k 8 (omega arith)) refl

-- The byte that a code is of, where all marks of the width are set.
abbrev pub whole : ℕ → ℕ → Standing
whole w n = whether (eqb (n / 256) (2 ^ w - 1)) (known (n % 256)) unknown

-- A code in range is of a byte exactly where every bit of it is known.
module _ (w n : ℕ) (good : (k : ℕ) → Within 2 (shown w n k)) where
  values_fit : n % 256 < 2 ^ w
  values_fit = subst (λ (x : ℕ). x < 2 ^ w) (same_digits (n % 256 % 2 ^ w) (n % 256) (λ k. at k (dec_lt k w))) (mod-lt (n % 256) (pow_pos w))
    where
      at : (k : ℕ) → Dec (k < w) → digit k (n % 256 % 2 ^ w) ≡ digit k (n % 256)
      at k (yes l) = digit_below w k (n % 256) l
      at k (no l) =
          digit_high w k (n % 256 % 2 ^ w) (mod-lt (n % 256) (pow_pos w)) (omega arith)
          ∙ sym (past_empty w n k (omega arith) (good k)).0

  all_marked : ((k : ℕ) → k < w → digit k (n / 256) ≡ 1) → n / 256 ≡ 2 ^ w - 1
  all_marked h = same_digits (n / 256) (2 ^ w - 1) (λ k. at k (dec_lt k w))
    where
      at : (k : ℕ) → Dec (k < w) → digit k (n / 256) ≡ digit k (2 ^ w - 1)
      at k (yes l) = h k l ∙ sym (full_digit w k l)
      at k (no l) = (past_empty w n k (omega arith) (good k)).1 ∙ sym (full_high w k (omega arith))

  pub whole_shown : whole w n ≡ byte_in w (shown w n)
  whole_shown = go (eqb (n / 256) (2 ^ w - 1)) refl
    where
      here : (k : ℕ) → k < w → n / 256 ≡ 2 ^ w - 1 → shown w n k ≡ known (digit k (n % 256))
      here k l e = marked_known w n k l (ap (digit k) e ∙ full_digit w k l)

      else : (s : Standing) → byte_in w (shown w n) ≡ s → (n / 256 ≡ 2 ^ w - 1 → ⊥) → unknown ≡ s
      else (known b) p never =
          let i = in_spelt w (shown w n) b (λ k _. good k) p in
          absurd (never (all_marked (λ k l. known_marked w n k (digit k b) (digit_small k b) (i.1 k l))))
      else unknown p never = refl

      go : (t : Bool) → eqb (n / 256) (2 ^ w - 1) ≡ t → whether t (known (n % 256)) unknown ≡ byte_in w (shown w n)
      go true e = sym (spelt_in w (shown w n) (n % 256) values_fit (λ k l. here k l (eqb-true _ _ e)))
      go false e = else (byte_in w (shown w n)) refl (eqb-false _ _ e)
