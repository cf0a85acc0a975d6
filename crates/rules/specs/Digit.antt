-- The bits of a number, each a number below two; bit 0 is the low one. What `&`, `|` and `^` make of each bit.
use Rattle.std.specs.Prelude.{ℕ, zero, suc, ◌+◌, ◌*◌, ◌/◌, ◌%◌, ◌^◌, ◌-◌, ◌<◌, ◌≤◌, min, max, ◌≡◌, refl, Bool, true, false, ltb}
use Rattle.std.proofs.Common.{arith, mod-lt, div-add-mod', lt_of_lt_of_le, div-one, one-mul, mul-div_cancel, mod-eq_of_lt, sym, ap, ap₂, ◌∙◌, subst, ltb-true, ltb-false, lt-ltb, pow_mono, pow_pos, shr-shr}
use Rattle.std.proofs.Math.Nat.{div-eq_of_lt}
use Rattle.std.proofs.Math.Decide.{dec_lt}
use Rattle.std.proofs.Math.Arith.{bin_ind}
use Rattle.std.proofs.Math.Pow.{pow-lt, ones_lt}
use Rattle.std.specs.Int.Bits.{bit_and, bit_or, bit_xor, differ}
use Rattle.std.proofs.lemmas.Nat.{and_shr, or_shr, xor_shr, and_mod, or_mod, xor_mod, and_mask}
use Rattle.rules.specs.Choice.{whether}

-- Bit k of b.
unfoldable pub digit : ℕ → ℕ → ℕ
digit k b = b / 2 ^ k % 2

-- What a chip shows of bit k of a stored byte: past its eight bits there is nothing.
abbrev pub lamp : ℕ → ℕ → ℕ
lamp k b = whether (ltb k 8) (digit k b) 0

-- And of a stored number of w bits, fewer than its byte has: a bit past them that is set shows as 2, which is no value in range.
abbrev pub narrow : ℕ → ℕ → ℕ → ℕ
narrow w k b = whether (ltb k w) (digit k b) (2 * digit k b)

pub digit_small : (k b : ℕ) → digit k b < 2
unfolding digit
digit_small k b = mod-lt (b / 2 ^ k) (omega arith)

-- A bit is 0 or 1.
pub binary : (P : ℕ → Type 0) → P 0 → P 1 → (n : ℕ) → n < 2 → P n
binary P a b zero h = a
binary P a b (suc zero) h = b
binary P a b (suc (suc n)) h = absurd (omega arith)

-- And so are two.
abbrev pub Four : (ℕ → ℕ → Type 0) → Type 0
Four Q = (Q 0 0 × Q 0 1) × (Q 1 0 × Q 1 1)

pub each2 : (Q : ℕ → ℕ → Type 0) → Four Q → (x y : ℕ) → x < 2 → y < 2 → Q x y
each2 Q h x y hx hy =
    binary (λ (a : ℕ). Q a y) (binary (λ (b : ℕ). Q 0 b) h.0.0 h.0.1 y hy) (binary (λ (b : ℕ). Q 1 b) h.1.0 h.1.1 y hy) x hx

-- The operations on one bit.
of_and : (a b : ℕ) → a < 2 → b < 2 → bit_and a b ≡ min a b
of_and = each2 (λ (x y : ℕ). bit_and x y ≡ min x y) ((refl, refl), (refl, refl))

of_or : (a b : ℕ) → a < 2 → b < 2 → bit_or a b ≡ max a b
of_or = each2 (λ (x y : ℕ). bit_or x y ≡ max x y) ((refl, refl), (refl, refl))

of_xor : (a b : ℕ) → a < 2 → b < 2 → bit_xor a b ≡ differ a b
of_xor = each2 (λ (x y : ℕ). bit_xor x y ≡ differ x y) ((refl, refl), (refl, refl))

pub and_digit : (k a b : ℕ) → digit k (bit_and a b) ≡ min (digit k a) (digit k b)
unfolding digit
and_digit k a b = ap (λ (x : ℕ). x % 2) (and_shr a b k) ∙ and_mod (a / 2 ^ k) (b / 2 ^ k) 1 ∙ of_and _ _ (digit_small k a) (digit_small k b)

pub or_digit : (k a b : ℕ) → digit k (bit_or a b) ≡ max (digit k a) (digit k b)
unfolding digit
or_digit k a b = ap (λ (x : ℕ). x % 2) (or_shr a b k) ∙ or_mod (a / 2 ^ k) (b / 2 ^ k) 1 ∙ of_or _ _ (digit_small k a) (digit_small k b)

pub xor_digit : (k a b : ℕ) → digit k (bit_xor a b) ≡ differ (digit k a) (digit k b)
unfolding digit
xor_digit k a b = ap (λ (x : ℕ). x % 2) (xor_shr a b k) ∙ xor_mod (a / 2 ^ k) (b / 2 ^ k) 1 ∙ of_xor _ _ (digit_small k a) (digit_small k b)

-- One bit of what is left of a where e has no bit.
abbrev pub less : ℕ → ℕ → ℕ
less x e = differ x (min x e)

pub less_digit : (k a e : ℕ) → digit k (bit_xor a (bit_and a e)) ≡ less (digit k a) (digit k e)
less_digit k a e = xor_digit k a (bit_and a e) ∙ ap (differ (digit k a)) (and_digit k a e)

-- A number below 2 ^ n has no bit from n on.
pub digit_high : (n k b : ℕ) → b < 2 ^ n → n ≤ k → digit k b ≡ 0
unfolding digit
digit_high n k b h l = ap (λ (x : ℕ). x % 2) (div-eq_of_lt (lt_of_lt_of_le h (pow_mono l)))

-- And 0 has none at all.
pub digit_none : (k : ℕ) → digit k 0 ≡ 0
digit_none k = digit_high 0 k 0 (omega arith) (omega arith)

-- The bits of the upper part.
digit_up : (j k b : ℕ) → digit k (b / 2 ^ j) ≡ digit (j + k) b
unfolding digit
digit_up j k b = ap (λ (x : ℕ). x % 2) (shr-shr b j k)

digit_low : (b : ℕ) → digit 0 b ≡ b % 2
unfolding digit
digit_low b = ap (λ (x : ℕ). x % 2) (div-one b)

-- Numbers with the same bits are equal.
pub same_digits : (a b : ℕ) → ((k : ℕ) → digit k a ≡ digit k b) → a ≡ b
unfolding digit
same_digits a b = bin_ind (λ (x : ℕ). (y : ℕ) → ((k : ℕ) → digit k x ≡ digit k y) → x ≡ y) from_zero step a b
  where
    step : (x : ℕ) → ((y : ℕ) → ((k : ℕ) → digit k (x / 2) ≡ digit k y) → x / 2 ≡ y) → (y : ℕ) → ((k : ℕ) → digit k x ≡ digit k y) → x ≡ y
    step x ih y h =
        sym (div-add-mod' x 2)
        ∙ ap₂ (λ (q r : ℕ). q * 2 + r) (ih (y / 2) (λ k. digit_up 1 k x ∙ h (1 + k) ∙ sym (digit_up 1 k y))) (sym (digit_low x) ∙ h 0 ∙ digit_low y)
        ∙ div-add-mod' y 2

    none : (k : ℕ) → digit k 0 ≡ digit (1 + k) 0
    none k = digit_none k ∙ sym (digit_none (1 + k))

    from_zero : (y : ℕ) → ((k : ℕ) → digit k 0 ≡ digit k y) → 0 ≡ y
    from_zero = bin_ind (λ (y : ℕ). ((k : ℕ) → digit k 0 ≡ digit k y) → 0 ≡ y) (λ h. refl)
        (λ y ih h. ap₂ (λ (q r : ℕ). q * 2 + r) (ih (λ k. none k ∙ h (1 + k) ∙ sym (digit_up 1 k y))) (h 0 ∙ digit_low y) ∙ div-add-mod' y 2)

own : (k : ℕ) → digit k (2 ^ k) ≡ 1
unfolding digit
own k = ap (λ (x : ℕ). x % 2) (ap (λ (x : ℕ). x / 2 ^ k) (sym (one-mul (2 ^ k))) ∙ mul-div_cancel 1 (pow_pos k))

-- All bits below w are set in 2 ^ w - 1, and no other.
pub full_digit : (w k : ℕ) → k < w → digit k (2 ^ w - 1) ≡ 1
full_digit w k h = up (digit k (2 ^ w - 1)) (digit_small k (2 ^ w - 1)) least
  where
    least : min 1 (digit k (2 ^ w - 1)) ≡ 1
    least =
        ap (λ (x : ℕ). min x (digit k (2 ^ w - 1))) (sym (own k)) ∙ sym (and_digit k (2 ^ k) (2 ^ w - 1))
        ∙ ap (digit k) (and_mask (2 ^ k) w ∙ mod-eq_of_lt (pow-lt h)) ∙ own k

    up : (n : ℕ) → n < 2 → min 1 n ≡ 1 → n ≡ 1
    up n l e = omega arith

pub full_high : (w k : ℕ) → w ≤ k → digit k (2 ^ w - 1) ≡ 0
full_high w k h = digit_high w k (2 ^ w - 1) (ones_lt w) h

-- The low bits are those of the remainder.
pub digit_below : (w k b : ℕ) → k < w → digit k (b % 2 ^ w) ≡ digit k b
digit_below w k b h =
    ap (digit k) (sym (and_mask b w)) ∙ and_digit k b (2 ^ w - 1)
    ∙ ap (λ (x : ℕ). min (digit k b) x) (full_digit w k h) ∙ least (digit k b) (digit_small k b)
  where
    least : (n : ℕ) → n < 2 → min n 1 ≡ n
    least n l = omega arith

-- A number of which the low w bits are another's.
abbrev pub put_low : ℕ → ℕ → ℕ → ℕ
put_low full a b = bit_or (bit_xor a (bit_and a full)) (bit_and b full)

pub put_low_lem : (w k a b : ℕ) → digit k (put_low (2 ^ w - 1) a b) ≡ whether (ltb k w) (digit k b) (digit k a)
put_low_lem w k a b =
    or_digit k (bit_xor a (bit_and a (2 ^ w - 1))) (bit_and b (2 ^ w - 1))
    ∙ ap₂ max (less_digit k a (2 ^ w - 1)) (and_digit k b (2 ^ w - 1))
    ∙ go (ltb k w) refl
  where
    go : (t : Bool) → ltb k w ≡ t → max (less (digit k a) (digit k (2 ^ w - 1))) (min (digit k b) (digit k (2 ^ w - 1))) ≡ whether t (digit k b) (digit k a)
    go true t = rw (full_digit w k (ltb-true k w t)) (each2 (λ (x y : ℕ). max (less x 1) (min y 1) ≡ y) ((refl, refl), (refl, refl)) (digit k a) (digit k b) (digit_small k a) (digit_small k b))
    go false t = rw (full_high w k (ltb-false k w t)) (each2 (λ (x y : ℕ). max (less x 0) (min y 0) ≡ x) ((refl, refl), (refl, refl)) (digit k a) (digit k b) (digit_small k a) (digit_small k b))

-- Bytes with the same eight bits are equal.
pub same_byte : (a b : ℕ) → a < 256 → b < 256 → ((k : ℕ) → k < 8 → digit k a ≡ digit k b) → a ≡ b
same_byte a b ha hb h = same_digits a b (λ k. go k (dec_lt k 8))
  where
    go : (k : ℕ) → Dec (k < 8) → digit k a ≡ digit k b
    go k (yes l) = h k l
    go k (no l) = digit_high 8 k a ha (omega arith) ∙ sym (digit_high 8 k b hb (omega arith))

-- What a chip shows of a stored number is read back from its bits.
pub same_lamps : (a b : ℕ) → a < 256 → b < 256 → ((k : ℕ) → lamp k a ≡ lamp k b) → a ≡ b
same_lamps a b ha hb h = same_byte a b ha hb (λ k l. subst (λ (t : Bool). whether t (digit k a) 0 ≡ whether t (digit k b) 0) (lt-ltb k 8 l) (h k))

pub same_narrow : (w a b : ℕ) → ((k : ℕ) → narrow w k a ≡ narrow w k b) → a ≡ b
same_narrow w a b h = same_digits a b (λ k. go (ltb k w) (digit k a) (digit k b) (h k))
  where
    go : (t : Bool) (x y : ℕ) → whether t x (2 * x) ≡ whether t y (2 * y) → x ≡ y
    go true x y e = e
    go false x y e = omega arith
