-- Laws of a code: what two codes have in common, a byte put, a code that may have been put, number 2. The argument: the
-- operations go into the values and into the marks alike, and so down to single bits, where there are sixteen cases or fewer.
-- Each code that is put follows from one law, that of a code of which the bits of a width are another's; a code that may have
-- been put is what the two have in common, put, and the code of a byte is one such.
use Prim.Native.Nat.{ℕ, ◌+◌, ◌*◌, ◌/◌, ◌%◌, ◌^◌, ◌-◌, ◌<◌, ◌≤◌, max}
use Rattle.std.proofs.Common.{arith, lt_of_lt_of_le, lt_of_le_of_lt, div-add-mod', ◌∙◌, shr_lt, ltb-true, ltb-false, lt-ltb, le-ltb}
use Rattle.std.proofs.Math.Nat.{div-eq_of_lt, mod-eq_of_lt, mul-mod_left}
use Rattle.std.specs.Prelude.{◌≡◌, Bool}
use Rattle.std.proofs.Math.Path.{refl, sym, ap, ap₂}
use Rattle.std.proofs.Math.Bool.{true, false}
use Rattle.std.proofs.Math.Dec.{ltb}
use Rattle.std.proofs.Math.Pow.{field, mod-mod-pow}
use Rattle.std.proofs.lemmas.Nat.{shl-shr, xor_comm, and_shr, xor_shr, and_mod, or_mod, xor_mod, xor_lt, and_le_l, and_le_r, and_mask}
use Rattle.std.specs.Int.Bits.{bit_and, bit_or, bit_xor, differ, and_zero_l, or_zero_l, or_zero_r, or_shr}
use Rattle.rules.specs.Choice.{whether, of4, of5}
use Rattle.rules.specs.Digit.{digit, digit_small, binary, Four, each2, or_digit, xor_digit, less, less_digit, digit_none, full_digit, full_high, same_digits, put_low, put_low_lem}
use Rattle.knowing.specs.Standing.{Standing, known, unknown, Within}
use Rattle.knowing.specs.Know.{join, kept_if}
use Rattle.knowing.specs.Join.{join_swap, join_not}
use Rattle.lamps.specs.View.{lit, past, shown, Wide, told, met, met_code, NonePast, OfByte}

-- What holds of 0 and of 1 holds of four bits.
each4 : (P : ℕ → ℕ → ℕ → ℕ → Type 0) → Four (λ x y. Four (P x y)) → (x y z t : ℕ) → x < 2 → y < 2 → z < 2 → t < 2 → P x y z t
each4 P h x y z t hx hy hz ht = each2 (P x y) (each2 (λ (a b : ℕ). Four (P a b)) h x y hx hy) z t hz ht

-- Where two codes differ, in either byte: in both.
abbrev spread : ℕ → ℕ
spread d = bit_or (bit_or d (d * 256 % 65536)) (d / 256)

-- What two codes have in common: the bits in which neither values nor marks differ.
abbrev both_lamps : ℕ → ℕ → ℕ
both_lamps a b = bit_xor a (bit_and a (spread (bit_xor a b)))

spread_low : (d : ℕ) → d < 65536 → spread d % 256 ≡ bit_or (d % 256) (d / 256)
spread_low d h =
    or_mod (bit_or d (d * 256 % 65536)) (d / 256) 8
    ∙ ap₂ bit_or (or_mod d (d * 256 % 65536) 8 ∙ ap (bit_or (d % 256)) (mod-mod-pow (d * 256) 8 8 ∙ mul-mod_left d 256) ∙ or_zero_r (d % 256))
    (mod-eq_of_lt (shr_lt 8 8 h))

spread_high : (d : ℕ) → d < 65536 → spread d / 256 ≡ bit_or (d / 256) (d % 256)
spread_high d h =
    or_shr (bit_or d (d * 256 % 65536)) (d / 256) 8
    ∙ ap₂ bit_or (or_shr d (d * 256 % 65536) 8 ∙ ap (bit_or (d / 256)) (field (d * 256) 8 8 ∙ ap (λ (x : ℕ). x % 256) (shl-shr d 8))) (div-eq_of_lt (shr_lt 8 8 h))
    ∙ or_zero_r (bit_or (d / 256) (d % 256))

-- The values of a code, or its marks: the operations go into them.
record Half (h : ℕ → ℕ) : Type 0 where
  and : (a b : ℕ) → h (bit_and a b) ≡ bit_and (h a) (h b)
  or : (a b : ℕ) → h (bit_or a b) ≡ bit_or (h a) (h b)
  xor : (a b : ℕ) → h (bit_xor a b) ≡ bit_xor (h a) (h b)

values : Half (λ n. n % 256)
values = record { and = λ a b. and_mod a b 8; or = λ a b. or_mod a b 8; xor = λ a b. xor_mod a b 8 }

marks : Half (λ n. n / 256)
marks = record { and = λ a b. and_shr a b 8; or = λ a b. or_shr a b 8; xor = λ a b. xor_shr a b 8 }

module _ {h : ℕ → ℕ} (H : Half h) (k : ℕ) where
  -- One bit of what differs, of what is left of a where e has no bit, and of a number of which the bits of the width are another's.
  xor_in : (a b : ℕ) → digit k (h (bit_xor a b)) ≡ differ (digit k (h a)) (digit k (h b))
  xor_in a b = ap (digit k) (H.xor a b) ∙ xor_digit k (h a) (h b)

  less_in : (a e : ℕ) → digit k (h (bit_xor a (bit_and a e))) ≡ less (digit k (h a)) (digit k (h e))
  less_in a e = ap (digit k) (H.xor a (bit_and a e) ∙ ap (bit_xor (h a)) (H.and a e)) ∙ less_digit k (h a) (h e)

  put_in : (w wide a x : ℕ) → h wide ≡ 2 ^ w - 1 → digit k (h (put_low wide a x)) ≡ whether (ltb k w) (digit k (h x)) (digit k (h a))
  put_in w wide a x e =
      ap (digit k) (H.or (bit_xor a (bit_and a wide)) (bit_and x wide) ∙ ap₂ bit_or (H.xor a (bit_and a wide) ∙ ap (bit_xor (h a)) (H.and a wide)) (H.and x wide) ∙ ap (λ (f : ℕ). put_low f (h a) (h x)) e)
      ∙ put_low_lem w k (h a) (h x)

-- One bit of what two codes have in common.
abbrev Kept : ℕ → ℕ → ℕ → ℕ → ℕ → Type 0
Kept h x y z t = lit h (less x (max (differ x z) (differ y t))) (less y (max (differ y t) (differ x z))) ≡ join (lit h x y) (lit h z t)

kept : (b : Bool) (x y z t : ℕ) → x < 2 → y < 2 → z < 2 → t < 2 → Kept (whether b 0 3) x y z t
unfolding join kept_if
kept true = each4 (Kept 0) (((((refl, refl), (refl, refl)), ((refl, refl), (refl, refl))), (((refl, refl), (refl, refl)), ((refl, refl), (refl, refl)))))
kept false = each4 (Kept 3) (((((refl, refl), (refl, refl)), ((refl, refl), (refl, refl))), (((refl, refl), (refl, refl)), ((refl, refl), (refl, refl)))))

pub both_shown : (w a b k : ℕ) → a < 65536 → b < 65536 → shown w (both_lamps a b) k ≡ join (shown w a k) (shown w b k)
unfolding shown
both_shown w a b k ha hb =
    let d : ℕ = bit_xor a b in
    let hd : d < 65536 = xor_lt 16 a b ha hb in
    let lo = xor_in values k a b in
    let hi = xor_in marks k a b in
    ap₂ (lit (past w k))
    (less_in values k a (spread d) ∙ ap (less (digit k (a % 256))) (ap (digit k) (spread_low d hd) ∙ or_digit k (d % 256) (d / 256) ∙ ap₂ max lo hi))
    (less_in marks k a (spread d) ∙ ap (less (digit k (a / 256))) (ap (digit k) (spread_high d hd) ∙ or_digit k (d / 256) (d % 256) ∙ ap₂ max hi lo))
    ∙ kept (ltb k w) (digit k (a % 256)) (digit k (a / 256)) (digit k (b % 256)) (digit k (b / 256)) (digit_small k _) (digit_small k _) (digit_small k _) (digit_small k _)

-- The value and the mark of a bit, read back from what it says.
abbrev value_of : Standing → ℕ
value_of (known v) = of5 0 1 1 0 1 v
value_of unknown = 0

abbrev mark_of : Standing → ℕ
mark_of (known v) = of4 1 1 0 1 v
mark_of unknown = 0

value_back : (w n k : ℕ) → value_of (shown w n k) ≡ digit k (n % 256)
unfolding shown
value_back w n k = go (ltb k w) (digit k (n % 256)) (digit k (n / 256)) (digit_small k _) (digit_small k _)
  where
    go : (t : Bool) (x y : ℕ) → x < 2 → y < 2 → value_of (lit (whether t 0 3) x y) ≡ x
    go true = each2 (λ (x y : ℕ). value_of (lit 0 x y) ≡ x) ((refl, refl), (refl, refl))
    go false = each2 (λ (x y : ℕ). value_of (lit 3 x y) ≡ x) ((refl, refl), (refl, refl))

mark_back : (w n k : ℕ) → mark_of (shown w n k) ≡ digit k (n / 256)
unfolding shown
mark_back w n k = go (ltb k w) (digit k (n % 256)) (digit k (n / 256)) (digit_small k _) (digit_small k _)
  where
    go : (t : Bool) (x y : ℕ) → x < 2 → y < 2 → mark_of (lit (whether t 0 3) x y) ≡ y
    go true = each2 (λ (x y : ℕ). mark_of (lit 0 x y) ≡ y) ((refl, refl), (refl, refl))
    go false = each2 (λ (x y : ℕ). mark_of (lit 3 x y) ≡ y) ((refl, refl), (refl, refl))

-- A bit that is known has a mark.
pub known_marked : (w n k v : ℕ) → v < 2 → shown w n k ≡ known v → digit k (n / 256) ≡ 1
known_marked w n k v h e = sym (mark_back w n k) ∙ ap mark_of e ∙ binary (λ (x : ℕ). ◌≡◌ {A = ℕ} (of4 1 1 0 1 x) 1) refl refl v h

-- And what is marked is known.
pub marked_known : (w n k : ℕ) → k < w → digit k (n / 256) ≡ 1 → shown w n k ≡ known (digit k (n % 256))
unfolding shown
marked_known w n k h e =
    rw (e, lt-ltb k w h) (binary (λ (x : ℕ). lit 0 x 1 ≡ known x) refl refl (digit k (n % 256)) (digit_small k _))

-- Past the width a code in range has nothing.
pub past_empty : (w n k : ℕ) → w ≤ k → Within 2 (shown w n k) → (digit k (n % 256) ≡ 0) × (digit k (n / 256) ≡ 0)
unfolding shown
past_empty w n k h s =
    each2 (λ (x y : ℕ). Within 2 (lit 3 x y) → (x ≡ 0) × (y ≡ 0)) ((λ _. (refl, refl), λ h. absurd (omega arith)), (λ h. absurd (omega arith), λ h. absurd (omega arith)))
    (digit k (n % 256)) (digit k (n / 256)) (digit_small k _) (digit_small k _) (rw (le-ltb k w h) at s)

-- Codes with the same marks and the same values are equal.
same_halves : (a b : ℕ) → ((k : ℕ) → digit k (a / 256) ≡ digit k (b / 256)) → ((k : ℕ) → digit k (a % 256) ≡ digit k (b % 256)) → a ≡ b
same_halves a b m v = sym (div-add-mod' a 256) ∙ ap₂ (λ (q r : ℕ). q * 256 + r) (same_digits (a / 256) (b / 256) m) (same_digits (a % 256) (b % 256) v) ∙ div-add-mod' b 256

-- One code for each standing of its bits: codes that say the same are equal.
pub one_code : (w a b : ℕ) → ((k : ℕ) → shown w a k ≡ shown w b k) → a ≡ b
one_code w a b h =
    same_halves a b (λ k. sym (mark_back w a k) ∙ ap mark_of (h k) ∙ mark_back w b k) (λ k. sym (value_back w a k) ∙ ap value_of (h k) ∙ value_back w b k)

pub wide8 : Wide 8 65535
wide8 = record { low = refl; high = refl; byte = omega arith }

pub wide7 : Wide 7 32639
wide7 = record { low = refl; high = refl; byte = omega arith }

pub wide4 : Wide 4 3855
wide4 = record { low = refl; high = refl; byte = omega arith }

pub wide2 : Wide 2 771
wide2 = record { low = refl; high = refl; byte = omega arith }

-- No bit of the code 0 is known.
pub none_shown : (w k : ℕ) → shown w 0 k ≡ unknown
unfolding shown
none_shown w k = rw (digit_none k) refl

-- The code of a byte says nothing past the width, and what it says may have gone to a bit where the byte may have.
pub byte_none_past : (w b c : ℕ) → OfByte w b c → NonePast w c
byte_none_past w b c o k t = o k ∙ rw t refl

pub byte_met_code : (w b c : ℕ) → OfByte w b c → (k : ℕ) (s : Standing) → met_code w c k s ≡ met w b k s
byte_met_code w b c o k s = ap (λ (x : Standing). whether (ltb k w) (join s x) s) (o k) ∙ go (ltb k w)
  where
    go : (t : Bool) → whether t (join s (whether t (known (digit k b)) unknown)) s ≡ whether t (join s (known (digit k b))) s
    go true = refl
    go false = refl

-- A code put over the bits of a width of another.
abbrev put_code : ℕ → ℕ → ℕ → ℕ
put_code wide a c = bit_or (bit_xor a (bit_and a wide)) c

module _ (w wide : ℕ) (W : Wide w wide) where
  -- A code of which the bits of the width are another's.
  mixed_shown : (a x k : ℕ) → shown w (put_low wide a x) k ≡ whether (ltb k w) (shown w x k) (shown w a k)
  unfolding shown
  mixed_shown a x k = ap₂ (lit (past w k)) (put_in values k w wide a x W.low) (put_in marks k w wide a x W.high) ∙ go (ltb k w)
    where
      go : (t : Bool) → lit (whether t 0 3) (whether t (digit k (x % 256)) (digit k (a % 256))) (whether t (digit k (x / 256)) (digit k (a / 256)))
          ≡ whether t (lit (whether t 0 3) (digit k (x % 256)) (digit k (x / 256))) (lit (whether t 0 3) (digit k (a % 256)) (digit k (a / 256)))
      go true = refl
      go false = refl

  -- The bits of the width alone: the code 0 of which they are another's.
  cut_shown : (x k : ℕ) → shown w (bit_and x wide) k ≡ whether (ltb k w) (shown w x k) unknown
  cut_shown x k =
      ap (λ (n : ℕ). shown w n k) (sym (or_zero_l (bit_and x wide)) ∙ ap (λ (n : ℕ). put_code n 0 (bit_and x wide)) (sym (and_zero_l wide)))
      ∙ mixed_shown 0 x k ∙ ap (whether (ltb k w) (shown w x k)) (none_shown w k)

  -- A bit of the width says the same in a code of eight.
  pub narrowed : (x k : ℕ) → shown w (bit_and x wide) k ≡ whether (ltb k w) (shown 8 x k) unknown
  unfolding shown
  narrowed x k = cut_shown x k ∙ go (ltb k w) refl
    where
      go : (t : Bool) → ltb k w ≡ t → whether t (lit (whether t 0 3) (digit k (x % 256)) (digit k (x / 256))) unknown ≡ whether t (lit (past 8 k) (digit k (x % 256)) (digit k (x / 256))) unknown
      go true t = rw (lt-ltb k 8 (lt_of_lt_of_le (ltb-true k w t) W.byte)) refl
      go false t = refl

  -- A code that has no bit past the width, put: cut to the width it is the same.
  put_shown : (a c : ℕ) → NonePast w c → (k : ℕ) → shown w (put_code wide a c) k ≡ whether (ltb k w) (shown w c k) (shown w a k)
  put_shown a c h k = ap (λ (n : ℕ). shown w (put_code wide a n) k) (one_code w c (bit_and c wide) (λ j. go j (ltb j w) refl ∙ sym (cut_shown c j))) ∙ mixed_shown a c k
    where
      go : (j : ℕ) (t : Bool) → ltb j w ≡ t → shown w c j ≡ whether t (shown w c j) unknown
      go j true t = refl
      go j false t = h j t

  -- The code of a byte.
  pub code_shown : (b : ℕ) → b < 256 → OfByte w b (bit_and (bit_or 65280 b) wide)
  unfolding shown
  code_shown b hb k = cut_shown (bit_or 65280 b) k ∙ go (ltb k w) refl
    where
      go : (t : Bool) → ltb k w ≡ t → whether t (lit (whether t 0 3) (digit k (bit_or 65280 b % 256)) (digit k (bit_or 65280 b / 256))) unknown ≡ whether t (known (digit k b)) unknown
      go true t =
          rw (or_mod 65280 b 8 ∙ mod-eq_of_lt hb, or_shr 65280 b 8 ∙ ap (bit_or 255) (div-eq_of_lt hb), full_digit 8 k (lt_of_lt_of_le (ltb-true k w t) W.byte))
          (binary (λ (n : ℕ). lit 0 n 1 ≡ known n) refl refl (digit k b) (digit_small k b))
      go false t = refl

  -- The byte put.
  pub byte_put : (b c : ℕ) → OfByte w b c → (a k : ℕ) → shown w (put_code wide a c) k ≡ told w b k (shown w a k)
  byte_put b c o a k = put_shown a c (byte_none_past w b c o) k ∙ ap (λ (s : Standing). whether (ltb k w) s (shown w a k)) (o k) ∙ go (ltb k w)
    where
      go : (t : Bool) → whether t (whether t (known (digit k b)) unknown) (shown w a k) ≡ whether t (known (digit k b)) (shown w a k)
      go true = refl
      go false = refl

  -- A code that may have been put: what it has in common with the other, put.
  pub code_met : (c : ℕ) → NonePast w c → (a k : ℕ) → a < 65536 → c < 65536 → shown w (put_code wide a (bit_xor c (bit_and c (spread (bit_xor a c))))) k ≡ met_code w c k (shown w a k)
  code_met c h a k ha hc =
      ap (λ (d : ℕ). shown w (put_code wide a (bit_xor c (bit_and c (spread d)))) k) (xor_comm a c)
      ∙ put_shown a (both_lamps c a) (λ j t. both_shown w c a j hc ha ∙ sym (join_not (shown w c j) (shown w a j) (h j t))) k
      ∙ ap (λ (s : Standing). whether (ltb k w) s (shown w a k)) (both_shown w c a k hc ha ∙ join_swap (shown w c k) (shown w a k))

-- The bits of a width.
wide_at : (w k : ℕ) → ltb k w ≡ true → digit k (2 ^ w - 1) ≡ 1
wide_at w k t = full_digit w k (ltb-true k w t)

wide_past : (w k : ℕ) → ltb k w ≡ false → digit k (2 ^ w - 1) ≡ 0
wide_past w k t = full_high w k (ltb-false k w t)

-- Number 2 of a code: the bits past the width, and the values of bits that are not marked.
abbrev wrong_bits : ℕ → ℕ → ℕ
wrong_bits wide a = bit_or (bit_xor a (bit_and a wide)) (bit_xor (bit_and a 255) (bit_and (bit_and a 255) (a / 256)))

abbrev Right : ℕ → ℕ → ℕ → ℕ → Type 0
Right h f x y = Within 2 (lit h x y) → (max (less x f) (less x y) ≡ 0) × (less y f ≡ 0)

right_here : (x y : ℕ) → x < 2 → y < 2 → Right 0 1 x y
right_here = each2 (Right 0 1) ((λ _. (refl, refl), λ _. (refl, refl)), (λ h. absurd (omega arith), λ _. (refl, refl)))

right_past : (x y : ℕ) → x < 2 → y < 2 → Right 3 0 x y
right_past = each2 (Right 3 0) ((λ _. (refl, refl), λ h. absurd (omega arith)), (λ h. absurd (omega arith), λ h. absurd (omega arith)))

abbrev Left : ℕ → ℕ → ℕ → ℕ → Type 0
Left h f x y = max (less x f) (less x y) ≡ 0 → less y f ≡ 0 → Within 2 (lit h x y)

left_here : (x y : ℕ) → x < 2 → y < 2 → Left 0 1 x y
left_here = each2 (Left 0 1) ((λ _ _. tt, λ _ _. omega arith), (λ h _. absurd (omega arith), λ _ _. omega arith))

left_past : (x y : ℕ) → x < 2 → y < 2 → Left 3 0 x y
left_past = each2 (Left 3 0) ((λ _ _. tt, λ _ h. absurd (omega arith)), (λ h _. absurd (omega arith), λ h _. absurd (omega arith)))

module _ (w wide a : ℕ) (W : Wide w wide) (ha : a < 65536) where
  byte : bit_and a 255 < 256
  byte = lt_of_le_of_lt (and_le_r a 255) (omega arith)

  small : bit_xor (bit_and a 255) (bit_and (bit_and a 255) (a / 256)) < 256
  small = xor_lt 8 (bit_and a 255) (bit_and (bit_and a 255) (a / 256)) byte (lt_of_le_of_lt (and_le_l (bit_and a 255) (a / 256)) byte)

  wrong_low : (k : ℕ) → digit k (wrong_bits wide a % 256) ≡ max (less (digit k (a % 256)) (digit k (2 ^ w - 1))) (less (digit k (a % 256)) (digit k (a / 256)))
  wrong_low k =
      ap (digit k) (or_mod (bit_xor a (bit_and a wide)) _ 8)
      ∙ or_digit k _ _
      ∙ ap₂ max
      (less_in values k a wide ∙ ap (λ (n : ℕ). less (digit k (a % 256)) (digit k n)) W.low)
      (ap (digit k) (mod-eq_of_lt small ∙ ap (λ (x : ℕ). bit_xor x (bit_and x (a / 256))) (and_mask a 8)) ∙ less_digit k (a % 256) (a / 256))

  wrong_high : (k : ℕ) → digit k (wrong_bits wide a / 256) ≡ less (digit k (a / 256)) (digit k (2 ^ w - 1))
  wrong_high k =
      ap (digit k) (or_shr (bit_xor a (bit_and a wide)) _ 8 ∙ ap (bit_or (bit_xor a (bit_and a wide) / 256)) (div-eq_of_lt small) ∙ or_zero_r (bit_xor a (bit_and a wide) / 256))
      ∙ less_in marks k a wide ∙ ap (λ (n : ℕ). less (digit k (a / 256)) (digit k n)) W.high

  -- A code has no wrong bit exactly where each of its bits is known to be 0 or 1, or unknown.
  pub sound_code : wrong_bits wide a ≡ 0 → (k : ℕ) → Within 2 (shown w a k)
  unfolding shown
  sound_code e k = go (ltb k w) refl (sym (wrong_low k) ∙ ap (λ (n : ℕ). digit k (n % 256)) e ∙ digit_none k) (sym (wrong_high k) ∙ ap (λ (n : ℕ). digit k (n / 256)) e ∙ digit_none k)
    where
      go : (t : Bool) → ltb k w ≡ t → max (less (digit k (a % 256)) (digit k (2 ^ w - 1))) (less (digit k (a % 256)) (digit k (a / 256))) ≡ 0 → less (digit k (a / 256)) (digit k (2 ^ w - 1)) ≡ 0
          → Within 2 (lit (whether t 0 3) (digit k (a % 256)) (digit k (a / 256)))
      go true t p q = left_here _ _ (digit_small k _) (digit_small k _) (rw (wide_at w k t) at p) (rw (wide_at w k t) at q)
      go false t p q = left_past _ _ (digit_small k _) (digit_small k _) (rw (wide_past w k t) at p) (rw (wide_past w k t) at q)

  pub code_sound : ((k : ℕ) → Within 2 (shown w a k)) → wrong_bits wide a ≡ 0
  unfolding shown
  code_sound h =
      same_halves (wrong_bits wide a) 0 (λ k. wrong_high k ∙ (go k (ltb k w) refl (h k)).1 ∙ sym (digit_none k)) (λ k. wrong_low k ∙ (go k (ltb k w) refl (h k)).0 ∙ sym (digit_none k))
    where
      go : (k : ℕ) (t : Bool) → ltb k w ≡ t → Within 2 (lit (whether t 0 3) (digit k (a % 256)) (digit k (a / 256)))
          → (max (less (digit k (a % 256)) (digit k (2 ^ w - 1))) (less (digit k (a % 256)) (digit k (a / 256))) ≡ 0) × (less (digit k (a / 256)) (digit k (2 ^ w - 1)) ≡ 0)
      go k true t p = rw (wide_at w k t) (right_here _ _ (digit_small k _) (digit_small k _) p)
      go k false t p = rw (wide_past w k t) (right_past _ _ (digit_small k _) (digit_small k _) p)

-- Whatever a code is, what it says of a bit is a small number.
pub shown_small : (w n k : ℕ) → Within 5 (shown w n k)
unfolding shown
shown_small w n k = go (ltb k w)
  where
    go : (t : Bool) → Within 5 (lit (whether t 0 3) (digit k (n % 256)) (digit k (n / 256)))
    go true = each2 (λ (x y : ℕ). Within 5 (lit 0 x y)) ((tt, omega arith), (omega arith, omega arith)) (digit k (n % 256)) (digit k (n / 256)) (digit_small k _) (digit_small k _)
    go false = each2 (λ (x y : ℕ). Within 5 (lit 3 x y)) ((tt, omega arith), (omega arith, omega arith)) (digit k (n % 256)) (digit k (n / 256)) (digit_small k _) (digit_small k _)
