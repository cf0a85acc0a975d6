-- What the code computes of a number of half degrees. The argument: there are fewer than 256 of them, and a test that
-- computes goes through all; any other float that is as many half degrees is the one computed here.
use Rattle.std.specs.Prelude.{ℕ, zero, suc, ◌*◌, ◌<◌, ◌≡◌, refl, Bool, true, false, not, ◌&&◌, ℤ, pos, negsuc, T, eqb, Float}
use Rattle.std.proofs.Math.Decide.{ℕ_discrete}
use Rattle.std.proofs.Common.{arith, sym, subst, true≢false, eqb→eq}
use Rattle.std.specs.Bool.{beq}
use Rattle.std.specs.Int.Count.{count_trailing_zeros}
use Rattle.std.specs.Float.{nan, inf, fin, binary32}
use Rattle.std.specs.Float.Ieee.{up, down, size, span, climb, round, units, odd, mul, sub, add, sum, neg, lt, of_int, of_bits, of_fields, whole, in_unsigned, to_unsigned, fits}
use Rattle.std.specs.Float.Ieee.Fits.{and_l, and_r, mul-fits, sub-fits}
use Rattle.std.specs.Float.Ieee.Exact.{HasValue}
use Rattle.half_degrees.specs.Half.{signed, InHalves, Halved, Counted}
use Rattle.half_degrees.specs.Laws.{one_float}

-- So many half degrees, and as many below nought, as the code has them: 0.5, 0.0 and 2.0 by their bits.
abbrev pub above : ℕ → Float
above n = mul binary32 (of_int binary32 (pos n)) (of_bits binary32 0x3F000000)

abbrev pub under : ℕ → Float
under n = sub binary32 (of_bits binary32 0) (above n)

abbrev nought : Float
nought = of_bits binary32 0

abbrev two : Float
two = of_bits binary32 0x40000000

-- ---- tests that compute

has : Float → Bool → ℕ → Bool
has nan s n = false
has (inf t) s n = false
has (fin t m e) s n = beq t s && eqb (m * up e * 2) (n * down e)

-- As many half degrees, with the sign that they have.
is_of : Float → ℤ → Bool
is_of f (pos n) = has f false n
is_of f (negsuc n) = has f true (suc n)

-- The test passes at every number below n.
every : (ℕ → Bool) → ℕ → Bool
every test zero = true
every test (suc n) = test n && every test n

below_all : (test : ℕ → Bool) (n : ℕ) → T (every test n) → (k : ℕ) → k < n → T (test k)
unfolding every
below_all test zero t k h = absurd (omega arith)
below_all test (suc n) t k h = go (ℕ_discrete k n) (below_all test n (and_r (test n) (every test n) t) k)
  where
    go : Dec (k ≡ n) → (k < n → T (test k)) → T (test k)
    go (yes e) less = subst (λ (i : ℕ). T (test i)) (sym e) (and_l (test n) (every test n) t)
    go (no d) less = less (omega arith)

same_sign : (t s : Bool) → T (beq t s) → t ≡ s
same_sign true true h = refl
same_sign true false h = absurd h
same_sign false true h = absurd h
same_sign false false h = refl

has_value : (f : Float) (s : Bool) (n : ℕ) → T (has f s n) → HasValue f s n 2
unfolding has
has_value nan s n h = absurd h
has_value (inf t) s n h = absurd h
has_value (fin t m e) s n h = (
  same_sign t s (and_l (beq t s) (eqb (m * up e * 2) (n * down e)) h),
  eqb→eq (m * up e * 2) (n * down e) (and_r (beq t s) (eqb (m * up e * 2) (n * down e)) h),
)

in_halves : (f : Float) (h : ℤ) → T (is_of f h) → InHalves f h
unfolding is_of
in_halves f (pos n) h = has_value f false n h
in_halves f (negsuc n) h = has_value f true (suc n) h

-- ---- what they show

pub above_exact : (n : ℕ) → n < 256 → InHalves (above n) (pos n)
unfolding every has is_of mul round units odd size span climb count_trailing_zeros of_int of_bits of_fields
above_exact n h = in_halves (above n) (pos n) (below_all (λ (k : ℕ). is_of (above k) (pos k)) 256 tt n h)

pub under_exact : (n : ℕ) → n < 256 → InHalves (under n) (signed true n)
unfolding every has is_of mul sub add neg sum round units odd size span climb count_trailing_zeros of_int of_bits of_fields
under_exact n h = in_halves (under n) (signed true n) (below_all (λ (k : ℕ). is_of (under k) (signed true k)) 256 tt n h)

above_not_below : (n : ℕ) → n < 256 → T (not (lt (above n) nought))
unfolding every mul round units odd size span climb count_trailing_zeros of_int of_bits of_fields lt
above_not_below n h = below_all (λ (k : ℕ). not (lt (above k) nought)) 256 tt n h

under_below : (n : ℕ) → n < 255 → T (lt (under (suc n)) nought)
unfolding every mul sub add neg sum round units odd size span climb count_trailing_zeros of_int of_bits of_fields lt
under_below n h = below_all (λ (k : ℕ). lt (under (suc k)) nought) 255 tt n h

back_above : (n : ℕ) → n < 256 → HasValue (sub binary32 nought (under n)) false n 2
unfolding every has mul sub add neg sum round units odd size span climb count_trailing_zeros of_int of_bits of_fields
back_above n h = has_value (sub binary32 nought (under n)) false n (below_all (λ (k : ℕ). has (sub binary32 nought (under k)) false k) 256 tt n h)

double_counts : (n : ℕ) → n < 256 → T (in_unsigned binary32 8 (mul binary32 (above n) two)) × (to_unsigned 8 (mul binary32 (above n) two) ≡ n)
unfolding every mul round units odd size span climb count_trailing_zeros of_int of_bits of_fields whole in_unsigned to_unsigned
double_counts n h = (
  below_all (λ (k : ℕ). in_unsigned binary32 8 (mul binary32 (above k) two)) 256 tt n h,
  eqb→eq (to_unsigned 8 (mul binary32 (above n) two)) n (below_all (λ (k : ℕ). eqb (to_unsigned 8 (mul binary32 (above k) two)) k) 256 tt n h),
)

-- ---- the same of any float that is so many half degrees

module _ (f : Float) (held : fits binary32 f ≡ true) where
  fit : T (fits binary32 f)
  fit = subst T (sym held) tt

  is_above : (n : ℕ) → n < 256 → InHalves f (pos n) → above n ≡ f
  is_above n h v = one_float (above n) f (pos n) (mul-fits binary32 _ _) fit (above_exact n h) v

  is_under : (n : ℕ) → suc n < 256 → InHalves f (negsuc n) → under (suc n) ≡ f
  is_under n h v = one_float (under (suc n)) f (negsuc n) (sub-fits binary32 _ _) fit (under_exact (suc n) h) v

  -- The double of a float that is not below nought is a byte, and says how many half degrees it is.
  pub doubled_byte : Counted f → T (in_unsigned binary32 8 (mul binary32 f two))
  doubled_byte c =
      subst (λ (x : Float). T (in_unsigned binary32 8 (mul binary32 x two))) (is_above c.halves c.few c.exact) (double_counts c.halves c.few).0

  pub doubled_is : (c : Counted f) → to_unsigned 8 (mul binary32 f two) ≡ c.halves
  doubled_is c =
      subst (λ (x : Float). to_unsigned 8 (mul binary32 x two) ≡ c.halves) (is_above c.halves c.few c.exact) (double_counts c.halves c.few).1

  clash : (x : Bool) → T (not x) → x ≡ true → ⊥
  clash true t e = t
  clash false t e = true≢false (sym e)

  -- A float that is below nought is some half degrees below it, and one that is not is some above, or none.
  above_is_not : (n : ℕ) → n < 256 → InHalves f (pos n) → lt f nought ≡ true → ⊥
  above_is_not n h v e = clash (lt f nought) (subst (λ (x : Float). T (not (lt x nought))) (is_above n h v) (above_not_below n h)) e

  under_is : (n : ℕ) → suc n < 256 → InHalves f (negsuc n) → lt f nought ≡ false → ⊥
  under_is n h v e = subst T e (subst (λ (x : Float). T (lt x nought)) (is_under n h v) (under_below n (omega arith)))

  pub below_nought : Halved f → lt f nought ≡ true → (n : ℕ) × (suc n < 256) × InHalves f (negsuc n)
  below_nought w e = go w.negative w.halves w.few w.exact
    where
      go : (s : Bool) (n : ℕ) → n < 256 → InHalves f (signed s n) → (n : ℕ) × (suc n < 256) × InHalves f (negsuc n)
      go false n h v = absurd (above_is_not n h v e)
      go true zero h v = absurd (above_is_not 0 h v e)
      go true (suc n) h v = (n, h, v)

  pub not_below_nought : Halved f → lt f nought ≡ false → Counted f
  not_below_nought w e = go w.negative w.halves w.few w.exact
    where
      go : (s : Bool) (n : ℕ) → n < 256 → InHalves f (signed s n) → Counted f
      go false n h v = record { halves = n; few = h; exact = v }
      go true zero h v = record { halves = 0; few = h; exact = v }
      go true (suc n) h v = absurd (under_is n h v e)

  -- Taken from nought it is as many above.
  pub taken_from_nought : (n : ℕ) → suc n < 256 → InHalves f (negsuc n) → HasValue (sub binary32 nought f) false (suc n) 2
  taken_from_nought n h v = subst (λ (x : Float). HasValue (sub binary32 nought x) false (suc n) 2) (is_under n h v) (back_above (suc n) h)
