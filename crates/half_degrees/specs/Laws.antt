-- A float is one number of half degrees, and a number of half degrees is one float; its double is that whole number.
-- The argument: the double is rounded from the very fraction that the whole number is, and a format writes each number
-- in one way, with an odd significand.
use Rattle.std.specs.Prelude.{ℕ, zero, suc, ◌+◌, ◌*◌, ◌%◌, ◌^◌, ◌<◌, ◌≡◌, refl, Bool, true, false, not, ◌&&◌, ℤ, pos, negsuc, T, eqb, ltb, leb, Float}
use Rattle.std.proofs.Common.{mul_assoc, mul-one, mul_left_comm, mul_right_comm, zero-mul, mul-pos, zero-lt-suc, pow-suc, arith, sym, ap, ◌∙◌, true≢false, eqb→eq, eqb-true, pow-add}
use Rattle.std.proofs.Math.Nat.{pow-succ', eq_of_mul-eq-mul_right}
use Rattle.std.specs.Float.{nan, inf, fin, Format, binary32}
use Rattle.std.specs.Float.Ieee.{prec, emax, low, up, down, round, sum, add, eq, of_int, fits, to_bits, is_nan}
use Rattle.std.specs.Float.Ieee.Fits.{down_pos, and_l}
use Rattle.std.specs.Float.Ieee.Exact.{HasValue}
use Rattle.std.specs.Float.Ieee.Back.{whole_unique}
use Rattle.std.specs.Float.Ieee.Scale.{round_same}
use Rattle.half_degrees.specs.Half.{signed, InHalves, Halved}

-- ---- the double

twice : (x d n : ℕ) → x * 2 ≡ n * d → (x * d + x * d) * 1 ≡ n * (d * d)
twice x d n h =
    let a : (x * d + x * d) * 1 ≡ x * d * 2 = omega arith in
    a ∙ mul_right_comm x d 2 ∙ ap (λ (z : ℕ). z * d) h ∙ mul_assoc n d d

double : (f : Float) (s : Bool) (n : ℕ) → HasValue f s n 2 → add binary32 f f ≡ round binary32 s n 1
unfolding add sum
double nan s n v = absurd v
double (inf t) s n v = absurd v
double (fin true m e) s n v =
    round_same binary32 true (m * up e * down e + m * up e * down e) (down e * down e) n 1 (mul-pos (down_pos e) (down_pos e)) (omega arith) (twice (m * up e) (down e) n v.1)
    ∙ ap (λ (t : Bool). round binary32 t n 1) v.0
double (fin false m e) s n v =
    round_same binary32 false (m * up e * down e + m * up e * down e) (down e * down e) n 1 (mul-pos (down_pos e) (down_pos e)) (omega arith) (twice (m * up e) (down e) n v.1)
    ∙ ap (λ (t : Bool). round binary32 t n 1) v.0

-- The double of a float that is h half degrees is the whole number h.
pub double_whole : (f : Float) (h : ℤ) → InHalves f h → add binary32 f f ≡ of_int binary32 h
unfolding of_int
double_whole f (pos n) v = double f false n v
double_whole f (negsuc n) v = double f true (suc n) v

-- ---- one number

pub both_left : (a b : Bool) → (a && b) ≡ true → a ≡ true
both_left true b e = refl
both_left false b e = e

cancel : (d a b : ℕ) → 0 < d → a * d ≡ b * d → a ≡ b
cancel d a b h e = eq_of_mul-eq-mul_right d h a b e

pub one_size : (f : Float) (s t : Bool) (a b : ℕ) → HasValue f s a 2 → HasValue f t b 2 → (s ≡ t) × (a ≡ b)
one_size nan s t a b v w = absurd v
one_size (inf u) s t a b v w = absurd v
one_size (fin u m e) s t a b v w = (sym v.0 ∙ w.0, cancel (down e) a b (down_pos e) (sym v.1 ∙ w.1))

-- A float is no two numbers of half degrees.
pub one_number : (f : Float) (h j : ℤ) → InHalves f h → InHalves f j → h ≡ j
one_number f (pos a) (pos b) v w = ap pos (one_size f false false a b v w).1
one_number f (pos a) (negsuc b) v w = absurd (true≢false (sym (one_size f false true a (suc b) v w).0))
one_number f (negsuc a) (pos b) v w = absurd (true≢false (one_size f true false (suc a) b v w).0)
one_number f (negsuc a) (negsuc b) v w =
    let e : a ≡ b = let x = (one_size f true true (suc a) (suc b) v w).1 in omega arith in
    ap negsuc e

-- ---- one float

even_odd : (m t : ℕ) → m % 2 ≡ 1 → m ≡ 2 * t → ⊥
even_odd m t o h = omega arith

-- Two odd numbers, times powers of two.
odd_powers : (m n a b : ℕ) → m % 2 ≡ 1 → n % 2 ≡ 1 → m * 2 ^ a ≡ n * 2 ^ b → (m ≡ n) × (a ≡ b)
odd_powers m n zero zero o p h = (sym (mul-one m) ∙ h ∙ mul-one n, refl)
odd_powers m n zero (suc b) o p h =
    absurd (even_odd m (n * 2 ^ b) o (sym (mul-one m) ∙ h ∙ ap (λ (x : ℕ). n * x) (pow-succ' 2 b) ∙ mul_left_comm n 2 (2 ^ b)))
odd_powers m n (suc a) zero o p h =
    absurd (even_odd n (m * 2 ^ a) p (sym (mul-one n) ∙ sym h ∙ ap (λ (x : ℕ). m * x) (pow-succ' 2 a) ∙ mul_left_comm m 2 (2 ^ a)))
odd_powers m n (suc a) (suc b) o p h =
    let halved : m * 2 ^ a * 2 ≡ n * 2 ^ b * 2 =
    mul_assoc m (2 ^ a) 2 ∙ ap (λ (x : ℕ). m * x) (sym (pow-suc 2 a)) ∙ h ∙ ap (λ (x : ℕ). n * x) (pow-suc 2 b) ∙ sym (mul_assoc n (2 ^ b) 2) in
    let r = odd_powers m n a b o p (cancel 2 (m * 2 ^ a) (n * 2 ^ b) (omega arith) halved) in
    (r.0, ap suc r.1)

-- Of two odd significands with one value the exponents are one, too.
same_exponent : (m n : ℕ) (e g : ℤ) → m % 2 ≡ 1 → n % 2 ≡ 1 → m * up e * down g ≡ n * up g * down e → (m ≡ n) × (e ≡ g)
same_exponent m n (pos a) (pos b) o p h =
    let r = odd_powers m n a b o p (sym (mul-one (m * 2 ^ a)) ∙ h ∙ mul-one (n * 2 ^ b)) in
    (r.0, ap pos r.1)
same_exponent m n (pos a) (negsuc b) o p h =
    let up_there : m * 2 ^ (a + suc b) ≡ n * 2 ^ 0 =
    ap (λ (x : ℕ). m * x) (pow-add 2 a (suc b)) ∙ sym (mul_assoc m (2 ^ a) (2 ^ suc b)) ∙ h ∙ mul-one (n * 1) in
    absurd (let z = (odd_powers m n (a + suc b) 0 o p up_there).1 in omega arith)
same_exponent m n (negsuc a) (pos b) o p h =
    let up_there : m * 2 ^ 0 ≡ n * 2 ^ (b + suc a) =
    sym (mul-one (m * 1)) ∙ h ∙ mul_assoc n (2 ^ b) (2 ^ suc a) ∙ ap (λ (x : ℕ). n * x) (sym (pow-add 2 b (suc a))) in
    absurd (let z = (odd_powers m n 0 (b + suc a) o p up_there).1 in omega arith)
same_exponent m n (negsuc a) (negsuc b) o p h =
    let powers : m * 2 ^ suc b ≡ n * 2 ^ suc a =
    ap (λ (x : ℕ). x * 2 ^ suc b) (sym (mul-one m)) ∙ h ∙ ap (λ (x : ℕ). x * 2 ^ suc a) (mul-one n) in
    let r = odd_powers m n (suc b) (suc a) o p powers in
    let e : a ≡ b = let z = r.1 in omega arith in
    (r.0, ap negsuc e)

is_odd : (f : Format) (s : Bool) (m : ℕ) (e : ℤ) → T (fits f (fin s (suc m) e)) → suc m % 2 ≡ 1
unfolding fits
is_odd f s m e t =
    let top : Bool = eqb (suc m % 2) 1 && ltb (suc m) (2 ^ prec f) in
    let more : Bool = top && leb (down e) (2 ^ low f) in
    eqb→eq (suc m % 2) 1 (and_l (eqb (suc m % 2) 1) (ltb (suc m) (2 ^ prec f)) (and_l top (leb (down e) (2 ^ low f)) (and_l more (ltb (suc m * up e) (2 ^ suc (emax f) * down e)) t)))

crossed : (x y a p q : ℕ) → x * 2 ≡ a * p → y * 2 ≡ a * q → x * q ≡ y * p
crossed x y a p q h g =
    cancel 2 (x * q) (y * p) (omega arith)
    (mul_right_comm x q 2 ∙ ap (λ (z : ℕ). z * q) h ∙ mul_right_comm a p q ∙ ap (λ (z : ℕ). z * p) (sym g) ∙ mul_right_comm y 2 p)

-- Nought, as a whole number.
no_halves : (f : Float) (s : Bool) → HasValue f s 0 2 → HasValue f s 0 1
no_halves nan s v = v
no_halves (inf t) s v = v
no_halves (fin t m e) s v = (v.0, let x = v.1 in let z = zero-mul (down e) in omega arith)

some : (m a : ℕ) (e : ℤ) → m * up e * 2 ≡ suc a * down e → (m ≡ 0 → ⊥)
some m a e h z =
    let none : m * up e ≡ 0 = ap (λ (x : ℕ). x * up e) z ∙ zero-mul (up e) in
    let much = mul-pos (zero-lt-suc a) (down_pos e) in
    omega arith

one_of_size : (f g : Float) (s : Bool) (a : ℕ) → T (fits binary32 f) → T (fits binary32 g) → HasValue f s a 2 → HasValue g s a 2 → f ≡ g
one_of_size f g s zero p q v w = whole_unique binary32 f g s 0 p q (no_halves f s v) (no_halves g s w)
one_of_size nan g s (suc a) p q v w = elim v [ ]
one_of_size (inf _) g s (suc a) p q v w = elim v [ ]
one_of_size (fin t zero e) g s (suc a) p q v w = absurd (some 0 a e v.1 refl)
one_of_size (fin t (suc m) e) nan s (suc a) p q v w = elim w [ ]
one_of_size (fin t (suc m) e) (inf _) s (suc a) p q v w = elim w [ ]
one_of_size (fin t (suc m) e) (fin u zero g) s (suc a) p q v w = absurd (some 0 a g w.1 refl)
one_of_size (fin t (suc m) e) (fin u (suc n) g) s (suc a) p q v w =
    let r = same_exponent (suc m) (suc n) e g (is_odd binary32 t m e p) (is_odd binary32 u n g q) (crossed (suc m * up e) (suc n * up g) (suc a) (down e) (down g) v.1 w.1) in
    λ i. fin ((v.0 ∙ sym w.0) i) (r.0 i) (r.1 i)

-- A number of half degrees is one float, to the last bit. That it fits its format holds of every float that code hands
-- over.
pub one_float : (f g : Float) (h : ℤ) → T (fits binary32 f) → T (fits binary32 g) → InHalves f h → InHalves g h → f ≡ g
one_float f g (pos n) p q v w = one_of_size f g false n p q v w
one_float f g (negsuc n) p q v w = one_of_size f g true (suc n) p q v w

-- Nought has no bit set, that of the sign included.
pub nought_bits : (f : Float) → T (fits binary32 f) → InHalves f (pos 0) → to_bits binary32 f ≡ 0
unfolding fits to_bits
nought_bits f p v = ap (to_bits binary32) (one_float f (fin false 0 (pos 0)) (pos 0) p tt v (refl, refl))

-- A float that equals nought, as floats are compared, is no half degrees.
zero_size : (x n d : ℕ) → 0 < d → x * 1 ≡ 0 → x * 2 ≡ n * d → n ≡ 0
zero_size x zero d p z h = refl
zero_size x (suc n) d p z h = absurd (let much = mul-pos (zero-lt-suc n) p in omega arith)

nought_size : (f : Float) (s : Bool) (n : ℕ) → HasValue f s n 2 → eq f (fin false 0 (pos 0)) ≡ true → n ≡ 0
unfolding eq
nought_size nan s n v e = absurd v
nought_size (inf t) s n v e = absurd v
nought_size (fin t m e) s n v q =
    let level = eqb-true (m * up e * 1) (0 * 1 * down e) (both_left _ _ q) in
    zero_size (m * up e) n (down e) (down_pos e) (level ∙ ap (λ (x : ℕ). x * down e) (zero-mul 1) ∙ zero-mul (down e)) v.1

pub equals_nought : (f : Float) (h : ℤ) → InHalves f h → eq f (fin false 0 (pos 0)) ≡ true → h ≡ pos 0
equals_nought f (pos n) v q = ap pos (nought_size f false n v q)
equals_nought f (negsuc n) v q = absurd (let z = nought_size f true (suc n) v q in omega arith)

-- A float that is some half degrees, and has the sign of what is below nought, is below it; so minus nought is none.
pub under_nought : (f : Float) (n : ℕ) → Halved f → HasValue f true n 2 → (m : ℕ) × (n ≡ suc m) × InHalves f (negsuc m)
under_nought f n w v = go w.negative w.halves w.exact
  where
    go : (s : Bool) (m : ℕ) → InHalves f (signed s m) → (m : ℕ) × (n ≡ suc m) × InHalves f (negsuc m)
    go false m u = absurd (true≢false (one_size f true false n m v u).0)
    go true zero u = absurd (true≢false (one_size f true false n 0 v u).0)
    go true (suc m) u = (m, (one_size f true true n (suc m) v u).1, u)

-- Some half degrees are a number.
pub halved_number : (f : Float) → Halved f → T (not (is_nan f))
unfolding is_nan
halved_number f w = go f w.negative w.halves w.exact
  where
    go : (f : Float) (s : Bool) (n : ℕ) → InHalves f (signed s n) → T (not (is_nan f))
    go nan false n v = absurd v
    go nan true zero v = absurd v
    go nan true (suc n) v = absurd v
    go (inf t) s n v = tt
    go (fin t m e) s n v = tt
