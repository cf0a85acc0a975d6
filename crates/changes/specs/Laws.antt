-- Laws of changes: what is left of one that may have happened is told code by code and stays within the row, and what a change of codes does is what it says.
use Rattle.std.specs.Prelude.{ℕ, zero, suc, ◌+◌, ◌*◌, ◌<◌, ◌≤◌, ◌≡◌, refl, Bool, true, false, ◌||◌, List, length, get_or, set, eqb, ltb}
use Rattle.std.proofs.Common.{arith, add-one, sym, ap, ◌∙◌, true≢false, length-set, get_or-set_same, get_or-set_other, eqb-true, eq-eqb, ne_eqb, lt-ltb, le-ltb, below_more}
use Rattle.std.proofs.Math.Decide.{dec_lt, ℕ_discrete}
use Rattle.std.proofs.Math.Nat.{mul-lt-mul_of_pos_left}
use Rattle.rules.specs.Digit.{digit}
use Rattle.rules.specs.Touch.{bits_at, bits_leave}
use Rattle.rules.specs.Laws.{past}
use Rattle.rules.specs.Choice.{whether}
use Rattle.rules.specs.Change.{keep, set_bits}
use Rattle.knowing.specs.Standing.{Standing, known, unknown}
use Rattle.knowing.specs.Know.{join, lifted}
use Rattle.knowing.specs.Join.{join_swap, join_again, join_not, join_nor, join_itself}
use Rattle.changes.specs.declared.Change.{Change}
use Rattle.changes.specs.declared.Change.TheVariants.{Keep, Put, Meet, Forget}
use Rattle.lamps.specs.View.{shown, held, Wide, told, met, met_code, OfByte, Puts, Meets}
use Rattle.lamps.specs.Lamp.{wide8, byte_none_past, byte_met_code}
use Rattle.lamps.specs.Row.{row_end}
use Rattle.changes.specs.Change.{among, seen, Changes, Met, Inside, loose}

-- A bit that keeps or takes part.
by_test : (t : Bool) (s x : Standing) → whether t (join s x) s ≡ join s (whether t x s)
by_test true s x = refl
by_test false s x = sym (join_itself s)

again : (t : Bool) (s x : Standing) → whether t (join s x) s ≡ join s (whether t (join s x) s)
again true s x = sym (join_swap s (join s x) ∙ ap (λ (y : Standing). join y s) (join_swap s x) ∙ join_again x s ∙ join_swap x s)
again false s x = sym (join_itself s)

pub one_place : (a i : ℕ) → among a 1 1 i ≡ eqb i a
one_place a i =
    let z : a + 1 * 0 ≡ a = omega arith in
    rw z (or_false (eqb i a))
  where
    or_false : (t : Bool) → (t || false) ≡ t
    or_false true = refl
    or_false false = refl

-- A byte that may have been put.
pub met_told : (w b k : ℕ) (s : Standing) → met w b k s ≡ join s (told w b k s)
met_told w b k s = by_test (ltb k w) s (known (digit k b))

met_again : (w b k : ℕ) (s : Standing) → met w b k s ≡ join s (met w b k s)
met_again w b k s = again (ltb k w) s (known (digit k b))

either : (t : Bool) (s x y : Standing) → x ≡ join s y → whether t x s ≡ join s (whether t y s)
either true s x y e = e
either false s x y e = sym (join_itself s)

pub loose_seen : (w : ℕ) (x : Change) (i k : ℕ) (s : Standing) → seen w (loose x) i k s ≡ join s (seen w x i k s)
loose_seen w Keep i k s = sym (join_itself s)
loose_seen w (Put a b) i k s = rw (one_place a.0 i) (either (eqb i a.0) s _ _ (met_told w b k s))
loose_seen w (Meet a by n b) i k s = either (among a.0 by n i) s _ _ (met_again w b k s)
loose_seen w Forget i k s = join_nor s unknown refl

pub loose_inside : (room : ℕ) (x : Change) → Inside room x → Inside room (loose x)
loose_inside room Keep h = h
loose_inside room (Put a b) h = (omega arith, λ j l. omega arith)
loose_inside room (Meet a by n b) h = h
loose_inside room Forget h = h

-- The first n codes agree with the byte b: wherever it went, they are as they were.
abbrev pub AgreeTo : List ℕ → ℕ → ℕ → Type 0
AgreeTo l b n = (i : ℕ) → i < n → (k : ℕ) → held 8 l i k ≡ met 8 b k (held 8 l i k)

pub agree_more : (l : List ℕ) (b c n x : ℕ) → OfByte 8 b c → AgreeTo l b n → Meets 65535 c (get_or l n 0) x → x ≡ get_or l n 0 → AgreeTo l b (n + 1)
agree_more l b c n x o h m e =
    below_more (λ (i : ℕ). (k : ℕ) → held 8 l i k ≡ met 8 b k (held 8 l i k)) n h
    (λ k. ap (λ (y : ℕ). shown 8 y k) (sym e) ∙ m 8 wide8 (byte_none_past 8 b c o) k ∙ byte_met_code 8 b c o k (shown 8 (get_or l n 0) k))

pub agree_all : (l : List ℕ) (b n : ℕ) → AgreeTo l b n → length l ≤ n → (i k : ℕ) → held 8 l i k ≡ met 8 b k (held 8 l i k)
agree_all l b n h e i k = go (dec_lt i n)
  where
    none : (t : Bool) → unknown ≡ whether t (join unknown (known (digit k b))) unknown
    none true = join_not unknown _ refl
    none false = refl

    go : Dec (i < n) → held 8 l i k ≡ met 8 b k (held 8 l i k)
    go (yes p) = h i p k
    go (no p) = rw (row_end 8 l i k (omega arith)) (none (ltb k 8))

-- One code changed, by what it shows.
pub set_seen : (w : ℕ) (f : ℕ → Standing → Standing) (l : List ℕ) (a x : ℕ) → a < length l → ((k : ℕ) → shown w x k ≡ f k (held w l a k)) → (i k : ℕ)
    → held w (set l a x) i k ≡ whether (eqb i a) (f k (held w l i k)) (held w l i k)
set_seen w f l a x h e i k = go (ℕ_discrete i a)
  where
    go : Dec (i ≡ a) → held w (set l a x) i k ≡ whether (eqb i a) (f k (held w l i k)) (held w l i k)
    go (yes p) = rw (p, eq-eqb a a refl) (ap (λ (c : ℕ). shown w c k) (get_or-set_same l a x 0 h) ∙ e k)
    go (no p) = rw (ne_eqb i a p) (ap (λ (c : ℕ). shown w c k) (get_or-set_other l a i x 0 p))

-- Which of the numbers it is, or that it is none.
found : (from by n i : ℕ) → among from by n i ≡ true → (j : ℕ) × ((j < n) × (i ≡ from + by * j))
found from by zero i e = absurd (true≢false (sym e))
found from by (suc n) i e = go (found from by n i) (eqb i (from + by * n)) refl e
  where
    go : (among from by n i ≡ true → (j : ℕ) × ((j < n) × (i ≡ from + by * j))) → (t : Bool) → eqb i (from + by * n) ≡ t → (t || among from by n i) ≡ true
        → (j : ℕ) × ((j < suc n) × (i ≡ from + by * j))
    go earlier true p q = (n, (omega arith, eqb-true i (from + by * n) p))
    go earlier false p q =
        let r = earlier q in
        (r.0, (omega (arith, r.1.0), r.1.1))

there : (from by n j : ℕ) → j < n → among from by n (from + by * j) ≡ true
there from by zero j h = absurd (omega arith)
there from by (suc n) j h = go (there from by n j) (ℕ_discrete j n)
  where
    or_true : (t : Bool) → (t || true) ≡ true
    or_true true = refl
    or_true false = refl

    go : (j < n → among from by n (from + by * j) ≡ true) → Dec (j ≡ n) → (eqb (from + by * j) (from + by * n) || among from by n (from + by * j)) ≡ true
    go earlier (yes p) = rw (p, eq-eqb (from + by * n) (from + by * n) refl) refl
    go earlier (no p) = rw (earlier (omega arith)) (or_true (eqb (from + by * j) (from + by * n)))

-- A number is one of them, or none.
among_or_not : (from by n i : ℕ) (x y t : Standing) → ((j : ℕ) → j < n → i ≡ from + by * j → x ≡ t) → (((j : ℕ) → j < n → ¬ (i ≡ from + by * j)) → y ≡ t)
    → whether (among from by n i) x y ≡ t
among_or_not from by n i x y t here rest = go (among from by n i) refl
  where
    go : (b : Bool) → among from by n i ≡ b → whether b x y ≡ t
    go true e =
        let f = found from by n i e in
        here f.0 f.1.0 f.1.1
    go false e = rest (λ j h p. absurd (true≢false (sym (there from by n j h) ∙ ap (λ (z : ℕ). among from by n z) (sym p) ∙ e)))

-- A bit is one that a byte may have been put in, or it stays, be it of another code or past the width.
pub met_or_not : (w from by n b i k : ℕ) (s t : Standing) → ((j : ℕ) → j < n → i ≡ from + by * j → k < w → join s (known (digit k b)) ≡ t)
    → (((j : ℕ) → j < n → k < w → ¬ (i ≡ from + by * j)) → s ≡ t) → whether (among from by n i) (met w b k s) s ≡ t
met_or_not w from by n b i k s t here rest = among_or_not from by n i (met w b k s) s t (λ j h p. go j h p (dec_lt k w)) (λ m. rest (λ j h l. m j h))
  where
    go : (j : ℕ) → j < n → i ≡ from + by * j → Dec (k < w) → met w b k s ≡ t
    go j h p (yes l) = rw (lt-ltb k w l) (here j h p l)
    go j h p (no m) = rw (le-ltb k w (omega arith)) (rest (λ j h l. absurd (m l)))

-- What may have gone to none of the codes, and to one more. The codes before it are others, as the distance is not nought.
pub met_none : (wide c : ℕ) (l : List ℕ) (from by : ℕ) → Met wide c l from by 0 l
met_none wide c l from by = record { shows = λ w W h i k. refl; size = refl }

fresh : (from by n m : ℕ) → 0 < by → n ≤ m → among from by n (from + by * m) ≡ false
fresh from by zero m step h = refl
fresh from by (suc n) m step h =
    let t : by * n < by * m = mul-lt-mul_of_pos_left (omega arith) step in
    rw (ne_eqb (from + by * m) (from + by * n) (λ e. omega arith), fresh from by n m step (omega arith)) refl

pub met_more : (wide c : ℕ) (l r : List ℕ) (from by n x : ℕ) → 0 < by → Met wide c l from by n r → from + by * n < length r → Meets wide c (get_or r (from + by * n) 0) x
    → Met wide c l from by (n + 1) (set r (from + by * n) x)
met_more wide c l r from by n x step m h e = record {
  shows = λ w W o i k. rw add-one
      (set_seen w (met_code w c) r (from + by * n) x h (e w W o) i k
      ∙ rw (m.shows w W o i k) (once (eqb i (from + by * n)) (among from by n i) (held w l i k) (met_code w c k) (λ t. ap (among from by n) (eqb-true i _ t) ∙ fresh from by n n step (omega arith))));
  size = length-set r (from + by * n) x ∙ m.size;
}
  where
    once : (t u : Bool) (s : Standing) (f : Standing → Standing) → (t ≡ true → u ≡ false) → whether t (f (whether u (f s) s)) (whether u (f s) s) ≡ whether (t || u) (f s) s
    once true u s f h = rw (h refl) refl
    once false u s f h = refl

-- Where the code is that of a byte, the byte may have gone to them.
pub met_byte : (w wide b c : ℕ) (l r : List ℕ) (from by n : ℕ) → Wide w wide → OfByte w b c → Met wide c l from by n r → Changes w (Meet (record { 0 = from }) by n b) l r
met_byte w wide b c l r from by n W o m i k =
    m.shows w W (byte_none_past w b c o) i k ∙ ap (λ (s : Standing). whether (among from by n i) s (held w l i k)) (byte_met_code w b c o k (held w l i k))

-- A code put is its bits set: the facts are numbered by code and bit, as those of cells are.
module _ {F : Type 0} (same? : Discrete F) (numbered : ℕ → ℕ → F) (apart : (i k j n : ℕ) → numbered i k ≡ numbered j n → (i ≡ j) × (k ≡ n)) (v : F → Standing) where
  pub put_told : (w a b i k : ℕ) → whether (eqb i a) (told w b k (v (numbered i k))) (v (numbered i k)) ≡ lifted v (set_bits same? (numbered a) w b keep (numbered i k))
  put_told w a b i k = go (ℕ_discrete i a) (dec_lt k w)
    where
      go : Dec (i ≡ a) → Dec (k < w) → whether (eqb i a) (told w b k (v (numbered i k))) (v (numbered i k)) ≡ lifted v (set_bits same? (numbered a) w b keep (numbered i k))
      go (yes p) (yes l) =
          rw (p, eq-eqb a a refl, lt-ltb k w l)
          (sym (ap (lifted v) (bits_at same? (numbered a) (λ m n q. (apart a m a n q).1) w b keep k l)))
      go (yes p) (no n) =
          rw (eq-eqb i a p, le-ltb k w (omega arith))
          (sym (ap (lifted v) (bits_leave same? (numbered a) w b keep (numbered i k) (λ m l q. absurd (past w k n m l (apart i k a m q).1)))))
      go (no n) d =
          rw (ne_eqb i a n)
          (sym (ap (lifted v) (bits_leave same? (numbered a) w b keep (numbered i k) (λ m l q. n (apart i k a m q).0))))

-- The same for a single byte, as the LED is.
module _ {F : Type 0} (same? : Discrete F) (at : ℕ → F) (apart : (i j : ℕ) → at i ≡ at j → i ≡ j) (v : F → Standing) where
  pub bits_told : (w b k : ℕ) → told w b k (v (at k)) ≡ lifted v (set_bits same? at w b keep (at k))
  bits_told w b k = go (dec_lt k w)
    where
      go : Dec (k < w) → told w b k (v (at k)) ≡ lifted v (set_bits same? at w b keep (at k))
      go (yes l) = rw (lt-ltb k w l) (sym (ap (lifted v) (bits_at same? at apart w b keep k l)))
      go (no n) = rw (le-ltb k w (omega arith)) (sym (ap (lifted v) (bits_leave same? at w b keep (at k) (λ m l q. absurd (past w k n m l (apart k m q))))))

  -- The same for the code that the byte was put in, as `put_byte` promises it.
  pub code_told : (w wide b old new k : ℕ) → Wide w wide → v (at k) ≡ shown w old k → Puts wide b old new → shown w new k ≡ lifted v (set_bits same? at w b keep (at k))
  code_told w wide b old new k W e p = p w W k ∙ ap (told w b k) (sym e) ∙ bits_told w b k
