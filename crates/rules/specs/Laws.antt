-- Laws by which code is shown to do what a rule says, over any facts.
use Rattle.std.specs.Prelude.{ℕ, ◌<◌, ◌^◌, ◌-◌, ◌≡◌, refl, List, Bool, false, length, get_or, set}
use Rattle.std.proofs.Common.{arith, sym, ap, ◌∙◌, get_or-set_same, get_or-set_other, lt-ltb, le-ltb}
use Rattle.std.proofs.Math.Decide.{dec_lt, ℕ_discrete}
use Rattle.std.proofs.Math.Path.{subst⁻¹}
use Rattle.rules.specs.Digit.{lamp, narrow, put_low, put_low_lem}
use Rattle.rules.specs.Rule.{Form, value, copy, Rule, Outcome, becomes, outcome, run, Told, told, Moves}
use Rattle.rules.specs.Change.{keep, change, set_bits}
use Rattle.rules.specs.Touch.{bits_at, bits_leave}

-- A rule that goes by a value, at a value that is known.
pub by_value : {F : Type 0} (k : ℕ → Rule F F) (old new : F → ℕ) (any : F → Bool) (v w : ℕ) → v ≡ w → Moves (k w) old new any → Moves (k v) old new any
by_value k old new any v w e h = subst⁻¹ (λ (x : ℕ). Moves (k x) old new any) e h

pub says_by_value : {F R : Type 0} (k : ℕ → Rule F R) (c : F → ℕ) (r : R) (o : Outcome) (v w : ℕ) → v ≡ w → run (k w) c r ≡ o → run (k v) c r ≡ o
says_by_value k c r o v w e h = subst⁻¹ (λ (x : ℕ). run (k x) c r ≡ o) e h

-- What is told of a fact that has become v.
pub became : (v w old : ℕ) (o : Outcome) → v ≡ w → o ≡ becomes w → ◌≡◌ {A = Told} (record { value = v; any = false }) (told old o)
became v w old o p q = rw (p, q)

-- Facts that are numbered, as cells are, stand in a list. Where one of them is set and the others are as φ has them,
-- the list is set there.
module _ {F : Type 0} (same? : Discrete F) (numbered : ℕ → F) (apart : (i j : ℕ) → numbered i ≡ numbered j → i ≡ j) where
  pub becomes_set : (c : F → ℕ) (φ : F → Form F) (l : List ℕ) (a b i : ℕ) → a < length l → outcome c (φ (numbered i)) ≡ becomes (get_or l i 0)
      → outcome c (change same? (numbered a) (value b) φ (numbered i)) ≡ becomes (get_or (set l a b) i 0)
  becomes_set c φ l a b i h e = go (same? (numbered i) (numbered a))
    where
      go : (d : Dec (numbered i ≡ numbered a)) → outcome c (elim d [ yes _ ↦ value b | no _ ↦ φ (numbered i) ]) ≡ becomes (get_or (set l a b) i 0)
      go (yes p) =
          let q : i ≡ a = apart i a p in
          ap becomes (sym (rw q (get_or-set_same l a b 0 h)))
      go (no n) = e ∙ ap becomes (sym (get_or-set_other l a i b 0 (λ p. n (ap numbered p))))

-- A bit past a width is none of it.
pub past : (w k : ℕ) → (k < w → ⊥) → (m : ℕ) → m < w → k ≡ m → ⊥
past w k n m o q = n (omega arith)

-- The bits of a number that has w of them: those are made anew, and a bit past them stays.
module _ {F : Type 0} (same? : Discrete F) (at : ℕ → F) (apart : (i j : ℕ) → at i ≡ at j → i ≡ j) (c : F → ℕ) where
  becomes_low : (φ : F → Form F) (w a b k : ℕ) → φ (at k) ≡ copy (at k) → c (at k) ≡ narrow w k a
      → outcome c (set_bits same? at w b φ (at k)) ≡ becomes (narrow w k (put_low (2 ^ w - 1) a b))
  becomes_low φ w a b k same v = go (dec_lt k w)
    where
      go : Dec (k < w) → outcome c (set_bits same? at w b φ (at k)) ≡ becomes (narrow w k (put_low (2 ^ w - 1) a b))
      go (yes l) =
          ap (outcome c) (bits_at same? at apart w b φ k l) ∙ ap becomes (sym (rw (put_low_lem w k a b, lt-ltb k w l) refl))
      go (no n) =
          ap (outcome c) (bits_leave same? at w b φ (at k) (λ m l q. absurd (past w k n m l (apart k m q))) ∙ same)
          ∙ ap becomes (v ∙ sym (rw (put_low_lem w k a b, le-ltb k w (omega arith)) refl))

  pub told_low : (φ : F → Form F) (w a new b k old : ℕ) → φ (at k) ≡ copy (at k) → c (at k) ≡ narrow w k a → new ≡ put_low (2 ^ w - 1) a b
      → ◌≡◌ {A = Told} (record { value = narrow w k new; any = false }) (told old (outcome c (set_bits same? at w b φ (at k))))
  told_low φ w a new b k old same v e = became _ _ old _ (ap (narrow w k) e) (becomes_low φ w a b k same v)

-- Facts that are numbered by byte and bit stand in a list of bytes.
module _ {F : Type 0} (same? : Discrete F) (numbered : ℕ → ℕ → F) (apart : (i k j n : ℕ) → numbered i k ≡ numbered j n → (i ≡ j) × (k ≡ n))
    (c : F → ℕ) (l new : List ℕ) where
  left : (w a b i k : ℕ) → (i ≡ a → ⊥) → set_bits same? (numbered a) w b keep (numbered i k) ≡ keep (numbered i k)
  left w a b i k n = bits_leave same? (numbered a) w b keep (numbered i k) (λ m _ q. n (apart i k a m q).0)

  -- One byte is stored, all eight bits of it.
  pub told_byte : (a b i k old : ℕ) → new ≡ set l a b → a < length l → ((i k : ℕ) → c (numbered i k) ≡ lamp k (get_or l i 0))
      → ◌≡◌ {A = Told} (record { value = lamp k (get_or new i 0); any = false }) (told old (outcome c (set_bits same? (numbered a) 8 b keep (numbered i k))))
  told_byte a b i k old e h v = became _ _ old _ (ap (λ (x : List ℕ). lamp k (get_or x i 0)) e) (go (dec_lt k 8) (ℕ_discrete i a))
    where
      go : Dec (k < 8) → Dec (i ≡ a) → outcome c (set_bits same? (numbered a) 8 b keep (numbered i k)) ≡ becomes (lamp k (get_or (set l a b) i 0))
      go (yes o) (yes p) =
          rw (p, get_or-set_same l a b 0 h, lt-ltb k 8 o) (ap (outcome c) (bits_at same? (numbered a) (λ m n q. (apart a m a n q).1) 8 b keep k o))
      go (yes o) (no n) = rw (get_or-set_other l a i b 0 n) (ap (outcome c) (left 8 a b i k n) ∙ ap becomes (v i k))
      go (no n) d =
          ap (outcome c) (bits_leave same? (numbered a) 8 b keep (numbered i k) (λ m o q. absurd (past 8 k n m o (apart i k a m q).1))) ∙ ap becomes (v i k)
          ∙ ap becomes (rw (le-ltb k 8 (omega arith)) refl)

  -- The low w bits of one byte are stored, and the others stay.
  pub told_low_in : (w a b i k old : ℕ) → new ≡ set l a (put_low (2 ^ w - 1) (get_or l a 0) b) → a < length l → ((i k : ℕ) → c (numbered i k) ≡ narrow w k (get_or l i 0))
      → ◌≡◌ {A = Told} (record { value = narrow w k (get_or new i 0); any = false }) (told old (outcome c (set_bits same? (numbered a) w b keep (numbered i k))))
  told_low_in w a b i k old e h v = became _ _ old _ (ap (λ (x : List ℕ). narrow w k (get_or x i 0)) e) (go (ℕ_discrete i a))
    where
      x : ℕ
      x = put_low (2 ^ w - 1) (get_or l a 0) b

      go : Dec (i ≡ a) → outcome c (set_bits same? (numbered a) w b keep (numbered i k)) ≡ becomes (narrow w k (get_or (set l a x) i 0))
      go (yes p) =
          rw (p, get_or-set_same l a x 0 h) (becomes_low same? (numbered a) (λ m n q. (apart a m a n q).1) c keep w (get_or l a 0) b k refl (v a k))
      go (no n) = rw (get_or-set_other l a i x 0 n) (ap (outcome c) (left w a b i k n) ∙ ap becomes (v i k))
