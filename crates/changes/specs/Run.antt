-- A run of bytes of which each may have gone to a code is one meeting with what the bytes have in common. The argument: past the
-- width nothing is common to them, and nothing is met; within it each byte is joined to what is known, and the joins may be
-- grouped the other way round, so that the bytes are joined to each other first.
use Rattle.std.specs.Prelude.{ℕ, zero, suc, ◌≤◌, ◌≡◌, refl, Bool, true, false, ltb}
use Rattle.std.proofs.Common.{lt_of_lt_of_le, sym, ap, ◌∙◌, lt-ltb, ltb-true}
use Rattle.rules.specs.Choice.{whether}
use Rattle.rules.specs.Digit.{digit}
use Rattle.knowing.specs.Standing.{Standing, known, unknown}
use Rattle.knowing.specs.Know.{join}
use Rattle.knowing.specs.Join.{join_swap, join_late, join_not, join_nor}
use Rattle.lamps.specs.View.{shown, told, met_code, NonePast}
use Rattle.changes.specs.Change.{met_run, shared_by}

module _ (w : ℕ) (b : ℕ → ℕ) where
  -- The bytes have nothing in common past the width, as the last of them says nothing there.
  past_shared : (n k : ℕ) → ltb k w ≡ false → shared_by w b n k ≡ unknown
  past_shared zero k t = rw t refl
  past_shared (suc n) k t = sym (join_nor (shared_by w b n k) (told w (b (suc n)) k unknown) (rw t refl))

  -- One byte more, by whether the bit is one of the width.
  more : (t : Bool) (s x r y : Standing) → whether t (join s x) s ≡ r → whether t (join s (join x (whether t y unknown))) s ≡ whether t (join r y) r
  more true s x r y e =
      join_swap s (join x y) ∙ join_late x y s ∙ ap (λ (z : Standing). join z y) (join_swap x s ∙ e)
  more false s x r y e = e

  met_shared : (n k : ℕ) (s : Standing) → whether (ltb k w) (join s (shared_by w b n k)) s ≡ met_run w b (suc n) k s
  met_shared zero k s = go (ltb k w)
    where
      go : (t : Bool) → whether t (join s (whether t (known (digit k (b 0))) unknown)) s ≡ whether t (join s (known (digit k (b 0)))) s
      go true = refl
      go false = refl
  met_shared (suc n) k s = more (ltb k w) s (shared_by w b n k) (met_run w b (suc n) k s) (known (digit k (b (suc n)))) (met_shared n k s)

  -- Of the bits of a narrower width they have the same in common.
  module _ (v : ℕ) (narrower : v ≤ w) where
    shared_narrow : (n k : ℕ) → whether (ltb k v) (shared_by w b n k) unknown ≡ shared_by v b n k
    shared_narrow zero k = go (ltb k v) refl
      where
        go : (t : Bool) → ltb k v ≡ t → whether t (told w (b 0) k unknown) unknown ≡ whether t (known (digit k (b 0))) unknown
        go true t = rw (lt-ltb k w (lt_of_lt_of_le (ltb-true k v t) narrower)) refl
        go false t = refl
    shared_narrow (suc n) k = go (ltb k v) refl (shared_narrow n k)
      where
        go : (t : Bool) → ltb k v ≡ t → whether t (shared_by w b n k) unknown ≡ shared_by v b n k
            → whether t (join (shared_by w b n k) (told w (b (suc n)) k unknown)) unknown ≡ join (shared_by v b n k) (whether t (known (digit k (b (suc n)))) unknown)
        go true t e = rw (lt-ltb k w (lt_of_lt_of_le (ltb-true k v t) narrower)) (ap (λ (x : Standing). join x (known (digit k (b (suc n))))) e)
        go false t e = join_not (shared_by v b n k) unknown (sym e)

    pub shared_cut : (c d n : ℕ) → ((k : ℕ) → shown w c k ≡ shared_by w b n k) → ((k : ℕ) → shown v d k ≡ whether (ltb k v) (shown w c k) unknown) → (k : ℕ) → shown v d k ≡ shared_by v b n k
    shared_cut c d n h g k = g k ∙ ap (λ (x : Standing). whether (ltb k v) x unknown) (h k) ∙ shared_narrow n k

  -- A code that says what the bytes have in common.
  module _ (c n : ℕ) (h : (k : ℕ) → shown w c k ≡ shared_by w b n k) where
    pub shared_none_past : NonePast w c
    shared_none_past k t = h k ∙ past_shared n k t

    pub shared_met_code : (k : ℕ) (s : Standing) → met_code w c k s ≡ met_run w b (suc n) k s
    shared_met_code k s = ap (λ (x : Standing). whether (ltb k w) (join s x) s) (h k) ∙ met_shared n k s

-- Of what is unknown no run leaves anything.
pub met_none : (w : ℕ) (b : ℕ → ℕ) (n k : ℕ) (s : Standing) → s ≡ unknown → met_run w b n k s ≡ unknown
met_none w b zero k s e = e
met_none w b (suc n) k s e = go (ltb k w) (met_run w b n k s) (met_none w b n k s e)
  where
    go : (t : Bool) (x : Standing) → x ≡ unknown → whether t (join x (known (digit k (b n)))) x ≡ unknown
    go true x u = sym (join_not x (known (digit k (b n))) u)
    go false x u = u
