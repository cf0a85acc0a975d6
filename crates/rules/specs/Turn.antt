-- Moves in turn: the chips to which a row of moves may lead, and rows that surely lead to one.
use Prim.Native.Nat.{ℕ, zero, suc, ◌<◌, ◌≤◌}
use native.Mathlib.Omega.{arith}
use Rattle.std.proofs.Math.Decide.{dec_lt, ℕ_discrete}
use Rattle.std.specs.Prelude.{Bool, ◌≡◌, List, [], ◌∷◌, ◌++◌, map}
use Rattle.std.proofs.Math.Dec.{ltb}
use borrow.Author.Tests.{lt-ltb, le-ltb}
use Rattle.rules.specs.Choice.{whether}
use Rattle.rules.specs.Digit.{digit}
use Rattle.std.proofs.Math.Path.{refl, sym, ap, fun_ext}
use Rattle.std.proofs.Common.{◌∙◌, subst}
use Rattle.rules.specs.Rule.{Form, value, Rule, Outcome, becomes, anything, outcome, run}
use Rattle.rules.specs.Change.{change, set_bits}

-- A fact may have the value w afterwards: the one that the move gives, or any in range where it says anything.
abbrev pub Allows : ℕ → Outcome → ℕ → Type 0
Allows n (becomes v) w = w ≡ v
Allows n anything w = w < n

-- x is a result of the move of the chip c.
abbrev pub Result : {F : Type 0} → (F → ℕ) → Rule F F → (F → ℕ) → (F → ℕ) → Type 0
Result {F} range rule c x = (f : F) → Allows (range f) (run rule c f) (x f)

-- x is a chip to which the moves, one after the other, may lead from c.
abbrev pub Ends : {F : Type 0} → (F → ℕ) → List (Rule F F) → (F → ℕ) → (F → ℕ) → Type 0
Ends {F} range [] c x = (f : F) → x f ≡ c f
Ends {F} range (r ∷ rs) c x = (y : F → ℕ) × Result range r c y × Ends range rs y x

-- Each of the moves says what becomes of every fact, and so the moves surely lead from c to x.
abbrev pub Surely : {F : Type 0} → List (Rule F F) → (F → ℕ) → (F → ℕ) → Type 0
Surely {F} [] c x = (f : F) → x f ≡ c f
Surely {F} (r ∷ rs) c x = (y : F → ℕ) × ((f : F) → run r c f ≡ becomes (y f)) × Surely rs y x

allows_one : (n v w : ℕ) (o : Outcome) → o ≡ becomes v → Allows n o w → w ≡ v
allows_one n v w o e h = subst (λ (p : Outcome). Allows n p w) e h

allowed : (n v : ℕ) (o : Outcome) → o ≡ becomes v → Allows n o v
allowed n v o e = rw e refl

module _ {F : Type 0} (range : F → ℕ) where
  -- A move that says what becomes of every fact has that result, and no other.
  pub sure_result : (r : Rule F F) (c y : F → ℕ) → ((f : F) → run r c f ≡ becomes (y f)) → Result range r c y
  sure_result r c y h f = allowed (range f) (y f) (run r c f) (h f)

  pub sure_only : (r : Rule F F) (c y z : F → ℕ) → ((f : F) → run r c f ≡ becomes (y f)) → Result range r c z → z ≡ y
  sure_only r c y z h k = fun_ext (λ f. allows_one (range f) (y f) (z f) (run r c f) (h f) (k f))

  -- Where moves surely lead, they may lead.
  pub surely_ends : (rs : List (Rule F F)) (c x : F → ℕ) → Surely rs c x → Ends range rs c x
  surely_ends [] c x h = h
  surely_ends (r ∷ rs) c x h = (h.0, sure_result r c h.0 h.1, surely_ends rs h.0 x h.2)

  -- Where moves surely lead to one chip, they lead to no other.
  pub surely_only : (rs : List (Rule F F)) (c x z : F → ℕ) → Surely rs c x → Ends range rs c z → (f : F) → z f ≡ x f
  surely_only [] c x z h k = λ f. k f ∙ sym (h f)
  surely_only (r ∷ rs) c x z h k =
      surely_only rs h.0 x z h.2 (subst (λ (y : F → ℕ). Ends range rs y z) (sure_only r c h.0 k.0 h.1 k.1) k.2)

-- Events in turn, where each event has its rule.
abbrev pub Leads : {E F : Type 0} → (E → Rule F F) → List E → (F → ℕ) → (F → ℕ) → Type 0
Leads move es c x = Surely (map move es) c x

pub leads_append : {E F : Type 0} (move : E → Rule F F) (es ds : List E) (c y x : F → ℕ) → Leads move es c y → Leads move ds y x → Leads move (es ++ ds) c x
leads_append move [] ds c y x h k = subst (λ (d : _). Leads move ds d x) (fun_ext h) k
leads_append move (e ∷ es) ds c y x h k = (h.0, h.1, leads_append move es ds h.0 y x h.2 k)

-- The same end, said in another way.
pub surely_to : {F : Type 0} (rs : List (Rule F F)) (c x z : F → ℕ) → Surely rs c x → ((f : F) → z f ≡ x f) → Surely rs c z
surely_to rs c x z h e = subst (λ (d : _). Surely rs c d) (sym (fun_ext e)) h

-- The chip c, with the fact g made v.
abbrev pub put : {F : Type 0} → Discrete F → F → ℕ → (F → ℕ) → F → ℕ
put same? g v c f = elim (same? f g) [ yes e ↦ v | no n ↦ c f ]

module _ {F : Type 0} (same? : Discrete F) where
  pub put_same : (g : F) (v : ℕ) (c : F → ℕ) → put same? g v c g ≡ v
  put_same g v c = go (same? g g)
    where
      go : (d : Dec (g ≡ g)) → elim d [ yes e ↦ v | no n ↦ c g ] ≡ v
      go (yes e) = refl
      go (no n) = absurd (n refl)

  pub put_other : (g f : F) (v : ℕ) (c : F → ℕ) → ¬ (f ≡ g) → put same? g v c f ≡ c f
  put_other g f v c h = go (same? f g)
    where
      go : (d : Dec (f ≡ g)) → elim d [ yes e ↦ v | no n ↦ c f ] ≡ c f
      go (yes e) = absurd (h e)
      go (no n) = refl

  -- A fact that is made what it was.
  pub put_kept : (g f : F) (v : ℕ) (c : F → ℕ) → c g ≡ v → put same? g v c f ≡ c f
  put_kept g f v c h = go (same? f g)
    where
      go : (d : Dec (f ≡ g)) → elim d [ yes e ↦ v | no n ↦ c f ] ≡ c f
      go (yes e) = sym (ap c e ∙ h)
      go (no n) = refl

  -- What a form makes of a chip that it sets at g.
  pub change_put : (c y : F → ℕ) (g : F) (v : ℕ) (φ : F → Form F) (f : F) → outcome c (φ f) ≡ becomes (y f)
      → outcome c (change same? g (value v) φ f) ≡ becomes (put same? g v y f)
  change_put c y g v φ f h = go (same? f g)
    where
      go : (d : Dec (f ≡ g)) → outcome c (elim d [ yes e ↦ value v | no n ↦ φ f ]) ≡ becomes (elim d [ yes e ↦ v | no n ↦ y f ])
      go (yes e) = refl
      go (no n) = h

-- The chip c, with the facts `at 0`, `at 1` and so on, n of them, made the bits of b.
unfoldable pub put_bits : {F : Type 0} → Discrete F → (ℕ → F) → ℕ → ℕ → (F → ℕ) → F → ℕ
put_bits same? at zero b c = c
put_bits same? at (suc n) b c = put same? (at n) (digit n b) (put_bits same? at n b c)

module _ {F : Type 0} (same? : Discrete F) (at : ℕ → F) where
  pub bits_other : (n b : ℕ) (c : F → ℕ) (f : F) → ((k : ℕ) → k < n → ¬ (f ≡ at k)) → put_bits same? at n b c f ≡ c f
  unfolding put_bits
  bits_other zero b c f h = refl
  bits_other (suc n) b c f h = put_other same? (at n) f (digit n b) (put_bits same? at n b c) (h n (omega arith)) ∙ bits_other n b c f (λ k l. h k (omega arith))

  pub bits_put : (apart : (i j : ℕ) → at i ≡ at j → i ≡ j) (n b : ℕ) (c : F → ℕ) (k : ℕ) → put_bits same? at n b c (at k) ≡ whether (ltb k n) (digit k b) (c (at k))
  unfolding put_bits
  bits_put apart zero b c k = rw (le-ltb k 0 (omega arith)) refl
  bits_put apart (suc n) b c k = go (ℕ_discrete k n) (bits_put apart n b c k)
    where
      go : Dec (k ≡ n) → put_bits same? at n b c (at k) ≡ whether (ltb k n) (digit k b) (c (at k))
          → put same? (at n) (digit n b) (put_bits same? at n b c) (at k) ≡ whether (ltb k (suc n)) (digit k b) (c (at k))
      go (yes p) e = rw (p, lt-ltb n (suc n) (omega arith)) (put_same same? (at n) (digit n b) (put_bits same? at n b c))
      go (no m) e = put_other same? (at n) (at k) (digit n b) (put_bits same? at n b c) (λ q. m (apart k n q)) ∙ e ∙ ap (λ (t : Bool). whether t (digit k b) (c (at k))) (less (dec_lt k n))
        where
          less : Dec (k < n) → ltb k n ≡ ltb k (suc n)
          less (yes l) = lt-ltb k n l ∙ sym (lt-ltb k (suc n) (omega arith))
          less (no l) = le-ltb k n (omega arith) ∙ sym (le-ltb k (suc n) (over m l))
            where
              over : (k ≡ n → ⊥) → (k < n → ⊥) → suc n ≤ k
              over d o = omega arith

  pub change_bits : (c y : F → ℕ) (n b : ℕ) (φ : F → Form F) (f : F) → outcome c (φ f) ≡ becomes (y f) → outcome c (set_bits same? at n b φ f) ≡ becomes (put_bits same? at n b y f)
  unfolding put_bits set_bits
  change_bits c y zero b φ f h = h
  change_bits c y (suc n) b φ f h = change_put same? c (put_bits same? at n b y) (at n) (digit n b) (set_bits same? at n b φ) f (change_bits c y n b φ f h)
