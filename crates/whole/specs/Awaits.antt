-- What a rule says of one fact along a move: a fact that it sets, to a number of which P holds, is such a number, and one
-- that it leaves alone is what it was. That the position is first byte exactly where a command is awaited stands in
-- proofs/Awaits, for each part in proofs/Segment and proofs/Character.
use Rattle.std.specs.Prelude.{ℕ, ◌≡◌, Bool, eqb}
use Rattle.std.proofs.Common.{sym, subst}
use Rattle.rules.specs.Rule.{Form, value, copy, free, Rule, gives, look, Outcome, outcome, run}
use Rattle.rules.specs.Touch.{Leaves, leaves}
use Rattle.rules.specs.Turn.{Allows}

-- The number of the position "first byte", on every part.
abbrev pub is_first : ℕ → Bool
is_first q = eqb q 1

-- A rule that sets a fact, to a number of which P holds.
abbrev SetsForm : {F : Type 0} → (ℕ → Type 0) → Form F → Type 0
SetsForm P (value v) = P v
SetsForm P (copy g) = ⊥
SetsForm P free = ⊥

abbrev pub Sets : {F : Type 0} → F → (ℕ → Type 0) → Rule F F → Type 0
Sets f P (gives φ) = SetsForm P (φ f)
Sets f P (look g k) = (w : ℕ) → Sets f P (k w)

form_sets : {F : Type 0} (P : ℕ → Type 0) (n w : ℕ) (c : F → ℕ) (x : Form F) → SetsForm P x → Allows n (outcome c x) w → P w
form_sets P n w c (value v) h a = subst P (sym a) h
form_sets P n w c (copy g) h a = absurd h
form_sets P n w c free h a = absurd h

module _ {F : Type 0} (range : F → ℕ) (f : F) (c y : F → ℕ) where
  -- What is set to such a number is such a number.
  pub set_so : (P : ℕ → Type 0) (rule : Rule F F) → Sets f P rule → Allows (range f) (run rule c f) (y f) → P (y f)
  set_so P (gives φ) h a = form_sets P (range f) (y f) c (φ f) h a
  set_so P (look g k) h a = set_so P (k (c g)) (h (c g)) a

  -- What is left alone is what it was.
  pub left_so : (rule : Rule F F) → Leaves f rule → Allows (range f) (run rule c f) (y f) → y f ≡ c f
  left_so rule h a = subst (λ (o : Outcome). Allows (range f) o (y f)) (leaves f rule c h) a
