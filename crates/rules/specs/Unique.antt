-- What fixes a value: its number where it has a name, its elements where it is a list, and the rule where it answers
-- a move.
use Rattle.std.specs.Prelude.{ℕ, zero, suc, ◌≡◌, refl, Bool, List, length, get_or, replicate}
use Rattle.std.proofs.Common.{sym, ap, ◌∙◌, ext_get_or}
use Rattle.rules.specs.Rule.{Rule, Told, Moves}

-- Named values are told apart by their numbers, if each can be read back from its number.
pub by_number : {A : Type 0} (number : A → ℕ) (back : ℕ → A) → ((a : A) → back (number a) ≡ a) → (a b : A) → number a ≡ number b → a ≡ b
by_number number back read a b e = sym (read a) ∙ ap back e ∙ read b

pub same_list : (n : ℕ) (a b : List ℕ) → length a ≡ n → length b ≡ n → ((i : ℕ) → get_or a i 0 ≡ get_or b i 0) → a ≡ b
same_list n a b la lb h = ext_get_or 0 a b (la ∙ sym lb) (λ i _. h i)

-- A list of one number, and that number behind it.
pub get_d_same : (n i a : ℕ) → get_or (replicate n a) i a ≡ a
get_d_same zero i a = refl
get_d_same (suc n) zero a = refl
get_d_same (suc n) (suc i) a = get_d_same n i a

-- Two answers by one rule, of one chip, have the same values and the same facts that are anything.
module _ {F : Type 0} (rule : Rule F F) (old new new' : F → ℕ) (any any' : F → Bool) (a : Moves rule old new any) (b : Moves rule old new' any') where
  pub same_value : (f : F) → new f ≡ new' f
  same_value f = ap (λ (t : Told). t.value) (a f ∙ sym (b f))

  pub same_any : (f : F) → any f ≡ any' f
  same_any f = ap (λ (t : Told). t.any) (a f ∙ sym (b f))
