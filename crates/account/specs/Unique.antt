-- The unfinished bytes are known by their row: one of up to four bytes has one spelling.
use Rattle.std.specs.Prelude.{◌≡◌, refl, List, [], ◌∷◌, ℕ}
use Rattle.std.proofs.Common.{sym, ap, ◌∙◌}
use Rattle.account.specs.declared.unfinished.Unfinished.{Unfinished}
use Rattle.account.specs.declared.unfinished.Unfinished.TheVariants.{None, One, Two, Three, Four}
use Rattle.account.specs.Bytes.{bytes_of}

-- The spelling of a row, and that it gives every spelling back.
spelt : List ℕ → Unfinished
spelt [] = None
spelt (a ∷ []) = One a
spelt (a ∷ b ∷ []) = Two a b
spelt (a ∷ b ∷ c ∷ []) = Three a b c
spelt (a ∷ b ∷ c ∷ d ∷ l) = Four a b c d

spelt_back : (u : Unfinished) → spelt (bytes_of u) ≡ u
unfolding spelt
spelt_back None = refl
spelt_back (One a) = refl
spelt_back (Two a b) = refl
spelt_back (Three a b c) = refl
spelt_back (Four a b c d) = refl

pub same_bytes : (u v : Unfinished) → bytes_of u ≡ bytes_of v → u ≡ v
same_bytes u v e = sym (spelt_back u) ∙ ap spelt e ∙ spelt_back v
