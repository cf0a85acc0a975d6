-- "A refusal prints only `refused N at P`" (paper 01, the last paragraph of "Examples").
use Rattle.std.specs.Prelude.{ℕ, ◌≤◌, List, [], ◌∷◌, ◌++◌, length}
use Prim.Native.Char.{code}
use Rattle.std.proofs.Common.{arith, length-append}
use Rattle.text.specs.Text.{newline, decimal}
use Rattle.text.specs.Decimal.{decimal_length}

abbrev pub refused_at : ℕ → ℕ → List ℕ
refused_at n p =
    (code "r" ∷ code "e" ∷ code "f" ∷ code "u" ∷ code "s" ∷ code "e" ∷ code "d" ∷ code " " ∷ [])
    ++ (decimal n ++ ((code " " ∷ code "a" ∷ code "t" ∷ code " " ∷ []) ++ (decimal p ++ (newline ∷ []))))

-- How long it is at most.
pub refused_length : (n p : ℕ) → length (refused_at n p) ≤ 53
refused_length n p =
    let place : List ℕ = decimal p ++ (newline ∷ []) in
    let at : List ℕ = code " " ∷ code "a" ∷ code "t" ∷ code " " ∷ [] in
    omega (arith, length-append (decimal n) (at ++ place), length-append (decimal p) (newline ∷ []), decimal_length n, decimal_length p)
