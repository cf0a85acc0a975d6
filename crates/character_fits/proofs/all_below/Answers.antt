-- `character_fits::all_below` meets its contract: the test of each number is the definition's. Assumes nothing.
use Rattle.std.proofs.Common.{rules, tests, ℕ, ◌≡◌, refl, ap, ◌∙◌, List, [], ◌∷◌, ◌&&◌, ltb}
use Rattle.std.specs.List.{list_all}
use Rattle.std.proofs.lemmas.Iterator.{YieldsList-from_slice}
use Rattle.std.proofs.lemmas.Iterator.Search.{all_from_yields_List}
use Rattle.painting.specs.Fits.{all_below}
use Rattle.character_fits.proofs.all_below.Goals as goal

each : (n : ℕ) (l : List ℕ) → list_all (λ x. ltb x n) l ≡ all_below n l
each n [] = refl
each n (x ∷ l) = ap (λ rest. ltb x n && rest) (each n l)

pub returns : goal.returns
returns c =
    all_from_yields_List (λ x. ltb x c.args.limit) _ _ c.all.result c.all.ensures.ran (YieldsList-from_slice c.args.values.now cc) (λ x b q k. search (rules, tests))
    ∙ each c.args.limit c.args.values.now
