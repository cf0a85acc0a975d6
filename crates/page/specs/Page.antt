-- What the program prints of a replay (paper 01, the last paragraph of "Examples").
use Rattle.std.specs.Prelude.{ℕ, zero, suc, List, [], ◌∷◌, ◌++◌}
use Prim.Native.Char.{code}
use Rattle.terms.specs.Part.{PartRead}
use Rattle.panel.specs.declared.Panel.{Panel}
use Rattle.answers.specs.Answer.{Answer, number, place}
use Rattle.text.specs.Text.{newline, decimal}
use Rattle.refusals.specs.Refusal.{refused_at}
use Rattle.listing.specs.Memory.{memory}

-- "done at N".
abbrev pub done_at : ℕ → List ℕ
done_at n =
    (code "d" ∷ code "o" ∷ code "n" ∷ code "e" ∷ code " " ∷ code "a" ∷ code "t" ∷ code " " ∷ [])
    ++ (decimal n ++ (newline ∷ []))

-- Number 0 prints what is known; "a refusal prints only" its number and place.
abbrev pub printed : PartRead → ℕ → ℕ → Panel → List ℕ
printed q zero p k = done_at p ++ memory q k
printed q (suc n) p k = refused_at (suc n) p

abbrev pub page : PartRead → Answer → Panel → List ℕ
page q answer k = printed q (number answer) (place answer) k

-- Enough for every page (`writing/Prints`).
abbrev pub room : ℕ
room = 300
