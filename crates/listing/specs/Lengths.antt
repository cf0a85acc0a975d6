-- How long the memory of a part is at most. The argument: a value takes three bytes, and a line its name and two more.
use Rattle.std.specs.Prelude.{ℕ, zero, suc, ◌+◌, ◌*◌, ◌/◌, ◌≤◌, ◌≡◌, refl, List, [], ◌∷◌, ◌++◌, eqb, length, take, drop}
use Prim.Native.Char.{code}
use Rattle.std.proofs.Common.{arith, length-append, length-take, length-drop}
use Rattle.rules.specs.Choice.{whether_all}
use Rattle.text.specs.Text.{newline, shown}
use Rattle.lines.specs.declared.rows.Names.TheVariants.{Addresses, Characters}
use Rattle.lines.specs.Lines.{values, line, lines, named}
use Rattle.listing.specs.Memory.{cell_marks, column_marks, pair_marks, digits, characters, rams}

shown_length : (full c : ℕ) → length (shown full c) ≡ 2
shown_length full c = whether_all (λ (l : List ℕ). length l ≡ 2) (eqb (c / 256) full) _ _ (λ _. refl) (λ _. refl)

values_length : (full : ℕ) (cs : List ℕ) → length (values full cs) ≡ 3 * length cs
values_length full [] = refl
values_length full (c ∷ cs) = omega (arith, length-append (shown full c) (values full cs), shown_length full c, values_length full cs)

line_length : (full : ℕ) (name cs : List ℕ) → length (line full name cs) ≡ length name + (3 * length cs + 2)
line_length full name cs =
    let e = length-append name (code ":" ∷ (values full cs ++ (newline ∷ []))) in
    omega (arith, length-append (values full cs) (newline ∷ []), values_length full cs)

lines_length : (full : ℕ) (name : ℕ → List ℕ) → ((i : ℕ) → length (name i) ≡ 2) → (width n i : ℕ) (cs : List ℕ) → length (lines full name width n i cs) ≤ 4 * n + 3 * length cs
lines_length full name two width zero i cs = omega arith
lines_length full name two width (suc n) i cs =
    let rest : List ℕ = drop width cs in
    let e = length-append (line full (name i) (take width cs)) (lines full name width n (suc i) rest) in
    omega (arith, line_length full (name i) (take width cs), two i, lines_length full name two width n (suc i) rest, length-take width cs, length-drop width cs)

-- How long the memory of a part is at most, over the lengths of its rows.
pub digits_length : (width n : ℕ) (cells : List ℕ) → length (digits width n cells) ≤ 4 * n + 3 * length cells
digits_length width n cells = lines_length cell_marks (named Addresses width) (λ i. refl) width n 0 cells

pub rams_length : (ds gs pairs : List ℕ) → length (rams ds gs pairs) ≤ 38 + 3 * (length ds + (length gs + length pairs))
rams_length ds gs pairs =
    let d : List ℕ = line cell_marks (code "D" ∷ []) ds in
    let g : List ℕ = characters gs in
    let a : List ℕ = line pair_marks (code "A" ∷ []) pairs in
    omega (arith, length-append d (g ++ a), length-append g a, line_length cell_marks (code "D" ∷ []) ds, lines_length column_marks (named Characters 5) (λ i. refl) 5 8 0 gs, line_length pair_marks (code "A" ∷ []) pairs)
