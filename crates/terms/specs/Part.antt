-- The part byte (paper 01, "Numbers given back").
use Rattle.std.specs.Prelude.{ℕ, ◌≡◌, refl, Bool, true, false, ◌||◌, eqb, Result, Ok, Err}
use Rattle.terms.specs.declared.NoPart.{NoPart}
use Rattle.terms.specs.declared.Part.{Part}
use Rattle.terms.specs.declared.Part.TheVariants.{Pt6302, Pt6312, Pt6315}

-- What a part byte is read as: a part, or what refuses it.
abbrev pub PartRead : Type 0
PartRead = Result Part NoPart

abbrev choose : Bool → PartRead → PartRead → PartRead
choose true x y = x
choose false x y = y

-- 02H, 12H and 15H are parts; any other byte is refused at place 0.
abbrev pub part_of : ℕ → PartRead
part_of byte =
    choose (eqb byte 0x02) (Ok Pt6302)
    (choose (eqb byte 0x12) (Ok Pt6312)
    (choose (eqb byte 0x15) (Ok Pt6315)
    (Err (record { 0 = record { 0 = 0 } }))))

-- Paper 01's number for each case, and its place.
abbrev pub number : PartRead → ℕ
number (Ok p) = 0
number (Err e) = 1

abbrev pub place : PartRead → ℕ
place (Ok p) = 0
place (Err e) = e.0.0

abbrev pick : Bool → ℕ → ℕ → ℕ
pick true x y = x
pick false x y = y

-- Number 1 exactly where the byte is none of the three.
abbrev pub part_number : ℕ → ℕ
part_number byte = pick (eqb byte 0x02 || eqb byte 0x12 || eqb byte 0x15) 0 1

pub part_number_lem : (byte : ℕ) → (number (part_of byte) ≡ part_number byte) × (place (part_of byte) ≡ 0)
part_number_lem byte = go (eqb byte 0x02) (eqb byte 0x12) (eqb byte 0x15)
  where
    go : (a b c : Bool)
        → (number (choose a (Ok Pt6302) (choose b (Ok Pt6312) (choose c (Ok Pt6315) (Err (record { 0 = record { 0 = 0 } }))))) ≡ pick (a || b || c) 0 1)
        × (place (choose a (Ok Pt6302) (choose b (Ok Pt6312) (choose c (Ok Pt6315) (Err (record { 0 = record { 0 = 0 } }))))) ≡ 0)
    go true true true = (refl, refl)
    go true true false = (refl, refl)
    go true false true = (refl, refl)
    go true false false = (refl, refl)
    go false true true = (refl, refl)
    go false true false = (refl, refl)
    go false false true = (refl, refl)
    go false false false = (refl, refl)

-- What a part byte names: the part, or number 1 at its place.
abbrev pub Names : ℕ → PartRead → Type 0
Names byte named = (named ≡ part_of byte) × ((number named ≡ part_number byte) × (place named ≡ 0))
