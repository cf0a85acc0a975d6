-- Each answer of the painter, for any picture: what its test, the size of its stream and the room come to.
use Rattle.std.specs.Prelude.{ℕ, ◌≤◌, ◌≡◌, refl, Bool, true, false, List, leb, eqb, Ok, Err}
use Rattle.std.proofs.Common.{arith, leb-true, eqb-true}
use Rattle.segment.specs.declared.Family.TheVariants.{Pt6312, Pt6315}
use Rattle.segment.specs.Family.{sizes}
use Rattle.painting.specs.declared.NotPainted.TheVariants.{OutOfRange, TooSmall}
use Rattle.painting.specs.Answer.{Painted, number, place, segment_size, character_size, judged, judged_number, judged_place, answer_for, number_for, place_for, in_front, written}
use Rattle.painting.specs.Fits.{segment_fits, character_fits}
use Rattle.painting.specs.declared.Picture.{Picture}
use Rattle.terms.specs.declared.Part.TheVariants.{Pt6302, Pt6312 as OfPt6312, Pt6315 as OfPt6315}
use Rattle.terms.specs.Part.{PartRead}
use Rattle.rules.specs.Choice.{whether}

-- The answer by its two tests.
abbrev by : ℕ → Bool → Bool → Painted
by n fits enough = whether fits (whether enough (Ok (record { 0 = n })) (Err (TooSmall (record { 0 = 0 })))) (Err (OutOfRange (record { 0 = 0 })))

-- Done, the picture fits, there is room, and the stream is written.
pub done : (t : Bool) (n room : ℕ) (stream out : List ℕ) → eqb (number (judged t n room)) 0 ≡ true
    → (t ≡ true) × ((n ≤ room) × (written (judged t n room) stream out ≡ in_front stream out))
done t n room stream out e = go t (leb n room) refl e
  where
    go : (t u : Bool) → leb n room ≡ u → eqb (number (by n t u)) 0 ≡ true → (t ≡ true) × ((n ≤ room) × (written (by n t u) stream out ≡ in_front stream out))
    go true true l e = (refl, (leb-true n room l, refl))
    go true false l e = (refl, (omega (arith, eqb-true 10 0 e), cc))
    go false u l e = (e, (omega (arith, eqb-true 9 0 e), cc))

-- Not done, nothing is written.
pub refused : (t : Bool) (n room : ℕ) (stream out : List ℕ) → eqb (number (judged t n room)) 0 ≡ false → written (judged t n room) stream out ≡ out
refused t n room stream out e = go t (leb n room) e
  where
    go : (t u : Bool) → eqb (number (by n t u)) 0 ≡ false → written (by n t u) stream out ≡ out
    go true true e = cc
    go true false e = refl
    go false u e = refl

-- The answer has the number and the place of the table.
judged_number_lem : (t : Bool) (n room : ℕ) → (number (judged t n room) ≡ judged_number t n room) × ((place (judged t n room)).0 ≡ judged_place t n room)
judged_number_lem t n room = go t (leb n room)
  where
    go : (t u : Bool) → (number (by n t u) ≡ whether t (whether u 0 10) 9) × ((place (by n t u)).0 ≡ whether t (whether u n 0) 0)
    go true true = (refl, refl)
    go true false = (refl, refl)
    go false u = (refl, refl)

pub answer_number : (q : PartRead) (p : Picture) (room : ℕ) → (number (answer_for q p room) ≡ number_for q p room) × ((place (answer_for q p room)).0 ≡ place_for q p room)
answer_number (Ok Pt6302) p room = judged_number_lem (character_fits p.character) character_size room
answer_number (Ok OfPt6312) p room = judged_number_lem (segment_fits (sizes Pt6312) p.segment) (segment_size Pt6312) room
answer_number (Ok OfPt6315) p room = judged_number_lem (segment_fits (sizes Pt6315) p.segment) (segment_size Pt6315) room
answer_number (Err e) p room = (refl, refl)
