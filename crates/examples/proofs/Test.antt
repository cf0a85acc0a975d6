-- The law of the test: it turns what the test computes into what the table states. Each equation of a row has a Boolean of its own, and a row passes where
-- all of them do; the law takes the conjunction apart again, and each Boolean gives its equation.
use Rattle.std.specs.Prelude.{ℕ, ◌≡◌, refl, Bool, true, ◌&&◌, List, [], ◌∷◌, eqb}
use Rattle.std.proofs.Common.{sym, ap, true≢false, eqb-true}
use Rattle.rules.specs.Choice.{both}
use Rattle.knowing.specs.Standing.{Standing, known, unknown}
use Rattle.painting.specs.Answer.{output}
use Rattle.examples.specs.Row.{What, Said, ◌is◌, Row, replayed, painted, known_after, read_number, read_place, paint_number, paint_place, AsSaid, Holds, AllHold}
use Rattle.examples.specs.Test.{alike, equal, as_said, passes, test}

alike_same : (s t : Standing) → alike s t ≡ true → s ≡ t
unfolding alike
alike_same (known v) (known w) e = ap known (eqb-true v w e)
alike_same (known v) unknown e = absurd (true≢false (sym e))
alike_same unknown (known w) e = absurd (true≢false (sym e))
alike_same unknown unknown e = refl

equal_same : (vs ws : List ℕ) → equal vs ws ≡ true → vs ≡ ws
unfolding equal
equal_same [] [] e = refl
equal_same [] (w ∷ ws) e = absurd (true≢false (sym e))
equal_same (v ∷ vs) [] e = absurd (true≢false (sym e))
equal_same (v ∷ vs) (w ∷ ws) e =
    let h = both (eqb v w) (equal vs ws) e in
    rw (eqb-true v w h.0, equal_same vs ws h.1)

law_said : (k : What → Standing) (rest : List Said) → as_said k rest ≡ true → AsSaid k rest
unfolding as_said
law_said k [] e = tt
law_said k ((w is s) ∷ rest) e =
    let h = both (alike (k w) s) (as_said k rest) e in
    (alike_same (k w) s h.0, law_said k rest h.1)

-- A number, a place and a third test, that hold together.
law_three : (n m a b : ℕ) (t : Bool) → (eqb n m && (eqb a b && t)) ≡ true → (n ≡ m) × (a ≡ b) × (t ≡ true)
law_three n m a b t e =
    let h = both (eqb n m) (eqb a b && t) e in
    let g = both (eqb a b) t h.1 in
    (eqb-true n m h.0, eqb-true a b g.0, g.1)

law_row : (r : Row) → passes r ≡ true → Holds r
unfolding passes
law_row (replayed n p before l number place after) e =
    let h = law_three (read_number p l) number (read_place p l) place (as_said (known_after p before l) after) e in
    (h.0, h.1, law_said (known_after p before l) after h.2)
law_row (painted n part picture before number place after) e =
    let h = law_three (paint_number part picture before) number (paint_place part picture before) place (equal (output part picture before) after) e in
    (h.0, h.1, equal_same (output part picture before) after h.2)

pub law : (rs : List Row) → test rs ≡ true → AllHold rs
unfolding test
law [] e = tt
law (r ∷ rs) e =
    let h = both (passes r) (test rs) e in
    (law_row r h.0, law rs h.1)
