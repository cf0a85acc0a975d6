-- The test of a table, which computes. Each equation of a row has a Boolean of its own, and a row passes where all of them do. The law that turns the test into
-- what the table states stands in proofs/.
use Rattle.std.specs.Prelude.{ℕ, Bool, true, false, ◌&&◌, List, [], ◌∷◌, eqb}
use Rattle.knowing.specs.Standing.{Standing, known, unknown}
use Rattle.painting.specs.Answer.{output}
use Rattle.examples.specs.Row.{What, Said, ◌is◌, Row, replayed, painted, known_after, read_number, read_place, paint_number, paint_place}

-- Two standings are the same, and two lists.
unfoldable pub alike : Standing → Standing → Bool
alike (known v) (known w) = eqb v w
alike (known v) unknown = false
alike unknown (known w) = false
alike unknown unknown = true

unfoldable pub equal : List ℕ → List ℕ → Bool
equal [] [] = true
equal [] (w ∷ ws) = false
equal (v ∷ vs) [] = false
equal (v ∷ vs) (w ∷ ws) = eqb v w && equal vs ws

-- The test.
unfoldable pub as_said : (What → Standing) → List Said → Bool
as_said k [] = true
as_said k ((w is s) ∷ rest) = alike (k w) s && as_said k rest

unfoldable pub passes : Row → Bool
passes (replayed n p before l number place after) = eqb (read_number p l) number && (eqb (read_place p l) place && as_said (known_after p before l) after)
passes (painted n part picture before number place after) =
    eqb (paint_number part picture before) number && (eqb (paint_place part picture before) place && equal (output part picture before) after)

unfoldable pub test : List Row → Bool
test [] = true
test (r ∷ rs) = passes r && test rs
