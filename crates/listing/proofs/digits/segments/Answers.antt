-- `listing::digits::segments` meets its contract: the lines are those of its cells, of which there are 36.
-- Assumes nothing.
use native.Mathlib.Omega.{arith}
use Rattle.listing.specs.Lengths.{digits_length}
use Rattle.listing.proofs.digits.segments.Goals as goal

pub returns : goal.returns
returns c =
    let a = c.args in
    (c.lines.ensures, omega (arith, digits_length a.width a.n a.cells, c.well_formed, c.requires))
