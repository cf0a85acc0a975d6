-- `listing::digits::rams` meets its contract: the lines of the three RAMs stand one behind the other, and the RAMs have 16, 40 and 16 cells.
-- Assumes nothing.
use native.Mathlib.Omega.{arith}
use Rattle.writing.specs.Wrote.{wrote_then}
use Rattle.listing.specs.Memory.{characters}
use Rattle.listing.specs.Lengths.{rams_length}
use Rattle.listing.proofs.digits.rams.Goals as goal

pub returns : goal.returns
returns c =
    let a = c.args in
    (wrote_then c.line.ensures (wrote_then {one = characters a.cgram} c.lines.ensures c.line-2.ensures), omega (arith, rams_length a.dcram a.cgram a.adram, c.well_formed))
