-- `character_painter::write_rams` meets its contract: the three strobes stand one behind the other.
-- Assumes nothing.
use native.Mathlib.Omega.{arith}
use Rattle.writing.specs.Wrote.{wrote_then}
use Rattle.character_painter.proofs.write_rams.Goals as goal

pub returns : goal.returns
returns c = (wrote_then c.write_strobe.ensures (wrote_then c.write_strobe-2.ensures c.write_strobe-3.ensures), omega (arith, c.well_formed))
