-- `refusals::refused` meets its contract: the words, the number, the place and the end of the line stand one behind the other.
-- Assumes nothing.
use Rattle.writing.specs.Wrote.{wrote_then}
use Rattle.refusals.proofs.refused.Goals as goal

pub returns : goal.returns
returns c = wrote_then c.words.ensures (wrote_then c.decimal.ensures (wrote_then c.words-2.ensures (wrote_then c.decimal-2.ensures c.put.ensures)))
