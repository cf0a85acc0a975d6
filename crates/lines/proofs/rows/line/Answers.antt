-- `lines::rows::line` meets its contract: the name, the colon, the values and the end stand one behind the other.
-- Assumes nothing.
use Rattle.writing.specs.Wrote.{wrote_then}
use Rattle.lines.proofs.rows.line.Goals as goal

pub returns : goal.returns
returns c = wrote_then c.words.ensures (wrote_then c.put.ensures (wrote_then c.values.ensures c.put-2.ensures))
