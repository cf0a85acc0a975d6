-- `degrees::write_size` meets its contract: whole degrees, point and last digit stand one behind the other. Assumes nothing.
use Rattle.writing.specs.Wrote.{wrote_then}
use Rattle.degrees.proofs.write_size.Goals as goal

pub returns : goal.returns
returns c = wrote_then c.decimal.ensures (wrote_then c.put.ensures c.put-2.ensures)
