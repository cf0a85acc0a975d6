-- `page::pages::done` meets its contract: the words, the place and the end of the line stand one behind the other.
-- Assumes nothing.
use Rattle.writing.specs.Wrote.{wrote_then}
use Rattle.page.proofs.pages.done.Goals as goal

pub returns : goal.returns
returns c = wrote_then c.words.ensures (wrote_then c.decimal.ensures c.put.ensures)
