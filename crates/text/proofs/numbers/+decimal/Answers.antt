-- `text::numbers::decimal` meets its contract: a number of more than one digit is a tenth of it, which is smaller, and its last.
-- Assumes nothing.
use Rattle.std.proofs.Common.{arith}
use Rattle.writing.specs.Wrote.{wrote_then}
use Rattle.text.specs.Decimal.{decimal_more}
use Rattle.text.proofs.numbers.+decimal.Goals as goal

pub returns : goal.returns
returns t c = rw (decimal_more c.args.n (omega arith) c.if-n-lt10.false) (wrote_then c.decimal.ensures (rw c.digit-last.ensures at c.put-2.ensures))
