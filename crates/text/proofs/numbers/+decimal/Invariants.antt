-- The measure is the number.
use Rattle.text.proofs.numbers.+decimal.Given as goal

abbrev pub decreases-decimal : goal.decreases-decimal
decreases-decimal l = l.n
