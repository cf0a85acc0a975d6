-- `codes` meets its contract. The argument: after i turns the numbers in front of place i are taken, one after the other. Assumes nothing.
use mathlib.Core.Path.{◌≡◌}
use lib.ListN.{take}
use Rattle.checksum.specs.Sum.{all_taken}
use Rattle.checksum.proofs.sum.Sum.codes.Given as goal

abbrev pub invariant-loop-code : goal.invariant-loop-code
invariant-loop-code l = l.sum.0 ≡ all_taken l.initial.sum.0 (take l.code-index l.codes)
