-- `segment_known::everyday::perhaps_lit` meets its contract: only the bits of the LED change, each to what it has in common with the code's. Assumes nothing.
use mathlib.Core.Path.{refl}
use Rattle.segment_known.proofs.everyday.perhaps_lit.Goals as goal

pub returns : goal.returns
returns c = record { others = refl; lit = c.meet_code.ensures }
