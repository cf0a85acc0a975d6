-- `character_known::everyday::draws` meets its contract: the number of a column is told from its character and its place there, and both from it.
-- Assumes nothing.
use native.Mathlib.Omega.{arith}
use mathlib.Core.Path.{◌≡◌, ap, ◌∙◌}
use Prim.Native.Nat.{◌+◌, ◌*◌, ◌/◌, ◌%◌}
use Rattle.knowing.specs.Standing.{known}
use Rattle.fact.specs.View.{stands}
use Rattle.character_knowledge.specs.View.{points}
use Rattle.character_known.proofs.everyday.draws.Goals as goal

pub returns-then-number-lt5 : goal.returns-then-number-lt5
returns-then-number-lt5 c = let n = c.in-Known.character.0 in
    let k = c.in-Known-column.number in
    let e : n ≡ (n * 5 + k) / 5 = omega arith in
    let f : k ≡ (n * 5 + k) % 5 = omega arith in
    record {
      here = c.requires;
      there = (ap points c.in-Known.is ∙ ap known e, ap stands c.in-Known-column.is ∙ ap known f);
      inside = omega arith;
    }
