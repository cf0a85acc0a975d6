-- `segment_known::everyday::nothing_left` meets its contract: each fact is unknown, and of the LED no bit is known. Assumes nothing.
use Rattle.std.proofs.Common.{arith, rules, ap, ◌∙◌, ◌≡◌}
use Rattle.fact.specs.View.{stands}
use Rattle.fact.specs.declared.Single.TheVariants.{Unknown}
use Rattle.segment_knowledge.specs.View.{points}
use Rattle.lamps.specs.View.{shown}
use Rattle.lamps.specs.Lamp.{none_shown}
use Rattle.segment_known.proofs.everyday.nothing_left.Goals as goal

pub returns-in-Unknown : goal.returns-in-Unknown
returns-in-Unknown c = λ e.
    let k = c.args.c in
    let led : k.led ≡ 0 = omega arith in
    let position : k.position ≡ Unknown = search rules in
    let mode_of_data : k.«data» ≡ Unknown = search rules in
    let stepping : k.stepping ≡ Unknown = search rules in
    let mode : k.mode ≡ Unknown = search rules in
    let dimming : k.dimming ≡ Unknown = search rules in
    let display : k.display ≡ Unknown = search rules in
    let count : k.count ≡ Unknown = search rules in
    let address : k.address ≡ Unknown = search rules in
    record {
      placed = ap stands position;
      writing = ap stands mode_of_data;
      stepped = ap stands stepping;
      moded = ap stands mode;
      dimmed = ap stands dimming;
      displayed = ap stands display;
      counted = ap stands count;
      addressed = ap points address;
      lit = λ k. ap (λ n. shown 4 n k) led ∙ none_shown 4 k;
    }
