-- `segment_known::everyday::perhaps_stepped` meets its contract: only the address changes, and each arm knows the stepping, or that it is unknown. Assumes nothing.
use Rattle.std.proofs.Common.{arith}
use mathlib.Core.Path.{refl, sym, ap, ◌∙◌}
use Rattle.knowing.specs.Standing.{known}
use Rattle.fact.specs.View.{stands}
use Rattle.segment_knowledge.specs.View.{points}
use Rattle.segment_known.specs.Everyday.{perhaps_on, other_perhaps}
use Rattle.segment_known.proofs.everyday.perhaps_stepped.Goals as goal
use Rattle.segment_known.proofs.everyday.perhaps_stepped.Goals.{in-Known+in-0, in-Known+in_default, in-Unknown}

pub returns : goal.returns
returns c =
    let on = perhaps_on c.args.cell.0 in
    record {
      others = refl;
      address = elim c.match-stepping.branch [
        | in-Known+in-0 w ↦ ap points w.address-is ∙ sym (ap on (ap stands w.in-Known.is ∙ ap known w.in-0.is))
        | in-Known+in_default w ↦ ap points w.address-is ∙ other_perhaps _ _ (omega arith) ∙ sym (ap on (ap stands w.in-Known.is))
        | in-Unknown w ↦ ap points w.address-is ∙ sym (ap on (ap stands w.in-Unknown.is))
      ];
    }
