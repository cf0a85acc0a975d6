-- `segment_known::perhaps::quiet` meets its contract: each arm knows the data mode, and what the byte says has in common with the cells, or the LED, what they have. Assumes nothing.
use Rattle.std.proofs.Common.{arith}
use Prim.Native.Nat.{ℕ}
use mathlib.Core.Path.{refl, sym, ap, ◌∙◌}
use borrow.Author.Tests.{eqb-true}
use Rattle.knowing.specs.Standing.{known}
use Rattle.knowing.specs.Join.{join_itself, join_not}
use Rattle.fact.specs.View.{stands}
use Rattle.lamps.specs.View.{shown}
use Rattle.changes.specs.declared.Change.TheVariants.{Keep, Meet}
use Rattle.segment.specs.Family.{sizes}
use Rattle.segment_knowledge.specs.View.{points}
use Rattle.segment_known.specs.Anywhere.{met_kept}
use Rattle.segment_known.specs.Writes.{writes_led, writes_none, writes_anywhere}
use Rattle.segment_known.proofs.perhaps.quiet.Goals as goal

pub returns-in-Unknown : goal.returns-in-Unknown
returns-in-Unknown c = λ e. let a = c.args in
    let u = ap points c.in-Unknown.is in
    record {
      next = record { address = a.c.address; led = a.c.led; change = Meet (record { 0 = 0 }) 1 (sizes a.family).cells a.byte };
      data_in = writes_anywhere a.family a.c a.byte (ap stands c.in-Known.is ∙ ap known c.in-0.is) u;
      kept = met_kept a.cells.now _ 1 (sizes a.family).cells a.byte (c.all_agree.ensures e);
      pointed = u ∙ join_not _ _ u;
      lit = λ k. sym (join_itself _);
    }

pub returns-in-1 : goal.returns-in-1
returns-in-1 c = λ e. let a = c.args in
    record {
      next = record { address = a.c.address; led = c.put_byte.result; change = Keep };
      data_in = writes_led (sizes a.family) a.c a.byte _ (ap stands c.in-Known.is ∙ ap known c.in-1.is) c.put_byte.ensures;
      kept = λ i k. refl;
      pointed = sym (join_itself _);
      lit = λ k. ap (λ (n : ℕ). shown 4 n k) (sym (eqb-true _ _ e)) ∙ c.both_lamps.ensures 4 k;
    }

pub returns-in_default-to : goal.returns-in_default-to
returns-in_default-to c = λ e. let a = c.args in
    record {
      next = record { address = a.c.address; led = a.c.led; change = Keep };
      data_in = writes_none (sizes a.family) a.c a.byte _ (ap stands c.in-Known.is) (omega arith) (omega arith);
      kept = λ i k. refl;
      pointed = sym (join_itself _);
      lit = λ k. sym (join_itself _);
    }
