-- A packet of the size ends within the recording, since the loop goes on only while more is left, and the last one takes what is left. What is left behind a
-- packet begins where it ends.
use Rattle.std.proofs.Common.{◌+◌, ◌<◌, arith, length, take, drop, length-drop, refl, ap, ◌∙◌, subst, drop-drop}
use Rattle.terms.specs.Part.{part_of}
use Rattle.packets.specs.Takes.{Takes}
use Rattle.bench.specs.Rounds.{first, next}
use Rattle.bench.proofs.packeted.in_packets.Goals as goal

pub loop-left-init : goal.loop-left-init
loop-left-init c = (0, refl, first)

pub loop-left-preserved : goal.loop-left-preserved
loop-left-preserved c =
    let a = c.args in
    let at = c.loop-left.invariant.0 in
    let is = c.loop-left.invariant.1 in
    let d = length-drop at a.recording.now in
    let l = ap length is in
    let within : at + a.size < length a.recording.now = omega (arith, d, l, c.loop-left-test.true) in (
      at + a.size,
      c.split_at.ensures.back ∙ ap (drop a.size) is ∙ drop-drop a.size at a.recording.now,
      next c.taken-taken.result c.loop-left.invariant.2 within (subst (λ packet. Takes (part_of a.part) c.loop-left.feed packet c.taken-taken.result) (c.split_at.ensures.front ∙ ap (take a.size) is) c.taken-taken.ensures),
    )

pub returns : goal.returns
returns c =
    let a = c.args in
    let at = c.loop-left.invariant.0 in
    let is = c.loop-left.invariant.1 in
    let d = length-drop at a.recording.now in
    let l = ap length is in
    record {
      after = c.taken-last.result.feed;
      fed = record {
        at = at;
        before = c.loop-left.feed;
        fed = rw (← c.opened-feed.ensures) c.loop-left.invariant.2;
        fits = omega (arith, d, l, c.loop-left-test.false);
        last = c.taken-last.result;
        takes = rw (← is) c.taken-last.ensures;
        leaves = refl;
      };
      closes = c.closed-answer.ensures;
      knows = refl;
    }
