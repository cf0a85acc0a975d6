-- `degrees::write_degrees` meets its contract: a minus stands in front where the half degrees are below nought. Assumes nothing.
use lib.IntN.{pos}
use mathlib.Core.Bool.{Bool, true}
use mathlib.Core.Path.{subst}
use lib.Ieee.Exact.{HasValue}
use borrow.Author.Rules.{rules}
use Rattle.writing.specs.Wrote.{wrote_then, wrote_back}
use Rattle.degrees.specs.Degrees.{written_under}
use Rattle.degrees.proofs.write_degrees.Goals as goal

pub returns-then-halves : goal.returns-then-halves
returns-then-halves c =
    let f = c.args.degrees in
    let n = c.halves_of-halves.result.size in
    let v : HasValue f true n 2 = subst (λ (s : Bool). HasValue f s n 2) c.if-halves.true c.halves_of-halves.ensures in
    written_under f n c.requires v (wrote_back (wrote_then c.put.ensures c.write_size.ensures) (search rules))

pub returns : goal.returns
returns c =
    let f = c.args.degrees in
    let n = c.halves_of-halves.result.size in
    record {
      halves = pos n;
      exact = subst (λ (s : Bool). HasValue f s n 2) c.if-halves.false c.halves_of-halves.ensures;
      written = wrote_back c.write_size-2.ensures (search rules);
    }
