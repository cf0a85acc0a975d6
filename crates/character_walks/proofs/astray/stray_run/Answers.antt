-- `character_walks::astray::stray_run` meets its contract: the run is passed over where nothing at all is known, the cells meet what its bytes have in common, or a byte is taken by itself.
-- Assumes nothing.
use Rattle.std.proofs.Common.{arith, ◌∙◌, ◌<◌}
use Rattle.character_knowledge.specs.View.{kview}
use Rattle.character_known.specs.Lost.{lost_deaf}
use Rattle.character_known.specs.Together.{together}
use Rattle.character_walks.specs.Reached.{byte_on}
use Rattle.character_walks.specs.Runs.{passed_on}
use Rattle.character_walks.specs.Drifts.{strayed_on}
use Rattle.character_walks.proofs.astray.stray_run.Goals as goal

pub returns-then-nothing_known-clause-leads : goal.returns-then-nothing_known-clause-leads
returns-then-nothing_known-clause-leads c = λ p w first here.
    passed_on c.passed.result here c.passed.ensures.run (lost_deaf (kview (together c.args.rows.now c.args.c)) (c.nothing_known.ensures c.if-nothing_known.true))

pub returns-then-count-eq0-clause-leads : goal.returns-then-count-eq0-clause-leads
returns-then-count-eq0-clause-leads c = λ p w first here.
    byte_on here (omega (arith, c.args.run.inside)) (together c.taken-control.new.rows c.taken-control.result) c.args.run.inside c.args.run.kind c.taken-control.ensures.knows c.taken-control.ensures.sized

pub returns-clause-leads : goal.returns-clause-leads
returns-clause-leads c = λ p w first here.
    let run = c.gather_run-gathered in
    let met8 = c.meet.ensures in
    let met7 = c.meet-2.ensures in
    let met2 = c.meet-3.ensures in
    let some : 0 < run.result.count = omega (arith, c.if-count-eq0.false) in
    strayed_on run.result c.cut.result c.cut-2.result _ _ _ here run.ensures some met8 c.cut.ensures met7 c.cut-2.ensures met2
    (met8.size ∙ here.sized.0, (met7.size ∙ here.sized.1.0, met2.size ∙ here.sized.1.1))
