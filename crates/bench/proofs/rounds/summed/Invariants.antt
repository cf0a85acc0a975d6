-- `rounds::summed` meets its contract: after i turns there were i rounds, one after the other, whole or in packets as the size says. Assumes nothing.
use Rattle.bench.specs.Rounds.{Rounds}
use Rattle.bench.proofs.rounds.summed.Given as goal

abbrev pub invariant-loop-round : goal.invariant-loop-round
invariant-loop-round l = Rounds l.size l.part l.start l.recording l._round l.sum.0 l.last.panel
