-- `changes::rows::all_agree` meets its contract: the codes passed agree with the byte, where each is what it has in common with it. Assumes nothing.
use mathlib.Core.Path.{◌≡◌}
use mathlib.Core.Bool.{true}
use Rattle.changes.specs.Laws.{AgreeTo}
use Rattle.changes.proofs.rows.all_agree.Given as goal

abbrev pub invariant-loop-code : goal.invariant-loop-code
invariant-loop-code l = l.agree ≡ true → AgreeTo l.codes l.byte l.code-index
