-- `stored_runs::put_run` meets its contract: the bytes so far are a run and stand in the codes, at every step of the loop; the first is stored
-- in any case. Assumes nothing.
use Rattle.walks.specs.Run.{Run, byte_of}
use Rattle.stored_runs.specs.Putting.{Stored}
use Rattle.stored_runs.proofs.put_run.Given as goal

abbrev pub invariant-loop-j : goal.invariant-loop-j
invariant-loop-j l = record {
  run : Run l.bytes l.from l.j;
  stored : Stored l.wide l.start (byte_of l.bytes l.from) l.initial.codes l.j l.codes;
}
