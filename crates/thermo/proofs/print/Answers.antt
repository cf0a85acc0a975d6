-- `print` is safe: the line is no longer than what it was written to. Assumes nothing.
use Rattle.std.proofs.Common.{sym, length-take-le}
use Rattle.thermo.specs.Thermo.{shows_within}
use Rattle.thermo.proofs.print.Goals as goal

pub slice_bounds-out-end : goal.slice_bounds-out-end
slice_bounds-out-end g c = shows_within c.read_off-length.ensures

pub slice_bounds-write_all-end : goal.slice_bounds-write_all-end
slice_bounds-write_all-end g c = sym (length-take-le _ _ (shows_within c.read_off-length.ensures))
