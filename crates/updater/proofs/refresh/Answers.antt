-- `updater::refresh` meets its contract: each arm knows the part that the byte names.
-- Assumes nothing.
use mathlib.Core.Path.{◌≡◌, sym, ap, ◌∙◌}
use Rattle.std.specs.Prelude.{Ok}
use Rattle.terms.specs.declared.Part.TheVariants.{Pt6312, Pt6315}
use Rattle.terms.specs.Part.{part_of}
use Rattle.updater.proofs.refresh.Goals as goal

pub returns-in-Ok-Pt6312 : goal.returns-in-Ok-Pt6312
returns-in-Ok-Pt6312 c =
    let e : part_of c.args.part ≡ Ok Pt6312 = sym c.try_from.ensures.0 ∙ c.in-Ok-Pt6312.is ∙ ap Ok c.in-Ok-Pt6312.field-0-is in
    rw e c.refresh_segment.ensures

pub returns-in-Ok-Pt6315 : goal.returns-in-Ok-Pt6315
returns-in-Ok-Pt6315 c =
    let e : part_of c.args.part ≡ Ok Pt6315 = sym c.try_from.ensures.0 ∙ c.in-Ok-Pt6315.is ∙ ap Ok c.in-Ok-Pt6315.field-0-is in
    rw e c.refresh_segment-in-Ok-Pt6315.ensures
