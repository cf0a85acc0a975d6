-- `field_dark::reaches_past` meets its contract: where the code is known, the last digit of the field is held against those in use. Assumes nothing.
use mathlib.Core.Path.{refl, sym}
use Rattle.field_dark.proofs.reaches_past.Goals as goal

pub returns-in-Known : goal.returns-in-Known
returns-in-Known c = rw (c.in-Known.is, sym c.in_use.ensures) refl
