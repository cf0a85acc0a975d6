-- `field_dark::is_dark` meets its contract: off, on and past the digits in use, one after the other. Assumes nothing.
use mathlib.Core.Path.{refl, sym, ◌∙◌}
use Rattle.field_dark.proofs.is_dark.Goals as goal

pub returns-then-is_known : goal.returns-then-is_known
returns-then-is_known c = rw (sym c.is_known.ensures ∙ c.if-is_known.true) refl

pub returns-then-is_known-2 : goal.returns-then-is_known-2
returns-then-is_known-2 c = rw (sym c.is_known.ensures ∙ c.if-is_known.false, sym c.is_known-2.ensures ∙ c.if-is_known-2.true) refl

pub returns : goal.returns
returns c =
    rw (sym c.is_known.ensures ∙ c.if-is_known.false, sym c.is_known-2.ensures ∙ c.if-is_known-2.false)
    c.reaches_past.ensures
