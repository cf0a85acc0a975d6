-- What is promised by what was read of a part byte is promised of what that is.
use Rattle.std.specs.Prelude.{◌≡◌}
use Rattle.std.proofs.Common.{subst}
use Rattle.terms.specs.Part.{PartRead}
use Rattle.panel.specs.declared.Panel.{Panel}
use Rattle.reporting.specs.Report.{Report, Tells}

pub tells_as : (a b : PartRead) (k : Panel) (r : Report) → a ≡ b → Tells a k r → Tells b k r
tells_as a b k r p h = subst (λ (x : PartRead). Tells x k r) p h
