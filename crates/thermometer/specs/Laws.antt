-- What is promised by what was read of a part byte is promised of what that is; and the bytes of codes that are in range
-- are those that the cells are known to hold.
use Rattle.std.specs.Prelude.{ℕ, ◌≡◌, get_or}
use Rattle.std.proofs.Common.{subst}
use Rattle.knowing.specs.Standing.{Sound}
use Rattle.fact.specs.View.{stands}
use Rattle.lamps.specs.Whole.{whole_shown}
use Rattle.terms.specs.Part.{PartRead}
use Rattle.character.specs.Fact.{range, dcram}
use Rattle.character_knowledge.specs.declared.Knowledge.{Knowledge}
use Rattle.character_knowledge.specs.View.{kview}
use Rattle.panel.specs.declared.Panel.{Panel}
use Rattle.field.specs.Field.{told}
use Rattle.field_cells.specs.Cells.{byte_at}
use Rattle.thermometer.specs.declared.temperatures.Answer.{Answer}
use Rattle.thermometer.specs.Answer.{Tells, byte_of, temperature_of}

pub tells_as : (a b : PartRead) (k : Panel) (start : ℕ) (r : Answer) → a ≡ b → Tells a k start r → Tells b k start r
tells_as a b k start r p h = subst (λ (x : PartRead). Tells x k start r) p h

pub told_known : (k : Knowledge) (start : ℕ) → Sound range (kview k)
    → told (stands k.control.lights) (stands k.control.digits) (byte_at k.dcram) start ≡ temperature_of (kview k) start
told_known k start sound =
    let cells : (i : ℕ) → byte_at k.dcram i ≡ byte_of (kview k) i = λ i. whole_shown 8 (get_or k.dcram i 0) (λ j. sound (dcram i j)) in
    λ j. told (stands k.control.lights) (stands k.control.digits) (λ i. cells i j) start
