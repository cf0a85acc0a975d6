-- A picture and its painting, by the part that it is for (paper 01, "Painting").
use Rattle.std.specs.Prelude.{ℕ, ◌≡◌, List, length}
use Rattle.rules.specs.Rule.{Rule}
use Rattle.rules.specs.Turn.{Ends}
use Rattle.terms.specs.declared.Event.{Event}
use Rattle.terms.specs.declared.Part.{Part}
use Rattle.terms.specs.declared.Part.TheVariants.{Pt6302, Pt6312, Pt6315}
use Rattle.segment.specs.declared.Family.TheVariants as OfFamily
use Rattle.segment.specs.Family.{sizes}
use Rattle.parts.specs.Facts.{Fact}
use Rattle.painting.specs.declared.Picture.{Picture}
use Rattle.painting.specs.Segment as Segment
use Rattle.painting.specs.Character as Character

-- Every list is as long as the array of its type. This holds of every picture that code hands over.
pub record Shaped (pic : Picture) : Type 0 where
  pub cells : length pic.segment.cells ≡ 36
  pub dcram : length pic.character.dcram ≡ 16
  pub cgram : length pic.character.cgram ≡ 40
  pub adram : length pic.character.adram ≡ 16

-- Every value of the picture is in range.
abbrev pub PictureInRange : Part → Picture → Type 0
PictureInRange Pt6302 pic = Character.InRanges pic.character
PictureInRange Pt6312 pic = Segment.InRanges (sizes OfFamily.Pt6312) pic.segment
PictureInRange Pt6315 pic = Segment.InRanges (sizes OfFamily.Pt6315) pic.segment

-- The events of the painting: five strobes, or seven.
abbrev pub events_for : Part → Picture → List Event
events_for Pt6302 pic = Character.painting pic.character
events_for Pt6312 pic = Segment.painting (sizes OfFamily.Pt6312) pic.segment
events_for Pt6315 pic = Segment.painting (sizes OfFamily.Pt6315) pic.segment

-- The chip that was c, painted: it has the picture's memory and settings, and else what a painting leaves.
abbrev pub painted_by : (p : Part) → Picture → (Fact p → ℕ) → Fact p → ℕ
painted_by Pt6302 pic = Character.painted pic.character
painted_by Pt6312 pic = Segment.painted (sizes OfFamily.Pt6312) pic.segment
painted_by Pt6315 pic = Segment.painted (sizes OfFamily.Pt6315) pic.segment

-- x is a chip to which the moves may lead from c, and there is no other.
pub record OneEnd {F : Type 0} (range : F → ℕ) (rules : List (Rule F F)) (c x : F → ℕ) : Type 0 where
  pub leads : Ends range rules c x
  pub only : (y : F → ℕ) → Ends range rules c y → (f : F) → y f ≡ x f
