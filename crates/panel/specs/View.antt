-- What is known of a panel, for each part.
use Rattle.std.specs.Prelude.{◌≡◌}
use Rattle.knowing.specs.Standing.{Standing, unknown}
use Rattle.terms.specs.declared.Part.{Part}
use Rattle.terms.specs.declared.Part.TheVariants.{Pt6302, Pt6312, Pt6315}
use Rattle.parts.specs.Facts.{Fact}
use Rattle.segment.specs.Fact as Segment
use Rattle.character.specs.Fact as Character
use Rattle.segment_knowledge.specs.View as OfSegment
use Rattle.character_knowledge.specs.View as OfCharacter
use Rattle.panel.specs.declared.Panel.{Panel}

-- What is known of each fact of the part: the half of the panel's knowledge that speaks of it, read as facts.
abbrev pub known_of : (p : Part) → Panel → Fact p → Standing
known_of Pt6302 k = OfCharacter.kview k.character
known_of Pt6312 k = OfSegment.kview k.segment
known_of Pt6315 k = OfSegment.kview k.segment

-- The half that speaks of the other parts is as it was.
abbrev pub OtherKept : Part → Panel → Panel → Type 0
OtherKept Pt6302 k r = r.segment ≡ k.segment
OtherKept Pt6312 k r = r.character ≡ k.character
OtherKept Pt6315 k r = r.character ≡ k.character

-- Nothing is known, of any part.
pub record KnowsNothing (k : Panel) : Type 0 where
  pub segment : (f : Segment.Fact) → OfSegment.kview k.segment f ≡ unknown
  pub character : (f : Character.Fact) → OfCharacter.kview k.character f ≡ unknown
