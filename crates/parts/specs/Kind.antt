-- The part of a kind: PT6302, or the part that the family's numbers are of. No two kinds have one part.
use Rattle.terms.specs.declared.Part.{Part}
use Rattle.terms.specs.declared.Part.TheVariants.{Pt6302, Pt6312, Pt6315}
use Rattle.segment.specs.declared.Family.{Family}
use Rattle.segment.specs.declared.Family.TheVariants as OfFamily
use Rattle.parts.specs.declared.Kind.{Kind}
use Rattle.parts.specs.declared.Kind.TheVariants.{Character, Segment}

abbrev pub in_family : Family → Part
in_family OfFamily.Pt6312 = Pt6312
in_family OfFamily.Pt6315 = Pt6315

abbrev pub part_is : Kind → Part
part_is Character = Pt6302
part_is (Segment q) = in_family q
