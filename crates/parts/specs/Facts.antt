-- The facts of each part, their ranges and its moves (paper 01, "Facts and chips" and the two sections of moves), so
-- that what holds of every part is said once, over the part.
use Rattle.std.specs.Prelude.{ℕ}
use Rattle.rules.specs.Rule.{Rule}
use Rattle.terms.specs.declared.Event.{Event}
use Rattle.terms.specs.declared.Part.{Part}
use Rattle.terms.specs.declared.Part.TheVariants.{Pt6302, Pt6312, Pt6315}
use Rattle.segment.specs.declared.Family.TheVariants as OfFamily
use Rattle.segment.specs.Family.{sizes}
use Rattle.segment.specs.Fact as Segment
use Rattle.segment.specs.Move as SegmentMove
use Rattle.character.specs.Fact as Character
use Rattle.character.specs.Move as CharacterMove

-- The type also names what a part lacks (a cell past its last, PT6312's fourth key byte, PT6315's switches): whatever that
-- holds is in range, and no rule looks at it (`segment/Fact.lacking`).
abbrev pub Fact : Part → Type 0
Fact Pt6302 = Character.Fact
Fact Pt6312 = Segment.Fact
Fact Pt6315 = Segment.Fact

-- Facts can be told apart.
abbrev pub same? : (p : Part) → Discrete (Fact p)
same? Pt6302 = Character.same?
same? Pt6312 = Segment.same?
same? Pt6315 = Segment.same?

-- A value of a fact is a number below this one.
abbrev pub range : (p : Part) → Fact p → ℕ
range Pt6302 = Character.range
range Pt6312 = Segment.range (sizes OfFamily.Pt6312)
range Pt6315 = Segment.range (sizes OfFamily.Pt6315)

-- What an event does to a chip of the part.
abbrev pub move : (p : Part) → Event → Rule (Fact p) (Fact p)
move Pt6302 = CharacterMove.move
move Pt6312 = SegmentMove.move (sizes OfFamily.Pt6312)
move Pt6315 = SegmentMove.move (sizes OfFamily.Pt6315)
