-- What holds of every part's facts and moves: the two families' own laws, by the part.
use Rattle.std.specs.Prelude.{◌≤◌}
use Rattle.rules.specs.Range.{Ranged}
use Rattle.terms.specs.declared.Event.{Event}
use Rattle.terms.specs.Event.{Bytes}
use Rattle.terms.specs.declared.Part.{Part}
use Rattle.terms.specs.declared.Part.TheVariants.{Pt6302, Pt6312, Pt6315}
use Rattle.segment.specs.declared.Family.TheVariants as OfFamily
use Rattle.segment.specs.Family.{sizes}
use Rattle.segment.specs.Range as Segment
use Rattle.character.specs.Range as Character
use Rattle.parts.specs.Facts.{Fact, range, move}

-- No fact has fewer than two values.
pub two : (p : Part) (f : Fact p) → 2 ≤ range p f
two Pt6302 = Character.two
two Pt6312 = Segment.two OfFamily.Pt6312
two Pt6315 = Segment.two OfFamily.Pt6315

-- The rule of an event that carries bytes keeps every fact in its range.
pub ranged : (p : Part) (e : Event) → Bytes e → Ranged (range p) (range p) (move p e)
ranged Pt6302 = λ e _. Character.ranged e
ranged Pt6312 = Segment.ranged (sizes OfFamily.Pt6312) (Segment.proper OfFamily.Pt6312)
ranged Pt6315 = Segment.ranged (sizes OfFamily.Pt6315) (Segment.proper OfFamily.Pt6315)
