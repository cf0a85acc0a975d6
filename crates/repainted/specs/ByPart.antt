-- A painting, recorded and read back, for any part: its records are the painting's events, and these in turn leave
-- known what `Repainted` says.
use Rattle.std.specs.Prelude.{◌≡◌, map}
use Rattle.knowing.specs.Standing.{Standing}
use Rattle.knowing.specs.Turn.{in_turn}
use Rattle.terms.specs.declared.Part.{Part}
use Rattle.terms.specs.declared.Part.TheVariants.{Pt6302, Pt6312, Pt6315}
use Rattle.segment.specs.declared.Family.TheVariants as OfFamily
use Rattle.segment.specs.Family.{sizes}
use Rattle.parts.specs.Facts.{Fact, same?, range, move}
use Rattle.painting.specs.declared.Picture.{Picture}
use Rattle.painting.specs.Picture.{Shaped, PictureInRange, events_for}
use Rattle.repainted.specs.Repainted.{repainted_by}
use Rattle.repainted.specs.Accepted.{Accepted, segment_accepted, character_accepted}
use Rattle.repainted.specs.Segment as Segment
use Rattle.repainted.specs.Character as Character

pub painting_accepted : (p : Part) (pic : Picture) → Accepted p (events_for p pic)
painting_accepted Pt6302 pic = character_accepted Pt6302 pic.character
painting_accepted Pt6312 pic = segment_accepted Pt6312 (sizes OfFamily.Pt6312) pic.segment
painting_accepted Pt6315 pic = segment_accepted Pt6315 (sizes OfFamily.Pt6315) pic.segment

pub painting_repaints : (p : Part) (pic : Picture) → Shaped pic → PictureInRange p pic → (k : Fact p → Standing) (f : Fact p)
    → in_turn (same? p) (range p) (map (move p) (events_for p pic)) k f ≡ repainted_by p pic k f
painting_repaints Pt6302 pic s h k = Character.character_repainted_lem pic.character h s.dcram s.cgram s.adram k
painting_repaints Pt6312 pic s h k = Segment.segment_repainted_lem OfFamily.Pt6312 pic.segment h s.cells k
painting_repaints Pt6315 pic s h k = Segment.segment_repainted_lem OfFamily.Pt6315 pic.segment h s.cells k
