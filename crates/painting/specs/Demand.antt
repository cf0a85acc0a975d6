-- The second half of demand 2: fed to a chip in any state, the stream that paints a picture leaves exactly that
-- memory and those settings. Of all the chips to which its events may lead, by the rules, there is one and it is the
-- painted chip. The argument: every event of a painting says what becomes of every fact, so that it surely leads
-- where it may lead.
use Rattle.std.specs.Prelude.{ℕ, List, map}
use Rattle.rules.specs.Rule.{Rule}
use Rattle.rules.specs.Turn.{Surely, surely_ends, surely_only}
use Rattle.terms.specs.declared.Part.{Part}
use Rattle.terms.specs.declared.Part.TheVariants.{Pt6302, Pt6312, Pt6315}
use Rattle.segment.specs.declared.Family.TheVariants as OfFamily
use Rattle.parts.specs.Facts.{Fact, range, move}
use Rattle.painting.specs.declared.Picture.{Picture}
use Rattle.painting.specs.Picture.{Shaped, PictureInRange, events_for, painted_by, OneEnd}
use Rattle.painting.specs.SegmentLeads as SegmentLeads
use Rattle.painting.specs.CharacterLeads as CharacterLeads

pub surely_one : {F : Type 0} (range : F → ℕ) (rules : List (Rule F F)) (c x : F → ℕ) → Surely rules c x → OneEnd range rules c x
surely_one range rules c x h = record { leads = surely_ends range rules c x h; only = λ y e. surely_only range rules c x y h e }

surely : (p : Part) (pic : Picture) → Shaped pic → PictureInRange p pic → (c : Fact p → ℕ) → Surely (map (move p) (events_for p pic)) c (painted_by p pic c)
surely Pt6302 pic s h = CharacterLeads.paints pic.character h s.dcram s.cgram s.adram
surely Pt6312 pic s h = SegmentLeads.paints OfFamily.Pt6312 pic.segment h s.cells
surely Pt6315 pic s h = SegmentLeads.paints OfFamily.Pt6315 pic.segment h s.cells

pub painting_paints : (p : Part) (pic : Picture) → Shaped pic → PictureInRange p pic → (c : Fact p → ℕ)
    → OneEnd (range p) (map (move p) (events_for p pic)) c (painted_by p pic c)
painting_paints p pic s h c = surely_one (range p) (map (move p) (events_for p pic)) c (painted_by p pic c) (surely p pic s h c)
