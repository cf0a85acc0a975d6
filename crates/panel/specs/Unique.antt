-- Two panels of which the same is known are equal. The argument: what is known of every fact fixes the knowledge.
use Rattle.std.specs.Prelude.{◌≡◌}
use Rattle.std.proofs.Common.{sym, ◌∙◌}
use Rattle.terms.specs.declared.Part.{Part}
use Rattle.terms.specs.declared.Part.TheVariants.{Pt6302, Pt6312, Pt6315}
use Rattle.parts.specs.Facts.{Fact}
use Rattle.segment_knowledge.specs.Unique as OfSegment
use Rattle.segment_knowledge.specs.View as SegmentView
use Rattle.segment.specs.Fact as SegmentFact
use Rattle.character_knowledge.specs.Unique as OfCharacter
use Rattle.panel.specs.declared.Panel.{Panel}
use Rattle.panel.specs.View.{known_of, OtherKept}

-- Both halves are as long as the arrays of their types. This holds of every knowledge that code hands over.
pub record Shaped (k : Panel) : Type 0 where
  pub segment : OfSegment.Shaped k.segment
  pub character : OfCharacter.Shaped k.character

-- Two panels of which the same is known, for a part, and that keep the other half of one before them, are equal.
pub same_panel : (p : Part) (k r q : Panel) → Shaped r → Shaped q → ((f : Fact p) → known_of p r f ≡ known_of p q f)
    → OtherKept p k r → OtherKept p k q → r ≡ q
same_panel p k r q sr sq = by p
  where
    by_segment : ((f : SegmentFact.Fact) → SegmentView.kview r.segment f ≡ SegmentView.kview q.segment f)
        → r.character ≡ k.character → q.character ≡ k.character → r ≡ q
    by_segment h x y =
        let mine = OfSegment.same_knowledge r.segment q.segment sr.segment sq.segment h in
        let other = x ∙ sym y in
        λ i. record { segment = mine i; character = other i }

    by : (p : Part) → ((f : Fact p) → known_of p r f ≡ known_of p q f) → OtherKept p k r → OtherKept p k q → r ≡ q
    by Pt6302 h x y =
        let mine = OfCharacter.same_knowledge r.character q.character sr.character sq.character h in
        let other = x ∙ sym y in
        λ i. record { segment = other i; character = mine i }
    by Pt6312 h x y = by_segment h x y
    by Pt6315 h x y = by_segment h x y
