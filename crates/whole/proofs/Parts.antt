-- Demand 3's last sentence for every part. The argument: a good start has a chip that fits it. Read off the events
-- alone or taken by that chip, the commands are the same (`Awaits`), and so with no gap and no undefined command
-- every event is clear: it looks at settings and the position alone, which stay known (`Segment`, `Character`). Then
-- what is known at the end is what all fitting chips end with (`Whole`).
use Rattle.std.specs.Prelude.{ℕ, ◌<◌, ◌≡◌, refl, false, List, map}
use Rattle.std.proofs.Common.{arith}
use Rattle.rules.specs.Turn.{Result}
use Rattle.knowing.specs.Standing.{Standing, Sound}
use Rattle.knowing.specs.Fill.{fill, filled, filled_fits, filled_good}
use Rattle.terms.specs.declared.Event.{Event}
use Rattle.terms.specs.Event.{Bytes}
use Rattle.terms.specs.declared.Part.{Part}
use Rattle.terms.specs.declared.Part.TheVariants.{Pt6302, Pt6312, Pt6315}
use Rattle.segment.specs.Family.{sizes}
use Rattle.parts.specs.Facts.{Fact, same?, range, move}
use Rattle.parts.specs.Laws.{two, ranged}
use Rattle.whole.specs.Sentence.{IsKnown, position, StartKnows, is_gap, has_gap, awaits, DefinedOn, NoUndefined, starts_first}
use Rattle.whole.specs.Clear.{KnowsSteering, Clear}
use Rattle.whole.specs.Usual.{UsualAt, Each, usual_less}
use Rattle.whole.specs.Taken.{Takes, takes_throughout}
use Rattle.whole.specs.Awaits.{is_first}
use Rattle.whole.specs.Whole.{ExactAtEnd}
use Rattle.whole.proofs.Awaits.{takes}
use Rattle.whole.proofs.Whole.{exact_at_end}
use Rattle.segment.specs.declared.Family.TheVariants as OfFamily
use Rattle.segment.specs.Fact as SegmentFact
use Rattle.segment.specs.Laws as SegmentLaws
use Rattle.character.specs.Fact as CharacterFact
use Rattle.character.specs.Laws as CharacterLaws
use Rattle.whole.specs.Segment as Segment
use Rattle.whole.specs.Character as Character
use Rattle.whole.proofs.Segment as SegmentOnward
use Rattle.whole.proofs.Character as CharacterOnward

-- What rules look at: settings and the position.
abbrev Steers : (p : Part) → Fact p → Type 0
Steers Pt6302 = Character.Steers
Steers Pt6312 = Segment.Steers
Steers Pt6315 = Segment.Steers

segment_steered : (k : SegmentFact.Fact → Standing) → ((f : SegmentFact.Fact) → SegmentFact.sort f ≡ SegmentFact.setting → IsKnown (k f)) → IsKnown (k SegmentFact.position)
    → KnowsSteering Segment.Steers k
segment_steered k h q =
    SegmentLaws.every _ (λ i j n. absurd n) (λ _. h SegmentFact.address refl) (λ _. h SegmentFact.data_mode refl) (λ _. h SegmentFact.stepping refl)
    (λ _. h SegmentFact.mode refl) (λ _. h SegmentFact.dimming refl) (λ _. h SegmentFact.display refl) (λ j n. h (SegmentFact.led j) (Segment.led_asked j n))
    (λ i n. absurd n) (λ n. absurd n) (λ _. h SegmentFact.read_count refl) (λ _. q)

steered : (p : Part) (k : Fact p → Standing) → StartKnows p k → KnowsSteering (Steers p) k
steered Pt6302 k h =
    CharacterLaws.every _ (λ i j n. absurd n) (λ i j n. absurd n) (λ i j n. absurd n) (λ _. h.settings CharacterFact.dcram_at refl) (λ _. h.settings CharacterFact.cgram_at refl)
    (λ _. h.settings CharacterFact.adram_at refl) (λ _. h.settings CharacterFact.column refl) (λ j n. h.settings (CharacterFact.port j) (Character.port_asked j n))
    (λ _. h.settings CharacterFact.duty refl) (λ _. h.settings CharacterFact.digits refl) (λ _. h.settings CharacterFact.lights refl) (λ _. h.position_known)
steered Pt6312 k h = segment_steered k h.settings h.position_known
steered Pt6315 k h = segment_steered k h.settings h.position_known

-- No gap and, where the position is known to be first byte, no undefined command: the rule is clear.
abbrev Usual : (p : Part) → Event → (Fact p → Standing) → Type 0
Usual p e k = UsualAt 1 (DefinedOn p) e (k (position p))

clear : (p : Part) (e : Event) (k : Fact p → Standing) → Usual p e k → Clear (Steers p) (move p e) k
clear Pt6302 = Character.clear
clear Pt6312 = Segment.clear (sizes OfFamily.Pt6312)
clear Pt6315 = Segment.clear (sizes OfFamily.Pt6315)

onward : (p : Part) (e : Event) → is_gap e ≡ false → (c y : Fact p → ℕ) → Result (range p) (move p e) c y → is_first (y (position p)) ≡ awaits e (is_first (c (position p)))
onward Pt6302 e g c y = CharacterOnward.onward c y e g
onward Pt6312 e g c y = SegmentOnward.onward (sizes OfFamily.Pt6312) c y e g
onward Pt6315 e g c y = SegmentOnward.onward (sizes OfFamily.Pt6315) c y e g

-- The chip that has 0 wherever nothing is known has the known position.
starts : (p : Part) (s : Standing) → IsKnown s → is_first (fill 0 s) ≡ starts_first p s
starts Pt6302 s (q, e) = rw e refl
starts Pt6312 s (q, e) = rw e refl
starts Pt6315 s (q, e) = rw e refl

module _ (p : Part) (es : List Event) (k : Fact p → Standing) (carried : Each Bytes es) (sound : Sound (range p) k) (start : StartKnows p k)
    (gapless : has_gap es ≡ false) (defined : NoUndefined (DefinedOn p) (starts_first p (k (position p))) es) where
  some : (f : Fact p) → 0 < range p f
  some f = let t = two p f in omega arith

  taken : Takes (range p) (move p) (Usual p) es (filled 0 k)
  taken = takes (range p) (move p) (position p) (DefinedOn p) (onward p) es (starts_first p (k (position p))) (filled 0 k) gapless defined (starts p (k (position p)) start.position_known)

  -- Any fact is known at the end exactly when every fitting chip ends with the same value there, and has that value.
  pub facts_exact : (f : Fact p) → ExactAtEnd (same? p) (range p) (map (move p) es) k f
  facts_exact =
      exact_at_end (same? p) (range p) (two p) (move p) Bytes (ranged p) (Steers p) (Usual p) (clear p) es k carried sound (steered p k start)
      (takes_throughout (same? p) (range p) (two p) (move p) Bytes (ranged p) (Usual p)
      (λ e l d h. usual_less 1 (DefinedOn p) e (l (position p)) (d (position p)) (h (position p))) es k (filled 0 k) carried sound
      (filled_good (range p) 0 some k sound) (filled_fits (range p) 0 some k) taken)
