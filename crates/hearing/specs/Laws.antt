-- What is promised of a part byte, by what it was read as, is promised of what that is; and what an event is answered decides
-- what is heard of it. The argument: one number decides both, 0 or another.
use Rattle.std.specs.Prelude.{ℕ, zero, suc, ◌≡◌, refl}
use Rattle.std.proofs.Common.{arith, sym, ◌∙◌, subst}
use Rattle.rules.specs.Where.{where_map}
use Rattle.terms.specs.declared.Event.{Event}
use Rattle.terms.specs.declared.Part.{Part}
use Rattle.terms.specs.Part.{PartRead}
use Rattle.segment.specs.declared.Family.{Family}
use Rattle.segment.specs.declared.Family.TheVariants.{Pt6312, Pt6315}
use Rattle.segment.specs.Family.{sizes}
use Rattle.segment.specs.Move as SegmentMove
use Rattle.segment_knowledge.specs.View as OfSegment
use Rattle.parts.specs.Kind.{in_family}
use Rattle.panel.specs.declared.Panel.{Panel}
use Rattle.hearing_answer.specs.Answer.{Answer, number, Numbered, event_number, Answers}
use Rattle.hearing.specs.declared.events.Heard.{Heard}
use Rattle.hearing.specs.Event.{After, HeardBy, HearsPart, Hears}

-- What the half of PT6312 and PT6315 becomes, it becomes for the part whose numbers it goes by.
pub segment_after : (q : Family) (e : Event) (k r : Panel) → OfSegment.Knows (sizes q) (SegmentMove.move (sizes q) e) k.segment r.segment → r.character ≡ k.character
    → After (in_family q) e k r
segment_after Pt6312 e k r h o = record { known = h; kept = o }
segment_after Pt6315 e k r h o = record { known = h; kept = o }

pub hears_as : (a b : PartRead) (e : Event) (k : Panel) (r : Heard) → a ≡ b → Hears a e k r → Hears b e k r
hears_as a b e k r p h = subst (λ (x : PartRead). Hears x e k r) p h

module _ (p : Part) (e : Event) (k : Panel) (a : Answer) where
  -- Answered by 0: the event is done, and the knowledge after it is the answer's.
  pub heard_done : (r : Panel) → Answers p e k a → number a ≡ 0 → After p e k r → HearsPart p e k (record { answer = a; panel = r })
  heard_done r h z after = where_map (by (event_number p e)) (by 2) h
    where
      by : (n : ℕ) → Numbered n a → HeardBy n p e k (record { answer = a; panel = r })
      by zero h = record { numbered = h.numbered; placed = h.placed; after = after }
      by (suc n) h = absurd (let x = sym h.numbered ∙ z in omega (arith, x))

  -- Answered by another number: refused, and the knowledge comes back.
  pub heard_refused : Answers p e k a → (number a ≡ 0 → ⊥) → HearsPart p e k (record { answer = a; panel = k })
  heard_refused h never = where_map (by (event_number p e)) (by 2) h
    where
      by : (n : ℕ) → Numbered n a → HeardBy n p e k (record { answer = a; panel = k })
      by zero h = absurd (never h.numbered)
      by (suc n) h = record { numbered = h.numbered; placed = h.placed; kept = refl }
