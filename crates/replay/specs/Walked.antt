-- What a walk over the records leads to: the answer, and the knowledge, of which only the part's own half is another.
use Rattle.std.specs.Prelude.{ℕ, ◌+◌, ◌≡◌, refl, List, length, drop, Ok, Err}
use Rattle.std.proofs.Common.{sym, ap, ◌∙◌, subst}
use Rattle.std.proofs.Math.Path.{subst⁻¹}
use Rattle.terms.specs.declared.Part.{Part}
use Rattle.terms.specs.declared.Part.TheVariants.{Pt6302}
use Rattle.terms.specs.declared.Place.{Place}
use Rattle.recording.specs.Walk.{walked, end_of, Ending, stop_of}
use Rattle.recording.specs.declared.Refusal.{Refusal}
use Rattle.segment.specs.declared.Family.{Family}
use Rattle.segment.specs.declared.Family.TheVariants.{Pt6312, Pt6315}
use Rattle.segment_walks.specs.Walks as OfSegment
use Rattle.walks.specs.declared.Walked.{Walked}
use Rattle.character_knowledge.specs.declared.Knowledge.{Knowledge as Characters}
use Rattle.segment_knowledge.specs.declared.Knowledge.{Knowledge as Segments}
use Rattle.character_walks.specs.Walks as OfCharacter
use Rattle.parts.specs.Kind.{in_family}
use Rattle.panel.specs.declared.Panel.{Panel}
use Rattle.answers.specs.Answer.{number, place, refused_as_lem, Answer}
use Rattle.answers.specs.Ended.{ended_as}
use Rattle.replay.specs.Replay.{ReplaysFrom, ends_by}

module _ (k : Panel) (l : List ℕ) (start : ℕ) (a : Answer) where
  -- The records are refused: the knowledge is as it was.
  pub stopped : (p : Part) (e : Ending) (x : Refusal) (at : Place) → e ≡ end_of (walked p (drop start l)) → e ≡ Err (stop_of x at) → a ≡ ended_as e start (length l)
      → ReplaysFrom p k l start (record { answer = a; panel = k })
  stopped p e x at w told h =
      let n = refused_as_lem x (record { 0 = start + at.0 }) a (h ∙ ap (λ (y : Ending). ended_as y start (length l)) told) in
      ends_by (Err (stop_of x at)) (end_of (walked p (drop start l))) start k (record { answer = a; panel = k }) _ (sym told ∙ w)
      (record { numbered = n.0; placed = n.1; kept = refl })

  answered : (e : Ending) → e ≡ Ok tt → a ≡ ended_as e start (length l) → (number a ≡ 0) × (place a ≡ length l)
  answered e told h = let d = h ∙ ap (λ (y : Ending). ended_as y start (length l)) told in (ap number d, ap place d)

  -- They end, for PT6302.
  pub characters_done : (w : Walked Characters) → OfCharacter.Walks Pt6302 k.character (drop start l) w → w.ending ≡ Ok tt → a ≡ ended_as w.ending start (length l)
      → ReplaysFrom Pt6302 k l start (record { answer = a; panel = record { segment = k.segment; character = w.k } })
  characters_done w h told e =
      let n = answered w.ending told e in
      ends_by (Ok tt) (end_of (walked Pt6302 (drop start l))) start k _ _ (sym told ∙ h.ended) (record { numbered = n.0; placed = n.1; known = h.known; kept = refl })

  by_family : (f : Family) (w : Walked Segments) → OfSegment.Walks (in_family f) f k.segment (drop start l) w → w.ending ≡ Ok tt → a ≡ ended_as w.ending start (length l)
      → ReplaysFrom (in_family f) k l start (record { answer = a; panel = record { segment = w.k; character = k.character } })
  by_family Pt6312 w h told e =
      let n = answered w.ending told e in
      ends_by (Ok tt) (end_of (walked (in_family Pt6312) (drop start l))) start k _ _ (sym told ∙ h.ended) (record { numbered = n.0; placed = n.1; known = h.known; kept = refl })
  by_family Pt6315 w h told e =
      let n = answered w.ending told e in
      ends_by (Ok tt) (end_of (walked (in_family Pt6315) (drop start l))) start k _ _ (sym told ∙ h.ended) (record { numbered = n.0; placed = n.1; known = h.known; kept = refl })

  -- And for PT6312 and PT6315, each by its own numbers.
  pub segments_done : (f : Family) (p : Part) → p ≡ in_family f → (w : Walked Segments) → OfSegment.Walks p f k.segment (drop start l) w → w.ending ≡ Ok tt
      → a ≡ ended_as w.ending start (length l) → ReplaysFrom p k l start (record { answer = a; panel = record { segment = w.k; character = k.character } })
  segments_done f p is w h told e =
      subst⁻¹ (λ (x : Part). ReplaysFrom x k l start (record { answer = a; panel = record { segment = w.k; character = k.character } })) is
      (by_family f w (subst (λ (x : Part). OfSegment.Walks x f k.segment (drop start l) w) is h) told e)
