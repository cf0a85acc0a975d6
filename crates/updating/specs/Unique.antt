-- Two answers of an update that meet its promise are equal. The argument: number, place and count fix the answer, the output is told byte for byte, and
-- what is refused or sent goes by the same conditions for both. What is known then is told fact by fact, or as handed in.
use Rattle.std.specs.Prelude.{ℕ, zero, suc, ◌≡◌, refl, List, Ok, Err}
use Rattle.std.proofs.Common.{sym, ◌∙◌}
use Rattle.rules.specs.Where.{where_both}
use Rattle.terms.specs.declared.Place.{Place}
use Rattle.terms.specs.declared.Part.TheVariants.{Pt6302, Pt6312, Pt6315}
use Rattle.terms.specs.Part.{PartRead}
use Rattle.segment.specs.declared.Family.{Family}
use Rattle.segment.specs.declared.Family.TheVariants as OfFamily
use Rattle.segment_knowledge.specs.declared.Knowledge.{Knowledge}
use Rattle.panel.specs.declared.Panel.{Panel}
use Rattle.panel.specs.Unique.{Shaped, same_panel}
use Rattle.updating.specs.declared.Refreshed.{Refreshed}
use Rattle.updating.specs.declared.NotUpdated.TheVariants.{NoPart, OutOfRange, TooSmall}
use Rattle.updating.specs.Answer.{Updated, number, place, count, RefusedBy, Sent, UpdatesSegment, Updates}
use Rattle.updating.specs.Refresh.{KnownThen, Refreshes}

-- The answer with a number, a place and a count, and that every answer is the one with its own.
back : ℕ → Place → ℕ → Updated
back zero at n = Ok (record { length = at; wire = n })
back (suc zero) at n = Err (NoPart at)
back (suc (suc zero)) at n = Err (OutOfRange at)
back (suc (suc (suc m))) at n = Err (TooSmall at)

read_back : (r : Updated) → back (number r) (record { 0 = place r }) (count r) ≡ r
unfolding back
read_back (Ok size) = refl
read_back (Err (NoPart at)) = refl
read_back (Err (OutOfRange at)) = refl
read_back (Err (TooSmall at)) = refl

same_updated : (r q : Updated) → number r ≡ number q → place r ≡ place q → count r ≡ count q → r ≡ q
same_updated r q n p c = sym (read_back r) ∙ (λ i. back (n i) (record { 0 = p i }) (c i)) ∙ read_back q

module _ (out : List ℕ) (r q : Updated) (after after' : List ℕ) where
  one_refusal : (n : ℕ) → RefusedBy n out r after → RefusedBy n out q after' → (r ≡ q) × (after ≡ after')
  one_refusal n h g =
      (same_updated r q (h.numbered ∙ sym g.numbered) (h.placed ∙ sym g.placed) (h.counted ∙ sym g.counted), h.kept ∙ sym g.kept)

  one_sent : (stream : List ℕ) (n : ℕ) → Sent stream n out r after → Sent stream n out q after' → (r ≡ q) × (after ≡ after')
  one_sent stream n h g =
      (same_updated r q (h.numbered ∙ sym g.numbered) (h.placed ∙ sym g.placed) (h.counted ∙ sym g.counted), h.wrote ∙ sym g.wrote)

  one_segment : (f : Family) (k : Knowledge) (w : List ℕ) → UpdatesSegment f k w out r after → UpdatesSegment f k w out q after' → (r ≡ q) × (after ≡ after')
  one_segment f k w h g = where_both (where_both (one_sent _ _) (one_refusal 10)) (one_refusal 2) h g

-- Two answers of one update are one, and so are the outputs.
pub one_update : (part : PartRead) (k : Panel) (w out : List ℕ) (r q : Updated) (after after' : List ℕ) → Updates part k w out r after → Updates part k w out q after'
    → (r ≡ q) × (after ≡ after')
one_update (Ok Pt6302) k w out r q after after' h g = one_refusal out r q after after' 1 h g
one_update (Ok Pt6312) k w out r q after after' h g = one_segment out r q after after' OfFamily.Pt6312 k.segment w h g
one_update (Ok Pt6315) k w out r q after after' h g = one_segment out r q after after' OfFamily.Pt6315 k.segment w h g
one_update (Err e) k w out r q after after' h g = one_refusal out r q after after' 1 h g

-- What is known then is one.
one_known : (part : PartRead) (n : ℕ) (k : Panel) (w : List ℕ) (r q : Panel) → Shaped r → Shaped q → KnownThen part n k w r → KnownThen part n k w q → r ≡ q
one_known (Ok p) zero k w r q sr sq h g = same_panel p k r q sr sq (λ f. h.0 f ∙ sym (g.0 f)) h.1 g.1
one_known (Ok p) (suc n) k w r q sr sq h g = h ∙ sym g
one_known (Err e) n k w r q sr sq h g = h ∙ sym g

-- Two answers of one update with what is known then are one, and so are the outputs.
pub one_refreshed : (part : PartRead) (k : Panel) (w out : List ℕ) (r q : Refreshed) (after after' : List ℕ) → Shaped r.panel → Shaped q.panel
    → Refreshes part k w out r after → Refreshes part k w out q after' → (r ≡ q) × (after ≡ after')
one_refreshed part k w out r q after after' sr sq (h, x) (g, y) =
    let (answers, outputs) = one_update part k w out r.answer q.answer after after' h g in
    let panels = one_known part (number q.answer) k w r.panel q.panel sr sq (rw answers at x) y in
    (λ i. record { answer = answers i; panel = panels i }, outputs)
