-- One row of bytes behind another. The argument: the walk over both has the first one's events and goes on from where it
-- stood (`recording/Cut`), and events in turn are what they are in one row.
use Rattle.std.specs.Prelude.{ℕ, ◌+◌, ◌≡◌, refl, List, ◌++◌}
use Rattle.std.proofs.Common.{sym, ◌∙◌, subst}
use Rattle.terms.specs.declared.Event.{Event}
use Rattle.terms.specs.declared.Part.{Part}
use Rattle.terms.specs.declared.Part.TheVariants.{Pt6302, Pt6312, Pt6315}
use Rattle.recording.specs.Walk.{walked, events, end_of, Ending}
use Rattle.recording.specs.Cut.{stands_at, left_by, Open, cut_open, cut_told, left_behind}
use Rattle.walks.specs.Turn.{InTurn, turn_on}
use Rattle.parts.specs.Facts.{same?, range, move}
use Rattle.panel.specs.declared.Panel.{Panel}
use Rattle.panel.specs.View.{known_of, OtherKept}
use Rattle.account_ends.specs.Ended.{Goes, ByEnd}
use Rattle.account_ends.specs.Laws.{end_on, end_told, end_goes}
use Rattle.packets.specs.declared.records.Taken.{Taken}
use Rattle.packets.specs.Takes.{ends, ReadsRow}

-- The half that speaks of the other parts, kept twice.
pub other_on : (p : Part) (k n r : Panel) → OtherKept p k n → OtherKept p n r → OtherKept p k r
other_on Pt6302 k n r h g = g ∙ h
other_on Pt6312 k n r h g = g ∙ h
other_on Pt6315 k n r h g = g ∙ h

-- The same row in other words.
pub row_as : (p : Part) (k : Panel) {first place before after total : ℕ} {l m : List ℕ} {r : Taken} → first ≡ place → after ≡ total → l ≡ m
    → ReadsRow p k first before after l r → ReadsRow p k place before total m r
row_as p k {first} {place} {before} {after} {total} {l} {m} {r} a b c h =
    subst (λ (x : List ℕ). ReadsRow p k place before total x r) c
    (subst (λ (t : ℕ). ReadsRow p k place before t l r) b (subst (λ (n : ℕ). ReadsRow p k n before after l r) a h))

pub other_same : (p : Part) (k : Panel) → OtherKept p k k
other_same Pt6302 k = refl
other_same Pt6312 k = refl
other_same Pt6315 k = refl

-- The first row leaves something or nothing, and the second row follows.
pub row_on : (p : Part) (k n : Panel) (first before after : ℕ) (l m : List ℕ) (r : Taken)
    → InTurn (known_of p) (same? p) (range p) (move p) (events (walked p l)) k n → OtherKept p k n → Open (end_of (walked p l))
    → ReadsRow p n (first + stands_at (end_of (walked p l)) l) before after (left_by (end_of (walked p l)) l ++ m) r
    → ReadsRow p k first before after (l ++ m) r
row_on p k n first before after l m r known kept o h =
    let s = stands_at (end_of (walked p l)) l in
    let v = left_by (end_of (walked p l)) l ++ m in
    let g = cut_open p l m o in
    record {
      ended = subst (λ (e : Ending). ByEnd e first before after (l ++ m) (ends r)) (sym g.ends) (end_on first before after s (l ++ m) v (ends r) (left_behind p l m o) (end_of (walked p v)) h.ended);
      known = turn_on (known_of p) (same? p) (range p) (move p) (events (walked p l)) (events (walked p v)) (events (walked p (l ++ m))) k n r.feed.panel g.same known h.known;
      kept = other_on p k n r.feed.panel kept h.kept;
    }

-- The first row is refused: so are both.
pub row_told : (p : Part) (k : Panel) (first before after total : ℕ) (l m : List ℕ) (r : Taken) → (Open (end_of (walked p l)) → ⊥)
    → ReadsRow p k first before after l r → ReadsRow p k first before total (l ++ m) r
row_told p k first before after total l m r shut h =
    let g = cut_told p l m shut in
    record {
      ended = subst (λ (e : Ending). ByEnd e first before total (l ++ m) (ends r)) (sym g.1) (end_told first before after total l (l ++ m) (ends r) (end_of (walked p l)) shut h.ended);
      known = subst (λ (es : List Event). InTurn (known_of p) (same? p) (range p) (move p) es k r.feed.panel) (sym g.0) h.known;
      kept = h.kept;
    }

-- Nothing told against a row: the answer, and what it left.
pub row_goes : (p : Part) (k : Panel) (first before after : ℕ) (l : List ℕ) (r : Taken) → Open (end_of (walked p l))
    → ReadsRow p k first before after l r → Goes after (left_by (end_of (walked p l)) l) (ends r)
row_goes p k first before after l r o h = end_goes first before after l (ends r) (end_of (walked p l)) o h.ended
