-- What the tail finder is for: behind its last gap a recording tells all that it tells. The argument: a gap leaves
-- nothing known, whatever was known before it, and so what the whole recording makes of any start is what the records
-- behind its last gap make of knowing nothing.
use Rattle.std.specs.Prelude.{ℕ, ◌+◌, ◌≡◌, refl, true, false, List, ◌∷◌, ◌++◌, map, length, drop, Ok}
use Rattle.std.proofs.Common.{arith, sym, ap, ◌∙◌, subst, length-drop, le-ltb}
use Rattle.std.proofs.Math.Path.{subst⁻¹}
use Rattle.std.proofs.lemmas.List.{map-append}
use Rattle.rules.specs.Rule.{Rule}
use Rattle.rules.specs.Range.{Good}
use Rattle.rules.specs.Turn.{Ends}
use Rattle.knowing.specs.Standing.{Standing, unknown, Agrees, Fits, Within, Sound}
use Rattle.knowing.specs.Know.{know}
use Rattle.knowing.specs.Turn.{in_turn, in_turn_same, in_turn_append}
use Rattle.terms.specs.declared.Event.{Event}
use Rattle.terms.specs.declared.Event.TheVariants.{Gap}
use Rattle.terms.specs.Event.{Bytes}
use Rattle.terms.specs.Part.{PartRead, part_of}
use Rattle.terms.specs.declared.Part.{Part}
use Rattle.terms.specs.declared.Part.TheVariants.{Pt6302, Pt6312, Pt6315}
use Rattle.recording.specs.Walk.{walked, events, behind_gap}
use Rattle.parts.specs.Facts.{Fact, same?, range, move}
use Rattle.parts.specs.Laws.{two, ranged}
use Rattle.panel.specs.declared.Panel.{Panel}
use Rattle.panel.specs.View.{known_of, KnowsNothing}
use Rattle.replay.specs.declared.replays.Replayed.{Replayed}
use Rattle.answers.specs.Answer.{number}
use Rattle.recording.specs.Laws.{part_from}
use Rattle.replay.specs.Replay.{PartDone, Replays}
use Rattle.replay.specs.ByPart.{Acceptable, replays_by, accepted, accepts}
use Rattle.tail.specs.Tail.{found_by, found, tail_of, part_of_found}
use Rattle.tail.specs.declared.gaps.Found.{Found}
use Rattle.whole.specs.Sentence.{has_gap}
use Rattle.whole.specs.Whole.{ends_fit}
use Rattle.demand.specs.Recording.{AllBytes, events_from, moves_from}
use Rattle.demand.proofs.Bytes.{carry}
use Rattle.demand.specs.Gaps.{Behind, ByGap, last_gap}

-- A gap leaves nothing known.
gap_forgets : (p : Part) (k : Fact p → Standing) (f : Fact p) → know (same? p) (range p) (move p Gap) k f ≡ unknown
gap_forgets Pt6302 k f = refl
gap_forgets Pt6312 k f = refl
gap_forgets Pt6315 k f = refl

nothing_of : (p : Part) (n : Panel) → KnowsNothing n → (f : Fact p) → known_of p n f ≡ unknown
nothing_of Pt6302 n h = h.character
nothing_of Pt6312 n h = h.segment
nothing_of Pt6315 n h = h.segment

-- What events with a gap among them make of a knowledge is what those behind the gap make of knowing nothing.
from_nothing : (p : Part) (before after : List Event) (k n : Fact p → Standing) → ((f : Fact p) → n f ≡ unknown) → (f : Fact p)
    → in_turn (same? p) (range p) (map (move p) (before ++ (Gap ∷ after))) k f ≡ in_turn (same? p) (range p) (map (move p) after) n f
from_nothing p before after k n nothing f =
    ap (λ (rules : List (Rule (Fact p) (Fact p))). in_turn (same? p) (range p) rules k f) (map-append (move p) before (Gap ∷ after))
    ∙ in_turn_append (same? p) (range p) (map (move p) before) (map (move p) (Gap ∷ after)) k f
    ∙ in_turn_same (same? p) (range p) (map (move p) after) _ n (λ g. gap_forgets p _ g ∙ sym (nothing g)) f

module _ (b : ℕ) (p : Part) (named : part_of b ≡ Ok p) (k : Panel) (l : List ℕ) (r : Replayed)
    (met : Replays (part_of b) k l 0 r) (zero : number r.answer ≡ 0) where
  acceptable : Acceptable p k l 0
  acceptable = (accepted p k l 0 r (replays_by k l 0 r (part_of b) p named met) zero).0

  done : PartDone p (events_from p 0 l) k l r
  done = (accepted p k l 0 r (replays_by k l 0 r (part_of b) p named met) zero).1

  -- What `find_tail` finds in it: the part from behind the last gap to the end.
  found_behind : found (part_of b) l ≡ found_by p l (Ok tt)
  found_behind =
      ap (λ (q : PartRead). found q l) named
      ∙ rw (le-ltb 65535 (length l) acceptable.short) (ap (found_by p l) acceptable.ends)

  tail_behind : tail_of (part_of b) l ≡ drop (behind_gap 0 (walked p l)) l
  tail_behind = ap (λ (x : Found). part_of_found x l) found_behind ∙ part_from (behind_gap 0 (walked p l)) l

  -- Without a gap the tail is the whole recording.
  pub tail_is_whole : has_gap (events_from p 0 l) ≡ false → tail_of (part_of b) l ≡ l
  tail_is_whole g =
      let none : behind_gap 0 (walked p l) ≡ 0 = subst (λ (t : _). ByGap t p 0 0 l (walked p l)) g (last_gap p l acceptable.ends) in
      tail_behind ∙ ap (λ (i : ℕ). drop i l) none

  module _ (gap : has_gap (events_from p 0 l) ≡ true) where
    behind : Behind p 0 l (walked p l) (behind_gap 0 (walked p l))
    behind = subst (λ (t : _). ByGap t p 0 0 l (walked p l)) gap (last_gap p l acceptable.ends)

    place_behind : behind_gap 0 (walked p l) ≡ behind.skipped
    place_behind =
        let z : 0 + behind.skipped ≡ behind.skipped = omega arith in
        behind.placed ∙ z

    bytes_behind : tail_of (part_of b) l ≡ drop behind.skipped l
    bytes_behind = tail_behind ∙ ap (λ (i : ℕ). drop i l) place_behind

    -- What the records behind the gap make of knowing nothing is what the whole recording has made of k.
    same_known : (n : Fact p → Standing) → ((f : Fact p) → n f ≡ unknown) → (f : Fact p)
        → in_turn (same? p) (range p) (map (move p) (events (walked p (drop behind.skipped l)))) n f ≡ known_of p r.panel f
    same_known n nothing f =
        sym (done.known f
        ∙ ap (λ (es : List Event). in_turn (same? p) (range p) (map (move p) es) (known_of p k) f) behind.parted
        ∙ from_nothing p behind.before (events (walked p (drop behind.skipped l))) (known_of p k) n nothing f)

    -- A chip, whatever its state at the last gap, fits what is known at the end, once it has moved by the records behind
    -- the gap in any way that the rules allow.
    pub gap_fits : AllBytes l → (c x : Fact p → ℕ) → Good (range p) c → Ends (range p) (moves_from p 0 (tail_of (part_of b) l)) c x
        → Fits (known_of p r.panel) x
    gap_fits bytes c x good ends f =
        subst (λ (s : Standing). Agrees s (x f)) (same_known (λ _. unknown) (λ _. refl) f)
        (ends_fit (same? p) (range p) (two p) (move p) Bytes (ranged p) (events (walked p (drop behind.skipped l))) (λ _. unknown)
        (carry p behind.skipped l bytes) (λ _. tt) c x good (λ _. tt)
        (subst (λ (y : List ℕ). Ends (range p) (moves_from p 0 y) c x) bytes_behind ends) f)

  module _ (gap : has_gap (events_from p 0 l) ≡ true) (n : Panel) (nothing : KnowsNothing n) (q : Replayed) where
    in_range : Sound (range p) (known_of p n)
    in_range f = subst⁻¹ (Within (range p f)) (nothing_of p n nothing f) tt

    -- With a gap, the tail replayed from knowing nothing is accepted, and ends knowing exactly what the whole
    -- recording makes of k, fact by fact.
    pub tail_is_enough : Replays (part_of b) n (tail_of (part_of b) l) 0 q
        → (number q.answer ≡ 0) × ((f : Fact p) → known_of p q.panel f ≡ known_of p r.panel f)
    tail_is_enough again =
        let length-is = length-drop (behind gap).skipped l in
        let short = acceptable.short in
        let d =
        accepts p n (drop (behind gap).skipped l) 0 q
        (replays_by n (drop (behind gap).skipped l) 0 q (part_of b) p named (subst (λ (x : List ℕ). Replays (part_of b) n x 0 q) (bytes_behind gap) again))
        (record { in_range = in_range; short = omega (arith, length-is, short); within = omega arith; ends = (behind gap).ends }) in
        (d.numbered, λ f. d.known f ∙ same_known gap (known_of p n) (nothing_of p n nothing) f)

    -- So does the recording itself, replayed from the place where the tail starts.
    pub tail_place_is_enough : Replays (part_of b) n l (found (part_of b) l).start.0 q
        → (number q.answer ≡ 0) × ((f : Fact p) → known_of p q.panel f ≡ known_of p r.panel f)
    tail_place_is_enough again =
        let at : (found (part_of b) l).start.0 ≡ (behind gap).skipped = ap (λ (x : Found). x.start.0) found_behind ∙ place_behind gap in
        let d =
        accepts p n l (behind gap).skipped q
        (replays_by n l (behind gap).skipped q (part_of b) p named (subst (λ (i : ℕ). Replays (part_of b) n l i q) at again))
        (record { in_range = in_range; short = acceptable.short; within = (behind gap).inside; ends = (behind gap).ends }) in
        (d.numbered, λ f. d.known f ∙ same_known gap (known_of p n) (nothing_of p n nothing) f)
