-- A recording cut anywhere. The argument: whatever the record at the front is told to be before its bytes run out, more
-- bytes behind them change nothing of it; so a walk over more bytes goes as far as the walk over fewer, and then on from
-- where that one stood.
use Rattle.std.specs.Prelude.{ℕ, zero, suc, ◌+◌, ◌<◌, ◌≤◌, ◌≡◌, refl, List, [], ◌∷◌, ◌++◌, length, drop, get_or, Ok, Err}
use Rattle.std.proofs.Common.{arith, sym, ap, ◌∙◌, subst, length-drop, length-append, drop-drop}
use Rattle.std.proofs.Math.Seq.{drop-append_seam}
use Rattle.std.proofs.lemmas.List.{drop-append-le}
use Rattle.terms.specs.declared.Event.{Event}
use Rattle.terms.specs.declared.Part.{Part}
use Rattle.terms.specs.declared.Place.{Place}
use Rattle.recording.specs.declared.Refusal.{Refusal}
use Rattle.recording.specs.declared.Refusal.TheVariants.{Unlisted, Foreign, CutShort, Forbidden}
use Rattle.recording.specs.Record.{front, place_within, Read, record_of}
use Rattle.recording.specs.Walk.{walked, events, end_of, Ending, stop_of}
use Rattle.recording.specs.Steps.{rest_next, rest_stops, stops_there}
use Rattle.recording.specs.Tests.{record_fits}
use Rattle.recording.specs.Points.{stops_within}
use Rattle.recording.specs.Append.{Told, get_d_append, front_append, shifted, shift_shift, from_place}

-- Where a walk over l stands at its end, if it is open (below): behind the last byte, or at the first byte of a record that is
-- cut short, which 7 points at.
abbrev pub stands_at : Ending → List ℕ → ℕ
stands_at (Ok u) l = length l
stands_at (Err s) l = s.at.0

-- What is left for later: the bytes of a record that is cut short, and of no other.
abbrev pub left_of : Refusal → List ℕ → List ℕ
left_of Unlisted l = []
left_of Foreign l = []
left_of CutShort l = l
left_of Forbidden l = []

abbrev pub left_by : Ending → List ℕ → List ℕ
left_by (Ok u) l = []
left_by (Err s) l = left_of s.refusal (drop s.at.0 l)

-- No record is refused by 5, 6 or 8: the bytes end behind a record, or inside one.
abbrev pub OpenAt : Refusal → Type 0
OpenAt Unlisted = ⊥
OpenAt Foreign = ⊥
OpenAt CutShort = Unit
OpenAt Forbidden = ⊥

abbrev pub Open : Ending → Type 0
Open (Ok u) = Unit
Open (Err s) = OpenAt s.refusal

-- The walk over l has these events, and then goes on as the walk over v, n places on.
pub record GoesOn (p : Part) (l : List ℕ) (es : List Event) (n : ℕ) (v : List ℕ) : Type 0 where
  pub same : events (walked p l) ≡ es ++ events (walked p v)
  pub ends : end_of (walked p l) ≡ shifted n (end_of (walked p v))

module _ (p : Part) (l : List ℕ) (some : 0 < length l) where
  -- A record at the front, and the walk over what is behind it.
  pub walked_next : (e : Event) (k : ℕ) → front p l ≡ Ok (record_of e k) → GoesOn p l (e ∷ []) k (drop k l)
  walked_next e k q =
      let z : 0 + k ≡ k = omega arith in
      let n = rest_next p l 0 e k some q in
      let f = from_place (length (drop (0 + k) l)) p (0 + k) (drop (0 + k) l) in
      record {
        same = ap events n ∙ ap (λ (es : List Event). e ∷ es) (f.same ∙ ap (λ (i : ℕ). events (walked p (drop i l))) z);
        ends = ap end_of n ∙ f.ends ∙ ap (λ (i : ℕ). shifted i (end_of (walked p (drop i l)))) z;
      }

  -- No record at the front.
  pub walked_stops : (x : Refusal) → front p l ≡ Err x
      → (events (walked p l) ≡ []) × (end_of (walked p l) ≡ Err (stop_of x (record { 0 = place_within x (get_or l 0 0) })))
  walked_stops x q =
      let n = rest_stops p l 0 x some q in
      (ap events n, ap end_of n ∙ stops_there x (record { 0 = 0 + place_within x (get_or l 0 0) }) (place_within x (get_or l 0 0)) (omega arith))

-- What a walk over l comes to when m follows.
abbrev Behind : Part → Ending → List ℕ → List ℕ → Type 0
Behind p e l m =
    (Open e → GoesOn p (l ++ m) (events (walked p l)) (stands_at e l) (left_by e l ++ m))
    × ((Open e → ⊥) → (events (walked p (l ++ m)) ≡ events (walked p l)) × (end_of (walked p (l ++ m)) ≡ e))

shift_none : (e : Ending) → e ≡ shifted 0 e
shift_none (Ok u) = refl
shift_none (Err s) = stops_there s.refusal s.at (0 + s.at.0) (omega arith)

pub open_back : (k : ℕ) (e : Ending) → Open (shifted k e) → Open e
open_back k (Ok u) o = o
open_back k (Err s) o = o

pub open_on : (k : ℕ) (e : Ending) → Open e → Open (shifted k e)
open_on k (Ok u) o = o
open_on k (Err s) o = o

stand_on : (k : ℕ) (e : Ending) (l : List ℕ) → k ≤ length l → k + stands_at e (drop k l) ≡ stands_at (shifted k e) l
stand_on k (Ok u) l h = let d = length-drop k l in omega (arith, d)
stand_on k (Err s) l h = refl

left_on : (k : ℕ) (e : Ending) (l : List ℕ) → left_by e (drop k l) ≡ left_by (shifted k e) l
left_on k (Ok u) l = refl
left_on k (Err s) l = ap (left_of s.refusal) (drop-drop s.at.0 k l)

-- One record more in front.
module _ (p : Part) (l m : List ℕ) (some : 0 < length l) (e : Event) (k : ℕ) (q : front p l ≡ Ok (record_of e k)) where
  first : GoesOn p l (e ∷ []) k (drop k l)
  first = walked_next p l some e k q

  both : GoesOn p (l ++ m) (e ∷ []) k (drop k l ++ m)
  both =
      let a = length-append l m in
      let f = record_fits p l e k q in
      subst (λ (v : List ℕ). GoesOn p (l ++ m) (e ∷ []) k v) (drop-append-le k l m f.1)
      (walked_next p (l ++ m) (omega (arith, a)) e k (front_append p l m (Ok (record_of e k)) tt some q))

  step : (x : Ending) → Behind p x (drop k l) m → Behind p (shifted k x) l m
  step x h = (goes, stays)
    where
      goes : Open (shifted k x) → GoesOn p (l ++ m) (events (walked p l)) (stands_at (shifted k x) l) (left_by (shifted k x) l ++ m)
      goes o =
          let g = h.0 (open_back k x o) in
          let v = left_by x (drop k l) ++ m in
          let f = record_fits p l e k q in
          let there : GoesOn p (l ++ m) (events (walked p l)) (k + stands_at x (drop k l)) v = record {
            same = both.same ∙ ap (λ (es : List Event). e ∷ es) g.same ∙ ap (λ (es : List Event). es ++ events (walked p v)) (sym first.same);
            ends = both.ends ∙ ap (shifted k) g.ends ∙ shift_shift k (stands_at x (drop k l)) (end_of (walked p v));
          } in
          subst (λ (n : ℕ). GoesOn p (l ++ m) (events (walked p l)) n (left_by (shifted k x) l ++ m)) (stand_on k x l f.1)
          (subst (λ (u : List ℕ). GoesOn p (l ++ m) (events (walked p l)) (k + stands_at x (drop k l)) (u ++ m)) (left_on k x l) there)

      stays : (Open (shifted k x) → ⊥) → (events (walked p (l ++ m)) ≡ events (walked p l)) × (end_of (walked p (l ++ m)) ≡ shifted k x)
      stays shut =
          let g = h.1 (λ o. shut (open_on k x o)) in
          (both.same ∙ ap (λ (es : List Event). e ∷ es) g.0 ∙ sym first.same, both.ends ∙ ap (shifted k) g.1)

-- No record in front.
stopped : (p : Part) (l m : List ℕ) (x : Refusal) → 0 < length l → front p l ≡ Err x → Behind p (Err (stop_of x (record { 0 = place_within x (get_or l 0 0) }))) l m
stopped p l m x some q = go x q
  where
    a : length (l ++ m) ≡ length l + length m
    a = length-append l m

    shut : (y : Refusal) → Told (Err y) → front p l ≡ Err y
        → (events (walked p (l ++ m)) ≡ events (walked p l)) × (end_of (walked p (l ++ m)) ≡ Err (stop_of y (record { 0 = place_within y (get_or l 0 0) })))
    shut y told r =
        let w = walked_stops p l some y r in
        let v = walked_stops p (l ++ m) (omega (arith, a)) y (front_append p l m (Err y) told some r) in
        (v.0 ∙ sym w.0, v.1 ∙ stops_there y (record { 0 = place_within y (get_or (l ++ m) 0 0) }) (place_within y (get_or l 0 0)) (ap (place_within y) (sym (get_d_append l m 0 some))))

    go : (y : Refusal) → front p l ≡ Err y → Behind p (Err (stop_of y (record { 0 = place_within y (get_or l 0 0) }))) l m
    go Unlisted r = (λ o. absurd o, λ _. shut Unlisted tt r)
    go Foreign r = (λ o. absurd o, λ _. shut Foreign tt r)
    go CutShort r = (
      λ o. record {
        same = ap (λ (es : List Event). es ++ events (walked p (l ++ m))) (sym (walked_stops p l some CutShort r).0);
        ends = shift_none (end_of (walked p (l ++ m)));
      },
      λ no_way. absurd (no_way tt),
    )
    go Forbidden r = (λ o. absurd o, λ _. shut Forbidden tt r)

nothing : (p : Part) (m : List ℕ) → Behind p (Ok tt) [] m
nothing p m = (λ o. record { same = refl; ends = shift_none (end_of (walked p m)) }, λ no_way. absurd (no_way tt))

behind : (n : ℕ) (p : Part) (l m : List ℕ) → length l ≤ n → Behind p (end_of (walked p l)) l m
behind zero p [] m h = nothing p m
behind zero p (b ∷ l) m h = absurd (omega arith)
behind (suc n) p [] m h = nothing p m
behind (suc n) p (b ∷ l) m h = go (front p (b ∷ l)) refl (λ k x. behind n p (drop k (b ∷ l)) m x)
  where
    go : (r : Read) → front p (b ∷ l) ≡ r → ((k : ℕ) → length (drop k (b ∷ l)) ≤ n → Behind p (end_of (walked p (drop k (b ∷ l)))) (drop k (b ∷ l)) m)
        → Behind p (end_of (walked p (b ∷ l))) (b ∷ l) m
    go (Ok it) q ih =
        let f = record_fits p (b ∷ l) it.event it.length q in
        let d = length-drop it.length (b ∷ l) in
        let w = walked_next p (b ∷ l) (omega arith) it.event it.length q in
        subst (λ (x : Ending). Behind p x (b ∷ l) m) (sym w.ends)
        (step p (b ∷ l) m (omega arith) it.event it.length q (end_of (walked p (drop it.length (b ∷ l)))) (ih it.length (omega (arith, f, d))))
    go (Err x) q ih =
        let w = walked_stops p (b ∷ l) (omega arith) x q in
        subst (λ (y : Ending). Behind p y (b ∷ l) m) (sym w.1) (stopped p (b ∷ l) m x (omega arith) q)

module _ (p : Part) (l m : List ℕ) where
  -- Nothing told against l: the walk over l and m has l's events, and goes on with what l left, and m behind it.
  pub cut_open : Open (end_of (walked p l))
      → GoesOn p (l ++ m) (events (walked p l)) (stands_at (end_of (walked p l)) l) (left_by (end_of (walked p l)) l ++ m)
  cut_open = (behind (length l) p l m (omega arith)).0

  -- A record of l is refused by 5, 6 or 8: whatever follows, the walk ends there.
  pub cut_told : (Open (end_of (walked p l)) → ⊥)
      → (events (walked p (l ++ m)) ≡ events (walked p l)) × (end_of (walked p (l ++ m)) ≡ end_of (walked p l))
  cut_told = (behind (length l) p l m (omega arith)).1

-- What is left stands behind where the walk stood, and whatever follows stands behind that.
module _ (p : Part) (l m : List ℕ) where
  pub left_behind : Open (end_of (walked p l)) → drop (stands_at (end_of (walked p l)) l) (l ++ m) ≡ left_by (end_of (walked p l)) l ++ m
  left_behind = by (end_of (walked p l)) refl
    where
      stopped_at : (x : Refusal) (at : Place) → end_of (walked p l) ≡ Err (stop_of x at) → OpenAt x → drop at.0 (l ++ m) ≡ left_of x (drop at.0 l) ++ m
      stopped_at Unlisted at q o = absurd o
      stopped_at Foreign at q o = absurd o
      stopped_at CutShort at q o = let h = stops_within p l CutShort at q in drop-append-le at.0 l m (omega (arith, h))
      stopped_at Forbidden at q o = absurd o

      by : (e : Ending) → end_of (walked p l) ≡ e → Open e → drop (stands_at e l) (l ++ m) ≡ left_by e l ++ m
      by (Ok u) q o = drop-append_seam l m
      by (Err s) q o = stopped_at s.refusal s.at q o

  pub left_length : Open (end_of (walked p l)) → stands_at (end_of (walked p l)) l + length (left_by (end_of (walked p l)) l) ≡ length l
  left_length = by (end_of (walked p l)) refl
    where
      stopped_at : (x : Refusal) (at : Place) → end_of (walked p l) ≡ Err (stop_of x at) → OpenAt x → at.0 + length (left_of x (drop at.0 l)) ≡ length l
      stopped_at Unlisted at q o = absurd o
      stopped_at Foreign at q o = absurd o
      stopped_at CutShort at q o =
          let h = stops_within p l CutShort at q in
          let d = length-drop at.0 l in
          omega (arith, h, d)
      stopped_at Forbidden at q o = absurd o

      by : (e : Ending) → end_of (walked p l) ≡ e → Open e → stands_at e l + length (left_by e l) ≡ length l
      by (Ok u) q o = omega arith
      by (Err s) q o = stopped_at s.refusal s.at q o

-- A recording behind one that is done: its events follow, and its places are counted on.
pub walked_append : (p : Part) (l m : List ℕ) → end_of (walked p l) ≡ Ok tt
    → (events (walked p (l ++ m)) ≡ events (walked p l) ++ events (walked p m)) × (end_of (walked p (l ++ m)) ≡ shifted (length l) (end_of (walked p m)))
walked_append p l m q = (g.same, g.ends)
  where
    g : GoesOn p (l ++ m) (events (walked p l)) (length l) m
    g = subst (λ (e : Ending). (Open e → GoesOn p (l ++ m) (events (walked p l)) (stands_at e l) (left_by e l ++ m))) q (cut_open p l m) tt
