-- What stands behind the last gap of a recording. The argument, by induction over the records: where a later record
-- is a gap, it is the later records' last; else a gap here is the last, and what follows its one byte are the later
-- records.
use Rattle.std.specs.Prelude.{ℕ, zero, suc, ◌+◌, ◌≤◌, ◌≡◌, Bool, ◌||◌, List, [], ◌∷◌, ◌++◌, length, drop, get_or, eqb, ltb, Ok, Err}
use Rattle.std.proofs.Common.{arith, sym, ap, ◌∙◌, true≢false, length-drop, drop-drop, eqb-true}
use Rattle.std.proofs.Math.Path.{refl}
use Rattle.std.proofs.Math.Bool.{true, false}
use Rattle.rules.specs.Choice.{whether_all}
use Rattle.terms.specs.declared.Event.{Event}
use Rattle.terms.specs.declared.Event.TheVariants.{Power, Falls, ByteIn, Rises, Gap, Unfinished, Keys, Switches, ByteOut}
use Rattle.terms.specs.declared.Part.{Part}
use Rattle.recording.specs.Record.{listed, belongs, body_of, allowed, event_of, front, Read}
use Rattle.recording.specs.Walk.{Walk, next, step, walk, walked, events, end_of, on_gap, behind_gap, Ending}
use Rattle.recording.specs.Tests.{record_fits}
use Rattle.recording.specs.Steps.{enough}
use Rattle.recording.specs.Append.{shifted, from_place}
use Rattle.whole.specs.Sentence.{is_gap, has_gap}

no : {A : Type 0} → false ≡ true → A
no e = absurd (true≢false (sym e))

-- A gap record is its kind byte alone.
gap_body : (k b0 b1 b2 b3 : ℕ) → is_gap (event_of k b0 b1 b2 b3) ≡ true → body_of k ≡ 0
gap_body k b0 b1 b2 b3 =
    whether_all P (eqb k 1) _ _ (λ _. no)
    (λ _. whether_all P (eqb k 2) _ _ (λ _. no)
    (λ _. whether_all P (eqb k 3) _ _ (λ _. no)
    (λ _. whether_all P (eqb k 4) _ _ (λ _. no)
    (λ _. whether_all P (eqb k 5) _ _ (λ t _. ap body_of (eqb-true k 5 t))
    (λ _. whether_all P (eqb k 6) _ _ (λ _. no)
    (λ _. whether_all P (eqb k 7) _ _ (λ _. no)
    (λ _. whether_all P (eqb k 8) _ _ (λ _. no) (λ _. no))))))))
  where
    P : Event → Type 0
    P e = is_gap e ≡ true → body_of k ≡ 0

GapIsOne : Read → Type 0
GapIsOne (Ok it) = is_gap it.event ≡ true → it.length ≡ 1
GapIsOne (Err r) = Unit

gap_is_one : (p : Part) (l : List ℕ) → GapIsOne (front p l)
unfolding GapIsOne
gap_is_one p l =
    whether_all GapIsOne (listed (get_or l 0 0)) _ _
    (λ _. whether_all GapIsOne (belongs p (get_or l 0 0)) _ _
    (λ _. whether_all GapIsOne (ltb (body_of (get_or l 0 0)) (length l)) _ _
    (λ _. whether_all GapIsOne (allowed p (get_or l 0 0) (get_or l 1 0) (get_or l 4 0)) _ _
    (λ _ g. ap suc (gap_body (get_or l 0 0) (get_or l 1 0) (get_or l 2 0) (get_or l 3 0) (get_or l 4 0) g))
    (λ _. tt))
    (λ _. tt))
    (λ _. tt))
    (λ _. tt)

on_gap_lem : (e : Event) (x y : ℕ) → is_gap e ≡ true → (e ≡ Gap) × (on_gap e x y ≡ x)
on_gap_lem Power x y g = no g
on_gap_lem Falls x y g = no g
on_gap_lem (ByteIn b) x y g = no g
on_gap_lem Rises x y g = no g
on_gap_lem Gap x y g = (refl, refl)
on_gap_lem (Unfinished n) x y g = no g
on_gap_lem (Keys k0 k1 k2 k3) x y g = no g
on_gap_lem (Switches v) x y g = no g
on_gap_lem ByteOut x y g = no g

off_gap : (e : Event) (x y : ℕ) → is_gap e ≡ false → on_gap e x y ≡ y
off_gap Power x y g = refl
off_gap Falls x y g = refl
off_gap (ByteIn b) x y g = refl
off_gap Rises x y g = refl
off_gap Gap x y g = absurd (true≢false g)
off_gap (Unfinished n) x y g = refl
off_gap (Keys k0 k1 k2 k3) x y g = refl
off_gap (Switches v) x y g = refl
off_gap ByteOut x y g = refl

unshifted : (n : ℕ) (e : Ending) → shifted n e ≡ Ok tt → e ≡ Ok tt
unshifted n (Ok u) q = refl
unshifted n (Err s) q = absurd (let z : ◌≡◌ {A = ℕ} 0 1 = cc in omega arith)

-- The walk over the bytes from j on, counted anew, and the walk from there with more steps than bytes.
anew : (n : ℕ) (p : Part) (at : ℕ) (l : List ℕ) → length l ≤ n → end_of (walk n p at l) ≡ Ok tt
    → (events (walk n p at l) ≡ events (walked p l)) × (end_of (walked p l) ≡ Ok tt)
anew n p at l h q =
    let f = from_place n p at l in
    let same : walk n p 0 l ≡ walked p l = enough n (length l) p 0 l h (omega arith) in
    (f.same ∙ ap events same, sym (ap end_of same) ∙ unshifted at (end_of (walk n p 0 l)) (sym f.ends ∙ q))

-- Where there is a gap: the events before the last, the gap, and those of the bytes behind it, whose records are done
-- as well.
pub record Behind (p : Part) (at : ℕ) (l : List ℕ) (w : Walk) (place : ℕ) : Type 0 where
  pub skipped : ℕ
  pub inside : skipped ≤ length l
  pub placed : place ≡ at + skipped
  pub before : List Event
  pub parted : events w ≡ before ++ (Gap ∷ events (walked p (drop skipped l)))
  pub ends : end_of (walked p (drop skipped l)) ≡ Ok tt

-- By whether there is one: without, the place is where the search began.
abbrev pub ByGap : Bool → Part → ℕ → ℕ → List ℕ → Walk → Type 0
ByGap true p from at l w = Behind p at l w (behind_gap from w)
ByGap false p from at l w = behind_gap from w ≡ from

module _ (p : Part) (at : ℕ) (l : List ℕ) (e : Event) (m from : ℕ) (w : Walk) (fit : m ≤ length l) where
  -- A later gap.
  later : Behind p (at + m) (drop m l) w (behind_gap (on_gap e (at + 1) from) w) → Behind p at l (next at e w) (behind_gap from (next at e w))
  later h =
      let d = length-drop m l in
      let z : drop h.skipped (drop m l) ≡ drop (m + h.skipped) l = drop-drop h.skipped m l in
      record {
        skipped = m + h.skipped;
        inside = omega (arith, h.inside, d, fit);
        placed = omega (arith, h.placed);
        before = e ∷ h.before;
        parted = ap (λ (es : List Event). e ∷ es) (h.parted ∙ ap (λ (x : List ℕ). h.before ++ (Gap ∷ events (walked p x))) z);
        ends = ap (λ (x : List ℕ). end_of (walked p x)) (sym z) ∙ h.ends;
      }

  -- The last gap is here.
  here : is_gap e ≡ true → m ≡ 1 → behind_gap (on_gap e (at + 1) from) w ≡ on_gap e (at + 1) from → (events w ≡ events (walked p (drop m l))) × (end_of (walked p (drop m l)) ≡ Ok tt)
      → Behind p at l (next at e w) (behind_gap from (next at e w))
  here g one none (same, ends) =
      let (is, on) = on_gap_lem e (at + 1) from g in
      record {
        skipped = m;
        inside = fit;
        placed = none ∙ on ∙ ap (λ (i : ℕ). at + i) (sym one);
        before = [];
        parted = ap (λ (x : Event). x ∷ events w) is ∙ ap (λ (es : List Event). Gap ∷ es) same;
        ends = ends;
      }

search_gap : (n : ℕ) (p : Part) (from at : ℕ) (l : List ℕ) → length l ≤ n → end_of (walk n p at l) ≡ Ok tt → ByGap (has_gap (events (walk n p at l))) p from at l (walk n p at l)
search_gap zero p from at l h q = refl
search_gap (suc n) p from at [] h q = refl
search_gap (suc n) p from at (b ∷ l) h q =
    go (front p (b ∷ l)) refl (gap_is_one p (b ∷ l)) q (λ f m x y. search_gap n p f (at + m) (drop m (b ∷ l)) x y)
  where
    go : (r : Read) → front p (b ∷ l) ≡ r → GapIsOne r
        → end_of (step at b (λ m. walk n p (at + m) (drop m (b ∷ l))) r) ≡ Ok tt
        → ((f m : ℕ) → length (drop m (b ∷ l)) ≤ n → end_of (walk n p (at + m) (drop m (b ∷ l))) ≡ Ok tt
        → ByGap (has_gap (events (walk n p (at + m) (drop m (b ∷ l))))) p f (at + m) (drop m (b ∷ l)) (walk n p (at + m) (drop m (b ∷ l))))
        → ByGap (has_gap (events (step at b (λ m. walk n p (at + m) (drop m (b ∷ l))) r))) p from at (b ∷ l)
        (step at b (λ m. walk n p (at + m) (drop m (b ∷ l))) r)
    go (Ok it) f one d ih =
        let fit = record_fits p (b ∷ l) it.event it.length f in
        let ld = length-drop it.length (b ∷ l) in
        let short : length (drop it.length (b ∷ l)) ≤ n = omega (arith, fit, ld, h) in
        by (is_gap it.event) (has_gap (events (walk n p (at + it.length) (drop it.length (b ∷ l))))) refl (ih (on_gap it.event (at + 1) from) it.length short d) fit.1 (anew n p (at + it.length) (drop it.length (b ∷ l)) short d)
      where
        w : Walk
        w = walk n p (at + it.length) (drop it.length (b ∷ l))

        by : (t u : Bool) → is_gap it.event ≡ t → ByGap u p (on_gap it.event (at + 1) from) (at + it.length) (drop it.length (b ∷ l)) w → it.length ≤ length (b ∷ l)
            → (events w ≡ events (walked p (drop it.length (b ∷ l)))) × (end_of (walked p (drop it.length (b ∷ l))) ≡ Ok tt)
            → ByGap (t || u) p from at (b ∷ l) (next at it.event w)
        by true true g x fit s = later p at (b ∷ l) it.event it.length from w fit x
        by true false g x fit s = here p at (b ∷ l) it.event it.length from w fit g (unfold GapIsOne in one g) x s
        by false true g x fit s = later p at (b ∷ l) it.event it.length from w fit x
        by false false g x fit s = x ∙ off_gap it.event (at + 1) from g
    go (Err x) f one d ih = refl

-- The last gap of a recording whose records are done, and what stands behind it.
pub last_gap : (p : Part) (l : List ℕ) → end_of (walked p l) ≡ Ok tt → ByGap (has_gap (events (walked p l))) p 0 0 l (walked p l)
last_gap p l q = search_gap (length l) p 0 0 l (omega arith) q
