-- The walk over a recording, record by record, as code goes along it: `rest` is what is left of the walk from a place
-- on. The argument: a record has at least one byte and no more than there are, so that as many steps as bytes are
-- enough.
use Rattle.std.specs.Prelude.{ℕ, zero, suc, ◌+◌, ◌-◌, ◌<◌, ◌≤◌, ◌≡◌, refl, false, List, [], ◌∷◌, length, drop, get_or, Ok, Err}
use Rattle.std.proofs.Common.{arith, ap, ◌∙◌, subst, ⊎_elim, length-drop, drop-drop}
use Rattle.terms.specs.declared.Event.{Event}
use Rattle.terms.specs.declared.Event.TheVariants.{Power, Falls, ByteIn, Rises, Gap, Unfinished, Keys, Switches, ByteOut}
use Rattle.terms.specs.declared.Place.{Place}
use Rattle.terms.specs.declared.Part.{Part}
use Rattle.recording.specs.declared.Refusal.{Refusal}
use Rattle.recording.specs.declared.Refusal.TheVariants.{Unlisted, Foreign, CutShort, Forbidden}
use Rattle.recording.specs.Record.{body_of, allowed, front, place_within, Read, record_of}
use Rattle.recording.specs.Laws.{kind_at}
use Rattle.recording.specs.Tests.{record_fits, forbids, eight_kinds}
use Rattle.recording.specs.Walk.{Walk, done, stops, next, step, walk, on_gap, behind_gap, stop_of, Ending}

-- A value that is not allowed stands in the body.
in_body : (p : Part) (kind b0 b3 : ℕ) → allowed p kind b0 b3 ≡ false → place_within Forbidden kind ≤ body_of kind
in_body p kind b0 b3 f =
    ⊎_elim (λ six. rw six (omega arith)) (⊎_elim (λ eight. rw eight (omega arith)) (λ seven. rw seven.0 (omega arith))) (eight_kinds p kind b0 b3 f)

-- What a refusal points at is within the bytes.
refusal_fits : (p : Part) (l : List ℕ) (r : Refusal) → 0 < length l → front p l ≡ Err r → place_within r (get_or l 0 0) < length l
refusal_fits p l Unlisted some q = some
refusal_fits p l Foreign some q = some
refusal_fits p l CutShort some q = some
refusal_fits p l Forbidden some q =
    let f = forbids p l q in
    let h = f.long in
    let g = in_body p (get_or l 0 0) (get_or l 1 0) (get_or l 4 0) f.not_allowed in
    omega (arith, h, g)

-- More steps than bytes change nothing.
pub enough : (n m : ℕ) (p : Part) (at : ℕ) (l : List ℕ) → length l ≤ n → length l ≤ m → walk n p at l ≡ walk m p at l
enough zero zero p at l h g = refl
enough zero (suc m) p at [] h g = refl
enough zero (suc m) p at (b ∷ l) h g = absurd (omega arith)
enough (suc n) zero p at [] h g = refl
enough (suc n) zero p at (b ∷ l) h g = absurd (omega arith)
enough (suc n) (suc m) p at [] h g = refl
enough (suc n) (suc m) p at (b ∷ l) h g = by (front p (b ∷ l)) refl (λ k x y. enough n m p (at + k) (drop k (b ∷ l)) x y)
  where
    by : (r : Read) → front p (b ∷ l) ≡ r → ((k : ℕ) → length (drop k (b ∷ l)) ≤ n → length (drop k (b ∷ l)) ≤ m → walk n p (at + k) (drop k (b ∷ l)) ≡ walk m p (at + k) (drop k (b ∷ l)))
        → ◌≡◌ {A = Walk} (step at b (λ k. walk n p (at + k) (drop k (b ∷ l))) r)
        (step at b (λ k. walk m p (at + k) (drop k (b ∷ l))) r)
    by (Ok it) q ih =
        let f = record_fits p (b ∷ l) it.event it.length q in
        let d = length-drop it.length (b ∷ l) in
        ap (next at it.event) (ih it.length (omega (arith, d, f)) (omega (arith, d, f)))
    by (Err x) q ih = refl

-- What is left of the walk over l from the place i on.
abbrev pub rest : Part → List ℕ → ℕ → Walk
rest p l i = walk (length (drop i l)) p i (drop i l)

module _ (p : Part) (l : List ℕ) (i : ℕ) where
  pub rest_end : length l ≤ i → rest p l i ≡ done
  rest_end h = go (drop i l) (length-drop i l)
    where
      go : (m : List ℕ) → length m ≡ length l - i → walk (length m) p i m ≡ done
      go [] e = refl
      go (b ∷ m) e = absurd (omega (arith, e))

  -- The walk goes by the record at the front.
  abbrev by : ℕ → List ℕ → Read → Walk
  by n m = step i (get_or m 0 0) (λ k. walk n p (i + k) (drop k m))

  one : (m : List ℕ) → 0 < length m → (n : ℕ) × (length m ≡ suc n) × (walk (length m) p i m ≡ by n m (front p m))
  one [] h = absurd (omega arith)
  one (b ∷ m) h = (length m, refl, refl)

  some : i < length l → 0 < length (drop i l)
  some h = let d = length-drop i l in omega (arith, d)

  pub rest_stops : (r : Refusal) → i < length l → front p (drop i l) ≡ Err r → rest p l i ≡ stops r (i + place_within r (get_or l i 0))
  rest_stops r h q =
      let o = one (drop i l) (some h) in
      o.2 ∙ ap (by o.0 (drop i l)) q ∙ ap (λ (k : ℕ). stops r (i + place_within r k)) (kind_at l i)

  pub stop_fits : (r : Refusal) → i < length l → front p (drop i l) ≡ Err r → i + place_within r (get_or l i 0) < length l
  stop_fits r h q =
      let f = subst (λ (k : ℕ). place_within r k < length (drop i l)) (kind_at l i) (refusal_fits p (drop i l) r (some h) q) in
      let d = length-drop i l in
      omega (arith, f, d)

  pub rest_next : (e : Event) (m : ℕ) → i < length l → front p (drop i l) ≡ Ok (record_of e m) → rest p l i ≡ next i e (rest p l (i + m))
  rest_next e m h q =
      let o = one (drop i l) (some h) in
      o.2 ∙ ap (by o.0 (drop i l)) q ∙ ap (next i e) (again o.0 o.1)
    where
      again : (n : ℕ) → length (drop i l) ≡ suc n → walk n p (i + m) (drop m (drop i l)) ≡ rest p l (i + m)
      again n z =
          let f = record_fits p (drop i l) e m q in
          let d = length-drop m (drop i l) in
          enough n (length (drop m (drop i l))) p (i + m) (drop m (drop i l)) (omega (arith, d, f, z)) (omega arith)
          ∙ ap (λ (x : List ℕ). walk (length x) p (i + m) x) (drop-drop m i l)

-- An ending at a place is one at what the place holds.
pub stops_there : (r : Refusal) (at : Place) (i : ℕ) → at.0 ≡ i → ◌≡◌ {A = Ending} (Err (stop_of r at)) (Err (stop_of r (record { 0 = i })))
stops_there r at i e = λ j. Err (stop_of r (record { 0 = e j }))

-- The place behind the last gap is within the bytes.
pub gap_within : (n : ℕ) (p : Part) (from at : ℕ) (l : List ℕ) → from ≤ at → behind_gap from (walk n p at l) ≤ at + length l
gap_within zero p from at l h = omega arith
gap_within (suc n) p from at [] h = omega arith
gap_within (suc n) p from at (b ∷ l) h = go (front p (b ∷ l)) refl (λ m f g. gap_within n p f (at + m) (drop m (b ∷ l)) g)
  where
    onward : (e : Event) (m : ℕ) → 1 ≤ m → on_gap e (at + 1) from ≤ at + m
    onward Power m g = omega arith
    onward Falls m g = omega arith
    onward (ByteIn x) m g = omega arith
    onward Rises m g = omega arith
    onward Gap m g = omega arith
    onward (Unfinished x) m g = omega arith
    onward (Keys k0 k1 k2 k3) m g = omega arith
    onward (Switches v) m g = omega arith
    onward ByteOut m g = omega arith

    go : (r : Read) → front p (b ∷ l) ≡ r → ((m f : ℕ) → f ≤ at + m → behind_gap f (walk n p (at + m) (drop m (b ∷ l))) ≤ at + m + length (drop m (b ∷ l)))
        → behind_gap from (step at b (λ m. walk n p (at + m) (drop m (b ∷ l))) r) ≤ at + length (b ∷ l)
    go (Ok it) q ih =
        let f = record_fits p (b ∷ l) it.event it.length q in
        let d = length-drop it.length (b ∷ l) in
        let i = ih it.length (on_gap it.event (at + 1) from) (onward it.event it.length f.0) in
        omega (arith, f, d, i)
    go (Err x) q ih = omega arith
