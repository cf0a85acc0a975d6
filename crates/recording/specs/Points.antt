-- Where a refusal points. The argument: a walk goes from record to record, so that it comes to the first byte of a record that
-- is none, and there it stops, at the refusal's place within that record.
use Prim.Native.Nat.{ℕ, zero, suc, ◌+◌, ◌<◌, ◌≤◌}
use Rattle.std.proofs.Common.{arith, ◌∙◌}
use Rattle.std.specs.Prelude.{◌≡◌, Bool, List, drop, get_or, Ok, Err}
use Rattle.std.proofs.Math.Path.{refl, ap, subst, subst⁻¹}
use Rattle.std.proofs.Math.Bool.{true, false}
use Rattle.std.proofs.Math.ListN.{length}
use Rattle.std.proofs.Math.Dec.{ltb}
use borrow.Author.Tests.{ltb-true, ltb-false}
use Rattle.terms.specs.declared.Event.{Event}
use Rattle.terms.specs.declared.Place.{Place}
use Rattle.terms.specs.declared.Part.{Part}
use Rattle.recording.specs.declared.Refusal.{Refusal}
use Rattle.recording.specs.declared.Refusal.TheVariants.{CutShort}
use Rattle.recording.specs.Record.{front, place_within, Read, record_of}
use Rattle.recording.specs.Walk.{walked, end_of, Ending, stop_of}
use Rattle.recording.specs.Tests.{record_fits}
use Rattle.recording.specs.Steps.{rest, rest_end, rest_next, rest_stops, stop_fits}
use Rattle.recording.specs.Append.{shifted, from_place}

-- The places that reading l from the place `from` on comes to: that one, and the one behind each record.
pub data Reached (p : Part) (l : List ℕ) (from : ℕ) : ℕ → Type 0 where
  here : Reached p l from from
  behind : (i : ℕ) (e : Event) (m : ℕ) → Reached p l from i → front p (drop i l) ≡ Ok (record_of e m) → Reached p l from (i + m)

-- Reading comes to the place `first`, where there is no record, by the refusal x; and x points at the place `at`, within the
-- bytes.
pub record Points (p : Part) (l : List ℕ) (from : ℕ) (x : Refusal) (at : ℕ) : Type 0 where
  pub first : ℕ
  pub reached : Reached p l from first
  pub none : front p (drop first l) ≡ Err x
  pub there : at ≡ first + place_within x (get_or l first 0)
  pub inside : at < length l

module _ (p : Part) (l : List ℕ) (from : ℕ) where
  Pointed : Ending → Type 0
  Pointed (Ok u) = Unit
  Pointed (Err s) = Points p l from s.refusal s.at.0

  -- At most `n` bytes are left at the place i.
  pointed : (n i : ℕ) → length l ≤ i + n → Reached p l from i → Pointed (end_of (rest p l i))
  unfolding Pointed
  pointed zero i few reached = subst⁻¹ Pointed (ap end_of (rest_end p l i (omega (arith, few)))) tt
  pointed (suc n) i few reached =
      by (ltb i (length l)) refl (front p (drop i l)) refl (λ m f s. pointed n (i + m) f s)
    where
      by : (b : Bool) → ltb i (length l) ≡ b → (r : Read) → front p (drop i l) ≡ r
          → ((m : ℕ) → length l ≤ i + m + n → Reached p l from (i + m) → Pointed (end_of (rest p l (i + m))))
          → Pointed (end_of (rest p l i))
      by false t r q on = subst⁻¹ Pointed (ap end_of (rest_end p l i (ltb-false i (length l) t))) tt
      by true t (Ok it) q on =
          let more = ltb-true i (length l) t in
          let f = record_fits p (drop i l) it.event it.length q in
          subst⁻¹ Pointed (ap end_of (rest_next p l i it.event it.length more q)) (on it.length (omega (arith, few, f)) (behind i it.event it.length reached q))
      by true t (Err x) q on =
          let more = ltb-true i (length l) t in
          subst⁻¹ Pointed (ap end_of (rest_stops p l i x more q))
          (record { first = i; reached = reached; none = q; there = refl; inside = stop_fits p l i x more q })

  -- Where a walk from the place `from` on stops, the refusal points.
  pub points : (x : Refusal) (at : Place) → end_of (walked p (drop from l)) ≡ Err (stop_of x at) → Points p l from x (from + at.0)
  unfolding Pointed
  points x at q =
      subst Pointed ((from_place (length (drop from l)) p from (drop from l)).ends ∙ ap (shifted from) q) (pointed (length l) from (omega arith) here)

-- So that is within the bytes.
pub stops_within : (p : Part) (l : List ℕ) (x : Refusal) (at : Place) → end_of (walked p l) ≡ Err (stop_of x at) → at.0 < length l
stops_within p l x at q = let h = (points p l 0 x at q).inside in omega (arith, h)

-- 7 points at the first byte of what is cut short.
pub cut_front : (p : Part) (l : List ℕ) (at : Place) → end_of (walked p l) ≡ Err (stop_of CutShort at) → front p (drop at.0 l) ≡ Err CutShort
cut_front p l at q =
    let h = points p l 0 CutShort at q in
    let e : h.first ≡ at.0 = omega (arith, h.there) in
    subst (λ (i : ℕ). front p (drop i l) ≡ Err CutShort) e h.none
