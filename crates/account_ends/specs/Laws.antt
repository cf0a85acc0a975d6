-- What follows from how a packet's records end. The argument: each law goes by the ending, and what an ending says is told
-- in full by its number, its place and what it leaves.
use Rattle.std.specs.Prelude.{ℕ, ◌+◌, ◌≤◌, ◌≡◌, refl, List, length, drop, get_or, Ok, Err}
use Rattle.std.proofs.Common.{arith, sym, ap, ◌∙◌, subst, drop-drop}
use Rattle.terms.specs.declared.Place.{Place}
use Rattle.recording.specs.Append.{shifted}
use Rattle.recording.specs.Cut.{Open, OpenAt, left_by, left_of}
use Rattle.recording.specs.Start.{body_four}
use Rattle.recording.specs.Tests.{starts}
use Rattle.recording.specs.Points.{stops_within, cut_front}
use Rattle.recording.specs.declared.Refusal.{Refusal}
use Rattle.recording.specs.declared.Refusal.TheVariants.{Unlisted, Foreign, CutShort, Forbidden}
use Rattle.account.specs.declared.unfinished.Unfinished.{Unfinished}
use Rattle.account.specs.Bytes.{bytes_of}
use Rattle.account_ends.specs.declared.ended.Ended.{Ended}
use Rattle.recording.specs.Walk.{Ending, stop_of}
use Rattle.account_ends.specs.Ended.{Goes, ByRefusal, ByEnd, EndOf, went, halted}

-- The two ends, written out, say what they are.
pub goes_so : (u : Unfinished) (total : ℕ) (left : List ℕ) → bytes_of u ≡ left → Goes total left (went u total)
goes_so u total left e = record { numbered = refl; placed = refl; counted = refl; unfinished = e; stands = refl }

module _ (first before after : ℕ) (l : List ℕ) where
  halting : (x : Refusal) (at : Place) → (Open (Err (stop_of x at)) → ⊥) → ByEnd (Err (stop_of x at)) first before after l (halted before x (first + at.0))
  halting Unlisted at shut = record { numbered = refl; placed = refl; counted = refl; unfinished = refl; stands = refl }
  halting Foreign at shut = record { numbered = refl; placed = refl; counted = refl; unfinished = refl; stands = refl }
  halting CutShort at shut = absurd (shut tt)
  halting Forbidden at shut = record { numbered = refl; placed = refl; counted = refl; unfinished = refl; stands = refl }

  -- A stop at x, which is y, and is told.
  pub halts_so : (e : Ending) (x y : Refusal) (at : Place) (place : ℕ) (r : Ended) → e ≡ Err (stop_of x at) → x ≡ y → (Open (Err (stop_of y at)) → ⊥)
      → place ≡ first + at.0 → r ≡ halted before x place → ByEnd e first before after l r
  halts_so e x y at place r stop is shut there same =
      rw (stop, same, there) (halting x at (λ o. shut (subst (λ (z : Refusal). Open (Err (stop_of z at))) is o)))

-- What a row's end says of a row that stands s places on says it of the whole.
pub end_on : (first before after s : ℕ) (row v : List ℕ) (r : Ended) → drop s row ≡ v → (e : Ending)
    → ByEnd e (first + s) before after v r → ByEnd (shifted s e) first before after row r
end_on first before after s row v r d (Ok u) h = h
end_on first before after s row v r d (Err t) h =
    let at : first + s + t.at.0 ≡ first + (s + t.at.0) = omega arith in
    subst (λ (i : ℕ). ByRefusal t.refusal i before after (drop (s + t.at.0) row) r) at
    (subst (λ (m : List ℕ). ByRefusal t.refusal (first + s + t.at.0) before after m r) (ap (drop t.at.0) (sym d) ∙ drop-drop t.at.0 s row) h)

-- A refusal is told whatever follows.
pub end_told : (first before after total : ℕ) (l row : List ℕ) (r : Ended) (e : Ending) → (Open e → ⊥)
    → ByEnd e first before after l r → ByEnd e first before total row r
end_told first before after total l row r (Ok u) shut h = absurd (shut tt)
end_told first before after total l row r (Err s) shut h = by s.refusal shut h
  where
    by : (x : Refusal) → (OpenAt x → ⊥) → ByRefusal x (first + s.at.0) before after (drop s.at.0 l) r → ByRefusal x (first + s.at.0) before total (drop s.at.0 row) r
    by Unlisted shut h = h
    by Foreign shut h = h
    by CutShort shut h = absurd (shut tt)
    by Forbidden shut h = h

-- Nothing told against the records: the answer, and what they left.
pub end_goes : (first before after : ℕ) (l : List ℕ) (r : Ended) (e : Ending) → Open e → ByEnd e first before after l r → Goes after (left_by e l) r
end_goes first before after l r (Ok u) o h = h
end_goes first before after l r (Err s) o h = by s.refusal o h
  where
    by : (x : Refusal) → OpenAt x → ByRefusal x (first + s.at.0) before after (drop s.at.0 l) r → Goes after (left_of x (drop s.at.0 l)) r
    by Unlisted o h = absurd o
    by Foreign o h = absurd o
    by CutShort o h = h
    by Forbidden o h = absurd o

-- A stop is within the row, and what is cut short there has at most four bytes.
pub stop_within : {x : Refusal} {at : Place} (l : List ℕ) → EndOf (Err (stop_of x at)) l → at.0 ≤ length l
stop_within {x} {at} l (p, q) = let s = stops_within p l x at q in omega (arith, s)

pub cut_within : {at : Place} (l : List ℕ) → EndOf (Err (stop_of CutShort at)) l → length (drop at.0 l) ≤ 4
cut_within {at} l (p, q) =
    let s = (starts p (drop at.0 l) (cut_front p l at q)).short in
    let b = body_four (get_or (drop at.0 l) 0 0) in
    omega (arith, s, b)
