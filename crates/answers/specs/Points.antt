-- Where an answer points (M-104): that of a call that reads a recording, by how a walk over its records ends. The argument: a
-- walk stops where the refusal points (`recording/Points.points`), and 8 points at the byte at fault (`recording/Fault.blames`).
use Rattle.std.specs.Prelude.{ℕ, ◌+◌, ◌≡◌, List, drop, Err}
use Rattle.std.proofs.Common.{arith, sym, ◌∙◌}
use Rattle.terms.specs.declared.Place.{Place}
use Rattle.terms.specs.declared.Part.{Part}
use Rattle.recording.specs.Record as Record
use Rattle.recording.specs.Walk.{walked, end_of, stop_of}
use Rattle.recording.specs.Points.{Points, points}
use Rattle.recording.specs.Fault.{Blames, blames}
use Rattle.recording.specs.declared.Refusal.{Refusal}
use Rattle.recording.specs.declared.Refusal.TheVariants.{Unlisted, Foreign, CutShort, Forbidden}
use Rattle.answers.specs.Answer.{Answer, number, place}

-- The answer is a record's refusal, and its place is what that points at in l, read from the place `from` on; `ahead` bytes came
-- before l.
pub record PointsIn (p : Part) (l : List ℕ) (from ahead : ℕ) (a : Answer) : Type 0 where
  pub refusal : Refusal
  pub at : ℕ
  pub numbered : number a ≡ Record.number refusal
  pub placed : place a ≡ ahead + at
  pub points : Points p l from refusal at

module _ (p : Part) (l : List ℕ) (from ahead : ℕ) (a : Answer) where
  -- Where the records end at a refusal, and the answer has its number and place.
  pub points_in : (x : Refusal) (at : Place) → end_of (walked p (drop from l)) ≡ Err (stop_of x at) → number a ≡ Record.number x
      → place a ≡ ahead + (from + at.0) → PointsIn p l from ahead a
  points_in x at q n there = record { refusal = x; at = from + at.0; numbered = n; placed = there; points = points p l from x at q }

  -- The byte that an answer of number 8 points at is the one at fault.
  pub eight_blames : (h : PointsIn p l from ahead a) → number a ≡ 8 → Blames p l h.points.first h.at
  eight_blames h eight = by h.refusal h.points (sym h.numbered ∙ eight)
    where
      by : (x : Refusal) (q : Points p l from x h.at) → Record.number x ≡ 8 → Blames p l q.first h.at
      by Unlisted q e = absurd (omega (arith, e))
      by Foreign q e = absurd (omega (arith, e))
      by CutShort q e = absurd (omega (arith, e))
      by Forbidden q e = blames p l from h.at q
