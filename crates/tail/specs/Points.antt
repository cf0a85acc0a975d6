-- Where the tail finder's refusal of a record points (M-104). The argument: it answers by how the records of the recording end.
use Rattle.std.specs.Prelude.{ℕ, ◌≤◌, ◌≡◌, refl, Bool, true, false, List, length, ltb, Ok, Err}
use Rattle.std.proofs.Common.{arith, ap, ◌∙◌}
use Rattle.rules.specs.Choice.{whether}
use Rattle.terms.specs.declared.Part.{Part}
use Rattle.terms.specs.Part.{PartRead, part_of}
use Rattle.recording.specs.Walk.{walked, end_of, Ending}
use Rattle.answers.specs.declared.Refused.TheVariants as Why
use Rattle.answers.specs.Answer.{number, refused_as_lem}
use Rattle.answers.specs.Points.{PointsIn, points_in}
use Rattle.tail.specs.declared.gaps.Found.{Found}
use Rattle.tail.specs.Tail.{none, found_by, found_in, found}

pub tail_points : (b : ℕ) (p : Part) → part_of b ≡ Ok p → (l : List ℕ) (r : Found) → r ≡ found (part_of b) l → 5 ≤ number r.answer
    → PointsIn p l 0 0 r.answer
tail_points b p named l r met = by (ltb 65535 (length l)) (met ∙ ap (λ (q : PartRead). found q l) named)
  where
    pointing : (e : Ending) → end_of (walked p l) ≡ e → r ≡ found_by p l e → 5 ≤ number r.answer → PointsIn p l 0 0 r.answer
    pointing (Ok u) q m five = absurd (let n = ap (λ (f : Found). number f.answer) m in omega (arith, n, five))
    pointing (Err s) q m five =
        let told = refused_as_lem s.refusal s.at r.answer (ap (λ (f : Found). f.answer) m) in
        let there = told.1 in
        points_in p l 0 0 r.answer s.refusal s.at q told.0 (omega (arith, there))

    by : (long : Bool) → r ≡ whether long (none (Err (Why.TooLong (record { 0 = 0 })))) (found_in p l) → 5 ≤ number r.answer → PointsIn p l 0 0 r.answer
    by true m five = absurd (let n = ap (λ (f : Found). number f.answer) m in omega (arith, n, five))
    by false m five = pointing (end_of (walked p l)) refl m five
