-- Two reports that meet the promise are equal. The argument: the number, the place and what is said fix the report.
use Rattle.std.specs.Prelude.{ℕ, ◌<◌, ◌≡◌, refl, Ok, Err}
use Rattle.std.proofs.Common.{arith, sym, ap, ◌∙◌}
use Rattle.knowing.specs.Join.{not_known, known_one}
use Rattle.knowing.specs.Standing as Standing
use Rattle.terms.specs.declared.Part.TheVariants.{Pt6302, Pt6312, Pt6315}
use Rattle.terms.specs.Part.{PartRead}
use Rattle.segment.specs.declared.Family.{Family}
use Rattle.segment.specs.declared.Family.TheVariants as OfFamily
use Rattle.segment.specs.declared.Sent.{Sent}
use Rattle.segment.specs.declared.Sent.TheVariants.{Byte, NotDriven}
use Rattle.fact.specs.declared.Single.{Single}
use Rattle.fact.specs.declared.Single.TheVariants.{Known, Unknown}
use Rattle.sendings.specs.Report.{sending}
use Rattle.panel.specs.declared.Panel.{Panel}
use Rattle.reporting.specs.declared.reports.NoReport.TheVariants as R
use Rattle.rules.specs.Where.{where_both}
use Rattle.reporting.specs.Report as Told
use Rattle.reporting.specs.Report.{Report}

-- A byte is below 256. This holds of every report that code hands over.
abbrev pub Small : Report → Type 0
Small (Ok (Known (Byte b))) = b < 256
Small (Ok (Known NotDriven)) = Unit
Small (Ok Unknown) = Unit
Small (Err why) = Unit

pub same_sending : (a b : Single Sent) → Small (Ok a) → Small (Ok b) → sending a ≡ sending b → a ≡ b
same_sending (Known (Byte x)) (Known (Byte y)) h g e = ap (λ (n : ℕ). Known (Byte n)) (known_one x y e)
same_sending (Known (Byte x)) (Known NotDriven) h g e =
    let z = known_one x 256 e in
    absurd (omega arith)
same_sending (Known (Byte x)) Unknown h g e = absurd (not_known x (sym e))
same_sending (Known NotDriven) (Known (Byte y)) h g e =
    let z = known_one 256 y e in
    absurd (omega arith)
same_sending (Known NotDriven) (Known NotDriven) h g e = refl
same_sending (Known NotDriven) Unknown h g e = absurd (not_known 256 (sym e))
same_sending Unknown (Known (Byte y)) h g e = absurd (not_known y e)
same_sending Unknown (Known NotDriven) h g e = absurd (not_known 256 e)
same_sending Unknown Unknown h g e = refl

same_report : (a b : Report) → Small a → Small b → Told.number a ≡ Told.number b → Told.place a ≡ Told.place b → Told.says a ≡ Told.says b → a ≡ b
same_report (Ok x) (Ok y) h g n p s = ap Ok (same_sending x y h g s)
same_report (Ok x) (Err (R.NoPart y)) h g n p s = absurd (omega arith)
same_report (Ok x) (Err (R.OutOfRange y)) h g n p s = absurd (omega arith)
same_report (Err (R.NoPart x)) (Ok y) h g n p s = absurd (omega arith)
same_report (Err (R.NoPart x)) (Err (R.NoPart y)) h g n p s = λ i. Err (R.NoPart (record { 0 = p i }))
same_report (Err (R.NoPart x)) (Err (R.OutOfRange y)) h g n p s = absurd (omega arith)
same_report (Err (R.OutOfRange x)) (Ok y) h g n p s = absurd (omega arith)
same_report (Err (R.OutOfRange x)) (Err (R.NoPart y)) h g n p s = absurd (omega arith)
same_report (Err (R.OutOfRange x)) (Err (R.OutOfRange y)) h g n p s = λ i. Err (R.OutOfRange (record { 0 = p i }))

module _ (k : Panel) (r q : Report) (sr : Small r) (sq : Small q) where
  same_told : (n : ℕ) (s : Standing.Standing) → Told.Answers n s r → Told.Answers n s q → r ≡ q
  same_told n s h g = same_report r q sr sq (h.numbered ∙ sym g.numbered) (h.placed ∙ sym g.placed) (h.told ∙ sym g.told)

  by_family : (p : Family) → Told.TellsSegment p k r → Told.TellsSegment p k q → r ≡ q
  by_family p h g = where_both (same_told 0 _) (same_told 2 _) h g

  -- Two reports are one.
  pub one_report : (p : PartRead) → Told.Tells p k r → Told.Tells p k q → r ≡ q
  one_report (Ok Pt6302) h g = same_told 1 _ h g
  one_report (Ok Pt6312) h g = by_family OfFamily.Pt6312 h g
  one_report (Ok Pt6315) h g = by_family OfFamily.Pt6315 h g
  one_report (Err e) h g = same_told 1 _ h g
