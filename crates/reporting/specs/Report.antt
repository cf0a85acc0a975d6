-- The whole answer of the report: paper 01's number and place, and what is known of the byte to be sent next.
use Rattle.std.specs.Prelude.{ℕ, ◌≡◌, Result, Ok, Err}
use Rattle.knowing.specs.Standing.{Standing, unknown, Sound, Exact}
use Rattle.knowing.specs.Know.{know}
use Rattle.terms.specs.declared.Part.{Part}
use Rattle.terms.specs.declared.Part.TheVariants.{Pt6302, Pt6312, Pt6315}
use Rattle.terms.specs.Part.{PartRead}
use Rattle.segment.specs.declared.Family.{Family}
use Rattle.segment.specs.declared.Family.TheVariants as OfFamily
use Rattle.segment.specs.Family.{sizes}
use Rattle.segment.specs.Fact.{same?, range}
use Rattle.segment.specs.Sent.{sent}
use Rattle.segment_knowledge.specs.View.{kview}
use Rattle.segment.specs.declared.Sent.{Sent}
use Rattle.fact.specs.declared.Single.{Single}
use Rattle.sendings.specs.Report.{sending}
use Rattle.panel.specs.declared.Panel.{Panel}
use Rattle.reporting.specs.declared.reports.NoReport.{NoReport}
use Rattle.reporting.specs.declared.reports.NoReport.TheVariants.{NoPart, OutOfRange}
use Rattle.rules.specs.Where.{Where}

-- What is known of the byte, or why there is no report.
abbrev pub Report : Type 0
Report = Result (Single Sent) NoReport

-- Paper 01's number for each case, its place, and what it says of the byte: refused, it reports unknown.
abbrev pub number : Report → ℕ
number (Ok s) = 0
number (Err (NoPart at)) = 1
number (Err (OutOfRange at)) = 2

abbrev pub place : Report → ℕ
place (Ok s) = 0
place (Err (NoPart at)) = at.0
place (Err (OutOfRange at)) = at.0

abbrev pub says : Report → Standing
says (Ok s) = sending s
says (Err why) = unknown

pub record Answers (n : ℕ) (s : Standing) (r : Report) : Type 0 where
  pub numbered : number r ≡ n
  pub placed : place r ≡ 0
  pub told : says r ≡ s

-- Number 2 exactly where a known value is outside its fact's range.
abbrev pub TellsSegment : Family → Panel → Report → Type 0
TellsSegment p k r =
    Where (Sound (range (sizes p)) (kview k.segment))
    (Answers 0 (know same? (range (sizes p)) (sent (sizes p)) (kview k.segment) tt) r)
    (Answers 2 unknown r)

-- Number 1 exactly where the part byte names no part, or PT6302.
abbrev pub TellsPart : Part → Panel → Report → Type 0
TellsPart Pt6302 k r = Answers 1 unknown r
TellsPart Pt6312 k r = TellsSegment OfFamily.Pt6312 k r
TellsPart Pt6315 k r = TellsSegment OfFamily.Pt6315 k r

abbrev pub Tells : PartRead → Panel → Report → Type 0
Tells (Ok p) k r = TellsPart p k r
Tells (Err e) k r = Answers 1 unknown r

-- The byte to be sent next, or not driven, is reported exactly if all fitting chips agree on it, else unknown. There
-- are 256 bytes, and not driven. PT6302 has no report.
abbrev pub SegmentExact : Family → Panel → Report → Type 0
SegmentExact p k r = Exact (range (sizes p)) (λ _. 257) (sent (sizes p)) (kview k.segment) tt (says r)

abbrev pub ReportExact : Part → Panel → Report → Type 0
ReportExact Pt6302 k r = ⊥
ReportExact Pt6312 k r = SegmentExact OfFamily.Pt6312 k r
ReportExact Pt6315 k r = SegmentExact OfFamily.Pt6315 k r
