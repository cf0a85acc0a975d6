-- The report is exact, in the paper's words and as a caller has it: of the part byte, the promise of `next_sent`, and
-- number 0. The argument: number 0 is given only where the knowledge is in range, and then the answer is what the rule of
-- the byte to be sent next makes of the knowledge, which `knowing` shows to be exact.
use Rattle.std.specs.Prelude.{ℕ, ◌≡◌, Ok}
use Rattle.std.proofs.Common.{arith, sym, ◌∙◌}
use Rattle.std.proofs.Math.Path.{subst⁻¹}
use Rattle.knowing.specs.Standing.{Standing, Exact}
use Rattle.knowing.specs.Exact.{know_exact}
use Rattle.terms.specs.declared.Part.{Part}
use Rattle.terms.specs.declared.Part.TheVariants.{Pt6302, Pt6312, Pt6315}
use Rattle.terms.specs.Part.{part_of}
use Rattle.segment.specs.declared.Family.{Family}
use Rattle.segment.specs.declared.Family.TheVariants as OfFamily
use Rattle.segment.specs.Family.{sizes}
use Rattle.segment.specs.Fact as Segment
use Rattle.segment.specs.Range as SegmentRange
use Rattle.segment.specs.Sent.{sent}
use Rattle.segment_knowledge.specs.View.{kview}
use Rattle.panel.specs.declared.Panel.{Panel}
use Rattle.rules.specs.Where.{good, bad}
use Rattle.reporting.specs.Laws.{tells_as}
use Rattle.reporting.specs.Report as Told
use Rattle.reporting.specs.Report.{Report, Tells, TellsPart, TellsSegment, SegmentExact, ReportExact}

segment_report : (f : Family) (k : Panel) (r : Report) → TellsSegment f k r → Told.number r ≡ 0 → SegmentExact f k r
segment_report f k r (good sound told) zero =
    subst⁻¹ (λ (s : Standing). Exact (Segment.range (sizes f)) (λ _. 257) (sent (sizes f)) (kview k.segment) tt s)
    told.told
    (know_exact Segment.same? (Segment.range (sizes f)) (SegmentRange.two f) (λ _. 257) (λ _. omega arith)
    (sent (sizes f)) (kview k.segment) sound tt)
segment_report f k r (bad n told) zero = absurd (let x = sym told.numbered ∙ zero in omega (arith, x))

-- The report of a part that sends bytes is exact, and no other is given number 0.
pub report_exact : (b : ℕ) (p : Part) → part_of b ≡ Ok p → (k : Panel) (r : Report) → Tells (part_of b) k r
    → Told.number r ≡ 0 → ReportExact p k r
report_exact b p named k r met zero = by p (tells_as (part_of b) (Ok p) k r named met)
  where
    by : (q : Part) → TellsPart q k r → ReportExact q k r
    by Pt6302 told = let x = sym told.numbered ∙ zero in omega (arith, x)
    by Pt6312 told = segment_report OfFamily.Pt6312 k r told zero
    by Pt6315 told = segment_report OfFamily.Pt6315 k r told zero
