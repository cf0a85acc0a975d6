-- The page of a replay that is done, by what is known of the panel's bits (M-107). The argument: the memory's lines are those of
-- what is known (`listing/Printed`), and number 0 prints them.
use Rattle.std.specs.Prelude.{ℕ, ◌≡◌, List, ◌++◌, Ok}
use Rattle.std.proofs.Common.{ap, ◌∙◌}
use Rattle.knowing.specs.Standing.{Sound}
use Rattle.terms.specs.declared.Part.{Part}
use Rattle.parts.specs.Facts.{range}
use Rattle.panel.specs.declared.Panel.{Panel}
use Rattle.panel.specs.View.{known_of}
use Rattle.panel.specs.Unique.{Shaped}
use Rattle.answers.specs.Answer.{Answer, number, place}
use Rattle.listing.specs.Printed.{memory_of, memory_printed}
use Rattle.page.specs.Page.{done_at, printed, page}

-- Where every known value is in range, as it is after every replay that is done (`demand/Demand.recording_in_range`).
pub page_known : (p : Part) (answer : Answer) (k : Panel) → number answer ≡ 0 → Shaped k → Sound (range p) (known_of p k)
    → page (Ok p) answer k ≡ done_at (place answer) ++ memory_of p (known_of p k)
page_known p answer k nought shaped good =
    ap (λ (n : ℕ). printed (Ok p) n (place answer) k) nought ∙ ap (λ (l : List ℕ). done_at (place answer) ++ l) (memory_printed p k shaped good)
