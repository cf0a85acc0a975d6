-- What the report's rule makes of a knowledge.
use Rattle.std.specs.Prelude.{ℕ}
use Rattle.std.specs.Coded.{Unit-prop, le_prop}
use Rattle.rules.specs.Rule.{Rule}
use Rattle.knowing.specs.Standing.{Standing, known, unknown, Within, Sound}
use Rattle.knowing.specs.Ways as Ways
use Rattle.segment.specs.declared.Sizes.{Sizes}
use Rattle.segment.specs.Fact.{Fact, same?, range, address, data_mode, stepping, mode, dimming, display, led, key, switches, read_count, position}
use Rattle.segment.specs.Laws.{every}
use Rattle.segment_knowledge.specs.declared.Control.{Control}
use Rattle.segment_knowledge.specs.declared.Knowledge.{Knowledge}
use Rattle.segment_knowledge.specs.View.{cview, kview}
use Rattle.segment.specs.declared.Sent.{Sent}
use Rattle.fact.specs.declared.Single.{Single}
use Rattle.sendings.specs.Report.{reports}

-- What is known beside the cells.
abbrev pub bare : Control → Fact → Standing
bare = cview (λ i k. unknown)

-- A value is within its range, and a knowledge in range, in one way only.
within_once : (n : ℕ) (s : Standing) → IsProp (Within n s)
within_once n (known v) = le_prop
within_once n unknown = Unit-prop

pub sound_once : {F : Type 0} (range : F → ℕ) (k : F → Standing) → IsProp (Sound range k)
sound_once range k a b i f = within_once (range f) (k f) (a f) (b f) i

-- The report r is what the rule makes of c, whatever is known of the cells.
abbrev pub Reports : Sizes → Rule Fact (Unit {0}) → Control → Single Sent → Type 0
Reports s rule c r = (cells : ℕ → ℕ → Standing) → Ways.Knows (cview cells) reports same? (range s) rule c r

-- What is in range for a whole knowledge is in range beside its cells.
pub bare_sound : (s : Sizes) (k : Knowledge) → Sound (range s) (kview k) → Sound (range s) (bare k.control)
bare_sound s k h =
    every (λ (f : Fact). Within (range s f) (bare k.control f)) (λ i k. tt) (h address) (h data_mode) (h stepping) (h mode) (h dimming) (h display) (λ k. h (led k)) (λ i. h (key i)) (h switches)
    (h read_count) (h position)
