-- A panel whose recording comes in packets (M-100): which states are good.
use Rattle.std.specs.Prelude.{ℕ, ◌≤◌, length, None}
use Rattle.knowing.specs.Standing.{Sound}
use Rattle.terms.specs.declared.Part.{Part}
use Rattle.parts.specs.Facts.{range}
use Rattle.recording.specs.Start.{CutOff}
use Rattle.panel.specs.declared.Panel.{Panel}
use Rattle.panel.specs.View.{known_of}
use Rattle.account.specs.declared.unfinished.Unfinished.TheVariants.{None}
use Rattle.account.specs.Bytes as Bytes
use Rattle.account.specs.Bytes.{bytes_of}
use Rattle.account_fair.specs.Fair.{MayStand}
use Rattle.feed.specs.declared.Feed.{Feed}

-- Before the first packet nothing is unfinished, no byte has come, and no refusal stands.
abbrev pub opening : Panel → Feed
opening k = record { panel = k; account = record { unfinished = None; total = 0; kept = None } }

-- Every known value is in its fact's range; the unfinished bytes are the cut_off start of a record of this part, and
-- counted in the total; and the kept refusal is one that stands. Its place is not tested.
pub record Good (p : Part) (s : Feed) : Type 0 where
  pub in_range : Sound (range p) (known_of p s.panel)
  pub cut_off : CutOff p (bytes_of s.account.unfinished)
  pub counted : length (bytes_of s.account.unfinished) ≤ s.account.total
  pub told : MayStand s.account.kept

-- The place of the first unfinished byte.
abbrev pub first_place : Feed → ℕ
first_place s = Bytes.first_place s.account.unfinished s.account.total
