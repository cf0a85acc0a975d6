-- A report as what is known of the byte to be sent next, not driven being one more value than a byte has.
use Rattle.knowing.specs.Standing.{Standing}
use Rattle.segment.specs.declared.Sent.{Sent}
use Rattle.segment.specs.Sent.{sent_number}
use Rattle.fact.specs.declared.Single.{Single}
use Rattle.fact.specs.View.{standing}

abbrev pub sending : Single Sent → Standing
sending = standing sent_number

-- There is one thing to report.
abbrev pub reports : Single Sent → Unit {0} → Standing
reports r _ = sending r
