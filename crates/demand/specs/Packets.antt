-- The state between packets behind which no refusal stands; the laws of packets in turn stand in proofs/Packets.
use Rattle.std.specs.Prelude.{◌≡◌, None}
use Rattle.terms.specs.declared.Part.{Part}
use Rattle.answers.specs.Answer.{number, place}
use Rattle.feed.specs.Feed.{Good}
use Rattle.packets.specs.declared.records.Taken.{Taken}

-- A state in which no refusal stands, and its last answer.
pub record Stays (p : Part) (x : Taken) : Type 0 where
  pub good : Good p x.feed
  pub free : x.feed.account.kept ≡ None
  pub numbered : number x.answer ≡ 0
  pub placed : place x.answer ≡ x.feed.account.total
