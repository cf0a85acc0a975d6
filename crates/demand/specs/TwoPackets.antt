-- Two answers that are the same but for the total; that packets are the replay of the whole stands in proofs/TwoPackets.
use Rattle.std.specs.Prelude.{◌≡◌}
use Rattle.account.specs.Bytes.{bytes_of}
use Rattle.packets.specs.declared.records.Taken.{Taken}

-- The same answer, unfinished bytes and standing refusal.
pub record SameButTotal (q t : Taken) : Type 0 where
  pub answer : q.answer ≡ t.answer
  pub unfinished : bytes_of q.feed.account.unfinished ≡ bytes_of t.feed.account.unfinished
  pub stands : q.feed.account.kept ≡ t.feed.account.kept
