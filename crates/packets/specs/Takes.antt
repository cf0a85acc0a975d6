-- The whole answer to a packet (M-100): number, place, knowledge, unfinished bytes, total and standing refusal, on good and
-- on refused calls.
use Rattle.std.specs.Prelude.{ℕ, ◌+◌, ◌≡◌, List, ◌++◌, length, Ok, Err}
use Rattle.terms.specs.declared.Part.{Part}
use Rattle.terms.specs.Part.{PartRead}
use Rattle.recording.specs.Walk.{walked, events, end_of}
use Rattle.walks.specs.Turn.{InTurn}
use Rattle.parts.specs.Facts.{same?, range, move}
use Rattle.panel.specs.declared.Panel.{Panel}
use Rattle.panel.specs.View.{known_of, OtherKept}
use Rattle.answers.specs.Answer.{number, place}
use Rattle.account.specs.declared.unfinished.Unfinished.{Unfinished}
use Rattle.account.specs.Bytes.{bytes_of, first_place}
use Rattle.account_ends.specs.declared.ended.Ended.{Ended}
use Rattle.account_ends.specs.Ended.{ByEnd}
use Rattle.feed.specs.declared.Feed.{Feed}
use Rattle.feed.specs.Tests.{Tested}
use Rattle.packets.specs.declared.records.Taken.{Taken}

-- Refused before its records, with the number n at a place: nothing changes.
pub record RefusedBy (n at : ℕ) (s : Feed) (r : Taken) : Type 0 where
  pub numbered : number r.answer ≡ n
  pub placed : place r.answer ≡ at
  pub kept : r.feed ≡ s

-- The account after the packet, beside the knowledge.
abbrev pub ends : Taken → Ended
ends r = record { answer = r.answer; account = r.feed.account }

-- The records of a row: how they end, and what is known after the last good one.
pub record ReadsRow (p : Part) (k : Panel) (first before after : ℕ) (l : List ℕ) (r : Taken) : Type 0 where
  pub ended : ByEnd (end_of (walked p l)) first before after l (ends r)
  pub known : InTurn (known_of p) (same? p) (range p) (move p) (events (walked p l)) k r.feed.panel
  pub kept : OtherKept p k r.feed.panel

-- The row of a packet is what was unfinished, and its bytes.
abbrev pub ReadsWith : Part → Panel → Unfinished → ℕ → List ℕ → Taken → Type 0
ReadsWith p k u total l r = ReadsRow p k (first_place u total) total (total + length l) (bytes_of u ++ l) r

abbrev pub Reads : Part → Feed → List ℕ → Taken → Type 0
Reads p s l r = ReadsWith p s.panel s.account.unfinished s.account.total l r

abbrev pub TakesPart : Part → Feed → List ℕ → Taken → Type 0
TakesPart p s l r = Tested p s (length l) (λ n at. RefusedBy n at s r) (Reads p s l r)

-- Test 1 comes first.
abbrev pub Takes : PartRead → Feed → List ℕ → Taken → Type 0
Takes (Ok p) s l r = TakesPart p s l r
Takes (Err e) s l r = RefusedBy 1 0 s r

-- A knowledge and an account, put together.
abbrev pub taking : Panel → Ended → Taken
taking k e = record { answer = e.answer; feed = record { panel = k; account = e.account } }
