-- What the program gives: the checksum of rounds that take one recording, whole or in packets, from one start.
use Rattle.std.specs.Prelude.{ℕ, zero, suc, ◌+◌, ◌*◌, ◌<◌, ◌≤◌, ◌≡◌, List, length, get_or, take, drop}
use Rattle.terms.specs.Part.{PartRead, part_of}
use Rattle.panel.specs.declared.Panel.{Panel}
use Rattle.feed.specs.declared.Feed.{Feed}
use Rattle.feed.specs.Feed.{opening}
use Rattle.feed.specs.Close.{Closes}
use Rattle.packets.specs.declared.records.Taken.{Taken}
use Rattle.packets.specs.Takes.{Takes}
use Rattle.replay.specs.declared.replays.Replayed.{Replayed}
use Rattle.replay.specs.Replay.{Replays}
use Rattle.checksum.specs.Panels.{answer_sum, part_sum}
use Rattle.bench.specs.declared.start.Marks.{Marks}
use Rattle.bench.specs.Start.{Starts}

-- The packets of a recording up to a place, each of the size, and each taken through what the one before left.
pub data Fed (size : ℕ) (q : PartRead) (recording : List ℕ) (start : Feed) : ℕ → Feed → Type 0 where
  first : Fed size q recording start zero start
  next : {at : ℕ} {feed : Feed} (r : Taken) → Fed size q recording start at feed → at + size < length recording
      → Takes q feed (take size (drop at recording)) r → Fed size q recording start (at + size) r.feed

-- All packets: behind those the last, which has what is left.
pub record AllFed (size part : ℕ) (start : Panel) (recording : List ℕ) (after : Feed) : Type 0 where
  pub at : ℕ
  pub before : Feed
  pub fed : Fed size (part_of part) recording (opening start) at before
  pub fits : length recording ≤ at + size
  pub last : Taken
  pub takes : Takes (part_of part) before (drop at recording) last
  pub leaves : after ≡ last.feed

-- A round in packets: they are taken in turn, and then the recording is closed.
pub record InPackets (size part : ℕ) (start : Panel) (recording : List ℕ) (r : Replayed) : Type 0 where
  pub after : Feed
  pub fed : AllFed size part start recording after
  pub closes : Closes (part_of part) after r.answer
  pub knows : r.panel ≡ after.panel

-- One round: the size 0 stands for the whole recording.
pub record Round (size part : ℕ) (start : Panel) (recording : List ℕ) (r : Replayed) : Type 0 where
  pub whole : size ≡ 0 → Replays (part_of part) start recording 0 r
  pub cut : (size ≡ 0 → ⊥) → InPackets size part start recording r

-- Rounds one after the other, none left out: every answer goes into the sum, and what the last one ends with is told.
pub data Rounds (size part : ℕ) (start : Panel) (recording : List ℕ) : ℕ → ℕ → Panel → Type 0 where
  none : Rounds size part start recording zero 0 start
  more : {n sum : ℕ} {last : Panel} (r : Replayed) → Rounds size part start recording n sum last → Round size part start recording r
      → Rounds size part start recording (suc n) (answer_sum sum r.answer) r.panel

-- With no rounds that is the start itself.
pub record Summed (size part : ℕ) (start : Panel) (recording : List ℕ) (rounds r : ℕ) : Type 0 where
  pub sum : ℕ
  pub last : Panel
  pub each : Rounds size part start recording rounds sum last
  pub summed : r ≡ part_sum sum (part_of part) last

-- A number in two bytes, the low byte first. What is missing counts as 0.
abbrev pub number_at : List ℕ → ℕ → ℕ
number_at input i = get_or input i 0 + get_or input (i + 1) 0 * 256

abbrev pub marks_at : List ℕ → ℕ → Marks
marks_at input i = record { position = get_or input i 0; «data» = get_or input (i + 1) 0; addresses = get_or input (i + 2) 0 }

-- The input: the number of rounds, the size of a packet and of the prelude, the marks, the part byte, the prelude and the recording.
pub record Measures (input : List ℕ) (r : ℕ) : Type 0 where
  pub start : Panel
  pub starts : Starts (marks_at input 8) (get_or input 11 0) (take (number_at input 6) (drop 12 input)) start
  pub summed : Summed (number_at input 4) (get_or input 11 0) start (drop (number_at input 6) (drop 12 input)) (number_at input 0 + number_at input 2 * 65536) r
