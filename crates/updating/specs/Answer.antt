-- The whole answer of an update: number, place and count, and every byte of the output afterwards (paper 02, M-102: "Refusals: 1, 2 and 10, in that
-- order, with count 0; other parts count as 1 here").
use Rattle.std.specs.Prelude.{ℕ, ◌≤◌, ◌≡◌, List, ◌++◌, length, drop, Result, Ok, Err}
use Rattle.rules.specs.Where.{Where}
use Rattle.knowing.specs.Standing.{Sound}
use Rattle.terms.specs.declared.Part.{Part}
use Rattle.terms.specs.declared.Part.TheVariants.{Pt6302, Pt6312, Pt6315}
use Rattle.terms.specs.Part.{PartRead}
use Rattle.terms.specs.Event.{recording}
use Rattle.segment.specs.declared.Family.{Family}
use Rattle.segment.specs.declared.Family.TheVariants as OfFamily
use Rattle.segment.specs.Family.{sizes}
use Rattle.segment.specs.Fact.{range}
use Rattle.segment_knowledge.specs.declared.Knowledge.{Knowledge}
use Rattle.segment_knowledge.specs.View.{kview}
use Rattle.panel.specs.declared.Panel.{Panel}
use Rattle.updating.specs.declared.StreamSize.{StreamSize}
use Rattle.updating.specs.declared.NotUpdated.{NotUpdated}
use Rattle.updating.specs.declared.NotUpdated.TheVariants.{NoPart, OutOfRange, TooSmall}
use Rattle.updating.specs.Update.{update_events, wire_bytes}

-- The size of what was sent, or why nothing was.
abbrev pub Updated : Type 0
Updated = Result StreamSize NotUpdated

-- Paper 01's number for each case, its place, and the count of wire bytes.
abbrev pub number : Updated → ℕ
number (Ok size) = 0
number (Err (NoPart at)) = 1
number (Err (OutOfRange at)) = 2
number (Err (TooSmall at)) = 10

abbrev pub place : Updated → ℕ
place (Ok size) = size.length.0
place (Err (NoPart at)) = at.0
place (Err (OutOfRange at)) = at.0
place (Err (TooSmall at)) = at.0

abbrev pub count : Updated → ℕ
count (Ok size) = size.wire
count (Err why) = 0

-- Refused by the number n, at place 0: nothing is counted, and the output is as it was.
pub record RefusedBy (n : ℕ) (out : List ℕ) (r : Updated) (after : List ℕ) : Type 0 where
  pub numbered : number r ≡ n
  pub placed : place r ≡ 0
  pub counted : count r ≡ 0
  pub kept : after ≡ out

-- Sent: the stream stands at the front, the place is its length, and behind it all is as it was.
pub record Sent (stream : List ℕ) (n : ℕ) (out : List ℕ) (r : Updated) (after : List ℕ) : Type 0 where
  pub numbered : number r ≡ 0
  pub placed : place r ≡ length stream
  pub counted : count r ≡ n
  pub wrote : after ≡ stream ++ drop (length stream) out

-- The bytes that an update sends, as a recording, and how many of them go over the wire.
abbrev pub stream_of : Family → Knowledge → List ℕ → List ℕ
stream_of q k w = recording (update_events (sizes q) (kview k) w)

abbrev pub count_of : Family → Knowledge → List ℕ → ℕ
count_of q k w = wire_bytes (sizes q) (kview k) w

-- Number 2 exactly where a known value is outside its fact's range; then 10 exactly where the output is shorter than the stream.
abbrev pub UpdatesSegment : Family → Knowledge → List ℕ → List ℕ → Updated → List ℕ → Type 0
UpdatesSegment q k w out r after =
    Where (Sound (range (sizes q)) (kview k))
    (Where (length (stream_of q k w) ≤ length out) (Sent (stream_of q k w) (count_of q k w) out r after) (RefusedBy 10 out r after))
    (RefusedBy 2 out r after)

-- Number 1 exactly where the part byte names no part, or PT6302.
abbrev pub UpdatesPart : Part → Panel → List ℕ → List ℕ → Updated → List ℕ → Type 0
UpdatesPart Pt6302 k w out r after = RefusedBy 1 out r after
UpdatesPart Pt6312 k w out r after = UpdatesSegment OfFamily.Pt6312 k.segment w out r after
UpdatesPart Pt6315 k w out r after = UpdatesSegment OfFamily.Pt6315 k.segment w out r after

abbrev pub Updates : PartRead → Panel → List ℕ → List ℕ → Updated → List ℕ → Type 0
Updates (Ok p) k w out r after = UpdatesPart p k w out r after
Updates (Err e) k w out r after = RefusedBy 1 out r after
