-- Where a replay that is refused by a record points (M-104). The argument: it answers by how the records from the start place on
-- end.
use Rattle.std.specs.Prelude.{ℕ, ◌≤◌, ◌≡◌, List, Ok}
use Rattle.std.proofs.Common.{arith}
use Rattle.terms.specs.declared.Part.{Part}
use Rattle.terms.specs.Part.{part_of}
use Rattle.panel.specs.declared.Panel.{Panel}
use Rattle.answers.specs.Answer.{number}
use Rattle.answers.specs.Points.{PointsIn, points_in}
use Rattle.replay.specs.declared.replays.Replayed.{Replayed}
use Rattle.replay.specs.Replay.{Replays}
use Rattle.replay.specs.FromNothing.{FromNothing}
use Rattle.replay.specs.ByPart.{replays_by, record_refused}

-- From any start place; the place is counted from the front of the whole recording.
pub replay_points : (b : ℕ) (p : Part) → part_of b ≡ Ok p → (k : Panel) (l : List ℕ) (start : ℕ) (r : Replayed) → Replays (part_of b) k l start r
    → 5 ≤ number r.answer → PointsIn p l start 0 r.answer
replay_points b p named k l start r met five =
    let (x, at, stops, h) = record_refused p k l start r (replays_by k l start r (part_of b) p named met) five in
    let there = h.placed in
    points_in p l start 0 r.answer x at stops h.numbered (omega (arith, there))

-- What the programs replay.
pub nothing_points : (b : ℕ) (p : Part) → part_of b ≡ Ok p → (l : List ℕ) (r : Replayed) → FromNothing b l r → 5 ≤ number r.answer → PointsIn p l 0 0 r.answer
nothing_points b p named l r h five = replay_points b p named h.before l 0 r h.replays five
