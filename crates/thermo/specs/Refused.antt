-- A recording that is refused is told of first: where that points (M-104), from the program's own input. The place is counted
-- from behind the start. The argument: what is printed is the line of the replay's refusal, and that points into the recording
-- (`replay/Points`).
use Rattle.std.specs.Prelude.{ℕ, ◌≤◌, ◌≡◌, List, Ok}
use Rattle.std.proofs.Common.{arith}
use Rattle.rules.specs.Where.{Where, good, bad}
use Rattle.terms.specs.Part.{part_of}
use Rattle.terms.specs.declared.Part.{Part}
use Rattle.answers.specs.Answer.{number, place}
use Rattle.answers.specs.Points.{PointsIn}
use Rattle.replay.specs.Points.{nothing_points}
use Rattle.refusals.specs.Refusal.{refused_at}
use Rattle.writing.specs.Prints.{Prints}
use Rattle.temperature_line.specs.Line.{room}
use Rattle.thermo.specs.Thermo.{Told, Shows}

module _ (b : ℕ) (p : Part) (named : part_of b ≡ Ok p) (start : ℕ) (recording : List ℕ) {out : List ℕ} {r : ℕ} {out' : List ℕ}
    (s : Shows b start recording out r out') (five : 5 ≤ number s.after.answer) where
  pub thermo_points : PointsIn p recording 0 0 s.after.answer × Prints room (refused_at (number s.after.answer) (place s.after.answer)) out r out'
  thermo_points = (nothing_points b p named recording s.after s.replayed five, prints s.line)
    where
      prints : Where (number s.after.answer ≡ 0) (Told (part_of b) s.after.panel start out r out')
          (Prints room (refused_at (number s.after.answer) (place s.after.answer)) out r out')
          → Prints room (refused_at (number s.after.answer) (place s.after.answer)) out r out'
      prints (good done t) = absurd (omega (arith, done, five))
      prints (bad wrong p) = p
