-- "Refused prints only refused n at p": where that points (M-104), from the program's own input. The argument: the page of a
-- refusal is that line, and a replay that is refused by a record points into the recording (`replay/Points`).
use Rattle.std.specs.Prelude.{ℕ, ◌≤◌, ◌≡◌, refl, List, Ok}
use Rattle.std.proofs.Common.{arith, subst}
use Rattle.terms.specs.Part.{part_of}
use Rattle.terms.specs.declared.Part.{Part}
use Rattle.answers.specs.Answer.{number, place}
use Rattle.answers.specs.Points.{PointsIn}
use Rattle.replay.specs.Points.{nothing_points}
use Rattle.refusals.specs.Refusal.{refused_at}
use Rattle.writing.specs.Prints.{Prints}
use Rattle.page.specs.Page.{room}
use Rattle.page.specs.Laws.{page_refused}
use Rattle.mirror.specs.Mirror.{Shows}

module _ (b : ℕ) (p : Part) (named : part_of b ≡ Ok p) (recording : List ℕ) {out : List ℕ} {r : ℕ} {out' : List ℕ} (s : Shows b recording out r out')
    (five : 5 ≤ number s.after.answer) where
  pub mirror_points : PointsIn p recording 0 0 s.after.answer × Prints room (refused_at (number s.after.answer) (place s.after.answer)) out r out'
  mirror_points = (nothing_points b p named recording s.after s.replayed five, prints)
    where
      prints : Prints room (refused_at (number s.after.answer) (place s.after.answer)) out r out'
      prints =
          let e = page_refused (part_of b) s.after.answer s.after.panel {n = number s.after.answer} {p = place s.after.answer} (λ z. omega (arith, z, five)) refl refl in
          subst (λ (text : List ℕ). Prints room text out r out') e s.printed
