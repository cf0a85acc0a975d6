-- `thermometer::temperatures::of_field` meets its contract: 2, then 11, and else what is told of the field. Assumes nothing.
use native.Mathlib.Omega.{arith}
use mathlib.Core.Bool.{true≢false}
use mathlib.Core.Path.{refl, sym, ◌∙◌, subst}
use Rattle.rules.specs.Where.{good, bad}
use Rattle.field.specs.Said.{Said}
use Rattle.thermometer.specs.Answer.{Answers}
use Rattle.thermometer.specs.Laws.{told_known}
use Rattle.thermometer.proofs.temperatures.of_field.Goals as goal

pub returns-then-not-sound : goal.returns-then-not-sound
returns-then-not-sound c = bad (λ g. true≢false (sym (c.sound.ensures.back g) ∙ c.if-not-sound.true)) (record { numbered = refl; placed = refl; says = refl })

pub returns-then-start-gt11 : goal.returns-then-start-gt11
returns-then-start-gt11 c =
    good (c.sound.ensures.so c.if-not-sound.false)
    (bad (λ h. omega (arith, c.if-start-gt11.true)) (record { numbered = refl; placed = refl; says = refl }))

pub returns : goal.returns
returns c =
    let a = c.args in
    let sound = c.sound.ensures.so c.if-not-sound.false in
    good sound
    (good (omega (arith, c.if-start-gt11.false))
    (subst (λ (s : Said). Answers 0 s c.in_degrees.result) (c.tell.ensures ∙ told_known a.k a.start.0 sound) c.in_degrees.ensures))
