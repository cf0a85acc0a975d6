-- `character_known::lost::nothing_left` meets its contract: each setting is unknown, of the port no bit is known, and of the position and the addresses nothing was.
-- Assumes nothing.
use Rattle.std.proofs.Common.{arith, rules, refl, ap, ◌∙◌, ◌≡◌}
use Rattle.fact.specs.View.{stands}
use Rattle.fact.specs.declared.Single.TheVariants.{Unknown}
use Rattle.lamps.specs.View.{shown}
use Rattle.lamps.specs.Lamp.{none_shown}
use Rattle.character.specs.Laws.{every}
use Rattle.character_known.proofs.lost.nothing_left.Goals as goal

pub returns-in-0 : goal.returns-in-0
returns-in-0 c = λ e.
    let a = c.requires in
    let k = c.args.c in
    let port : k.port ≡ 0 = omega arith in
    let duty : k.duty ≡ Unknown = search rules in
    let digits : k.digits ≡ Unknown = search rules in
    let lights : k.lights ≡ Unknown = search rules in
    every _ (λ i k. refl) (λ i k. refl) (λ i k. refl) a.shown a.drawn a.marked a.inside (λ k. ap (λ n. shown 2 n k) port ∙ none_shown 2 k)
    (ap stands duty) (ap stands digits) (ap stands lights) a.here
