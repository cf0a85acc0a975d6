-- `character_known::anywhere::weakened` meets its contract: the address in CGRAM stays before the last column, and each command sets, in common with what was known, the one fact that it is about.
-- Assumes nothing.
use mathlib.Core.Path.{◌≡◌, refl, sym, ap, ◌∙◌, subst}
use Rattle.rules.specs.Change.{set_bits}
use Rattle.knowing.specs.Standing.{known}
use Rattle.knowing.specs.Know.{join}
use Rattle.fact.specs.View.{stands}
use Rattle.lamps.specs.Lamp.{wide2}
use Rattle.character.specs.Command.{Defined}
use Rattle.character.specs.Laws.{every}
use Rattle.character_knowledge.specs.View.{points}
use Rattle.fact.specs.declared.Single.TheVariants.{Unknown}
use mathlib.Core.Bool.{Bool}
use Rattle.rules.specs.Choice.{whether}
use Rattle.character_known.specs.Weakened.{lasts, stays, same, same_place, port_met}
use Rattle.character_known.proofs.anywhere.weakened.Goals as goal
use Rattle.character_known.proofs.anywhere.weakened.Goals.{Joined-last, in-Known, in-Unknown, then-last, else-last}

-- Where the two branches before the command have come together.
place : (c : Joined-last) → c.if-last.cgram_at ≡ stays c.args.c.cgram_at c.args.c.column
place c =
    let l : c.match-column.last ≡ lasts c.args.c.column = elim c.match-column.branch [ in-Known w ↦ w.last-is ∙ ap lasts (sym w.in-Known.is) | in-Unknown w ↦ w.last-is ∙ ap lasts (sym w.in-Unknown.is) ] in
    elim c.if-last.branch [
      | then-last w ↦ w.cgram_at-is ∙ sym (ap (λ (t : Bool). whether t Unknown c.args.c.cgram_at) (sym l ∙ w.if-last.true))
      | else-last w ↦ w.cgram_at-is ∙ sym (ap (λ (t : Bool). whether t Unknown c.args.c.cgram_at) (sym l ∙ w.if-last.false))
    ]

-- A command that is not about it leaves it.
still : (c : Joined-last) → points c.if-last.cgram_at ≡ join (points (stays c.args.c.cgram_at c.args.c.column)) (points c.args.c.cgram_at)
still c = ap points (place c) ∙ same_place c.args.c.cgram_at c.args.c.column

pub returns-in-Cgram : goal.returns-in-Cgram
returns-in-Cgram c = rw c.in-Cgram.is (λ m. every _ (λ i k. same _) (λ i k. same _) (λ i k. same _) refl (c.both-cgram_at.ensures ∙ ap (λ s. join s (known c.in-Cgram.address.0)) (ap points (place (goal.at.returns-in-Cgram c).Joined-last))) refl refl (λ k. same _) (same _) (same _) (same _) refl)

pub returns-in-Port : goal.returns-in-Port
unfolding set_bits
returns-in-Port c = rw c.in-Port.is (λ m. every _ (λ i k. same _) (λ i k. same _) (λ i k. same _) refl (still (goal.at.returns-in-Port c).Joined-last) refl refl (port_met c.args.c _ _ _ (c.code_of.ensures 2 wide2) c.meet_code-port.ensures m) (same _) (same _) (same _) refl)

pub returns-in-Duty : goal.returns-in-Duty
returns-in-Duty c = rw c.in-Duty.is (λ m. every _ (λ i k. same _) (λ i k. same _) (λ i k. same _) refl (still (goal.at.returns-in-Duty c).Joined-last) refl refl (λ k. same _) c.both-duty.ensures (same _) (same _) refl)

pub returns-in-Digits : goal.returns-in-Digits
returns-in-Digits c = rw c.in-Digits.is (λ m. every _ (λ i k. same _) (λ i k. same _) (λ i k. same _) refl (still (goal.at.returns-in-Digits c).Joined-last) refl refl (λ k. same _) (same _) c.both-digits.ensures (same _) refl)

pub returns-in-Light : goal.returns-in-Light
returns-in-Light c = rw c.in-Light.is (λ m. every _ (λ i k. same _) (λ i k. same _) (λ i k. same _) refl (still (goal.at.returns-in-Light c).Joined-last) refl refl (λ k. same _) (same _) (same _) (c.both-lights.ensures ∙ ap (λ n. join (stands c.args.c.lights) (known n)) c.from.ensures) refl)

pub returns-in-Dcram : goal.returns-in-Dcram
returns-in-Dcram c = rw c.in-Dcram.is (λ m. every _ (λ i k. same _) (λ i k. same _) (λ i k. same _) refl (still (goal.at.returns-in-Dcram c).Joined-last) refl refl (λ k. same _) (same _) (same _) (same _) refl)

pub returns-in-Adram : goal.returns-in-Adram
returns-in-Adram c = rw c.in-Adram.is (λ m. every _ (λ i k. same _) (λ i k. same _) (λ i k. same _) refl (still (goal.at.returns-in-Adram c).Joined-last) refl refl (λ k. same _) (same _) (same _) (same _) refl)

pub returns-in-Nothing : goal.returns-in-Nothing
returns-in-Nothing c = rw c.in-Nothing.is (λ m. every _ (λ i k. same _) (λ i k. same _) (λ i k. same _) refl (still (goal.at.returns-in-Nothing c).Joined-last) refl refl (λ k. same _) (same _) (same _) (same _) refl)

pub returns-in-Undefined : goal.returns-in-Undefined
returns-in-Undefined c = absurd (subst Defined c.in-Undefined.is c.requires)
