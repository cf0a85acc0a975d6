-- Where a byte goes, as the code tells it, and what the first byte behind a fall does.
use Rattle.std.specs.Prelude.{ℕ, ◌≡◌, refl}
use Rattle.std.proofs.Common.{subst}
use Rattle.std.proofs.Math.Path.{subst⁻¹}
use Rattle.rules.specs.Rule.{gives}
use Rattle.knowing.specs.Standing.{known}
use Rattle.knowing.specs.Ways as Ways
use Rattle.fact.specs.View.{stands}
use Rattle.terms.specs.declared.Event.TheVariants.{ByteIn, Falls}
use Rattle.character.specs.declared.command.Command.{Command}
use Rattle.character.specs.Command.{command_of}
use Rattle.character.specs.Fact.{same?, range, position}
use Rattle.character.specs.Move.{nothing, commanded, byte_in, move}
use Rattle.character_knowledge.specs.declared.Control.{Control}
use Rattle.character_knowledge.specs.View.{Memory, blank, cview}
use Rattle.character_steps.specs.Step.{Keeps, Forgets}
use Rattle.character_known.specs.declared.everyday.Target.{Target}
use Rattle.character_known.specs.declared.everyday.Target.TheVariants.{Shown, Drawn, Marked, Nowhere, Elsewhere}
use Rattle.character_known.specs.Position.{other_place}
use Rattle.character_known.specs.Ram.{text, columns, pairs, Aims}

-- No byte changes anything.
abbrev pub Deaf : Control → Type 0
Deaf c = (b : ℕ) → Keeps (move (ByteIn b)) c c

-- That is so where the position is none that a byte has a meaning at.
pub deaf : (c : Control) (n : ℕ) → stands c.position ≡ known n → ¬ (n ≡ 1) → ¬ (n ≡ 2) → ¬ (n ≡ 3) → ¬ (n ≡ 4) → Deaf c
deaf c n e p q r s b m =
    Ways.known_way (cview m) (cview m) same? range position (byte_in b) c c n e
    (Ways.as_rule (cview m) (cview m) same? range (byte_in b n) nothing c c (other_place _ _ _ _ n p q r s) (λ f. refl))

-- What a target says of the control.
abbrev pub Hits : Control → Target → Type 0
Hits c (Shown a) = Aims text c a.0
Hits c (Drawn a) = Aims columns c a.0
Hits c (Marked a) = Aims pairs c a.0
Hits c Nowhere = Deaf c
Hits c Elsewhere = Unit

-- Said of a target that is another, in name.
pub hit : (c : Control) {t u : Target} → t ≡ u → Hits c t → Hits c u
hit c e h = subst (λ (x : Target). Hits c x) e h

-- Behind a fall the next byte is a first byte, and so a command.
module _ (b : ℕ) {x : Command} (c begun r : Control) (fallen : Keeps (move Falls) c begun) (said : command_of b ≡ x) where
  ruled : (m n : Memory) → Ways.Knows (cview m) (cview n) same? range (gives (commanded x)) begun r → Ways.Knows (cview m) (cview n) same? range (move (ByteIn b)) begun r
  ruled m n h =
      Ways.known_way (cview m) (cview n) same? range position (byte_in b) begun r 1 (fallen m position)
      (subst⁻¹ (λ (y : Command). Ways.Knows (cview m) (cview n) same? range (gives (commanded y)) begun r) said h)

  pub first_kept : Keeps (gives (commanded x)) begun r → Keeps (move (ByteIn b)) begun r
  first_kept h m = ruled m m (h m)

  pub first_forgot : Forgets (gives (commanded x)) begun r → Forgets (move (ByteIn b)) begun r
  first_forgot h m = ruled m blank (h m)
