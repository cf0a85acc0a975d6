-- The premises of demand 3's last sentence can be met: power makes such a start of any knowledge, and the strobes of the
-- examples P1, P4 and P11 are such recordings. The argument: power sets every setting and the position; the rest computes.
use Rattle.std.specs.Prelude.{ℕ, ◌≡◌, refl, Bool, true, false, List, [], ◌∷◌, ltb}
use Rattle.std.proofs.Common.{arith, sym, ap, true≢false, ltb-true}
use Rattle.rules.specs.Choice.{whether}
use Rattle.rules.specs.Change.{keep}
use Rattle.rules.specs.Touch.{bits_at}
use Rattle.knowing.specs.Standing.{Standing}
use Rattle.knowing.specs.Know.{know, lifted}
use Rattle.terms.specs.declared.Event.TheVariants.{Power}
use Rattle.terms.specs.declared.Part.{Part}
use Rattle.terms.specs.declared.Part.TheVariants.{Pt6302, Pt6312, Pt6315}
use Rattle.segment.specs.declared.Family.{Family}
use Rattle.segment.specs.declared.Family.TheVariants as OfFamily
use Rattle.segment.specs.Family.{sizes}
use Rattle.segment.specs.Fact as Segment
use Rattle.segment.specs.Move as SegmentMove
use Rattle.segment.specs.Laws as SegmentLaws
use Rattle.character.specs.Fact as Character
use Rattle.character.specs.Laws as CharacterLaws
use Rattle.parts.specs.Facts.{Fact, same?, range, move}
use Rattle.whole.specs.Sentence.{IsKnown, position, StartKnows, has_gap, DefinedOn, NoUndefined, starts_first}
use Rattle.demand.specs.Recording.{events_from}

pub no_segment_setting : Segment.memory ≡ Segment.setting → ⊥
no_segment_setting e =
    let z : ◌≡◌ {A = ℕ} 0 1 = cc in
    omega arith

pub no_input_setting : Segment.input ≡ Segment.setting → ⊥
no_input_setting e =
    let z : ◌≡◌ {A = ℕ} 0 1 = cc in
    omega arith

pub no_character_setting : Character.memory ≡ Character.setting → ⊥
no_character_setting e =
    let z : ◌≡◌ {A = ℕ} 0 1 = cc in
    omega arith

-- A bit that is a setting is one of the LED's four, or of the port's two.
pub led_set : (t : Bool) → whether t Segment.setting Segment.memory ≡ Segment.setting → t ≡ true
led_set true e = refl
led_set false e = absurd (no_segment_setting e)

pub port_set : (t : Bool) → whether t Character.setting Character.memory ≡ Character.setting → t ≡ true
port_set true e = refl
port_set false e = absurd (no_character_setting e)

powered_segment : (q : Family) (k : Segment.Fact → Standing) (f : Segment.Fact) → Segment.sort f ≡ Segment.setting
    → IsKnown (know Segment.same? (Segment.range (sizes q)) (SegmentMove.move (sizes q) Power) k f)
powered_segment q k =
    SegmentLaws.every _ (λ i j e. absurd (no_segment_setting e)) (λ e. (_, refl)) (λ e. (_, refl)) (λ e. (_, refl))
    (λ e. (_, refl)) (λ e. (_, refl)) (λ e. (_, refl))
    (λ j e. (_, ap (lifted k) (bits_at Segment.same? Segment.led SegmentLaws.leds_apart 4 (sizes q).led keep j (ltb-true j 4 (led_set (ltb j 4) e)))))
    (λ i e. absurd (no_input_setting e)) (λ e. absurd (no_input_setting e)) (λ e. (_, refl)) (λ e. (_, refl))

-- After power, whatever was known before, the settings and the position are known.
pub powered_knows : (p : Part) (k : Fact p → Standing) → StartKnows p (know (same? p) (range p) (move p Power) k)
powered_knows Pt6302 k = record {
  settings =
      CharacterLaws.every _ (λ i j e. absurd (no_character_setting e)) (λ i j e. absurd (no_character_setting e))
      (λ i j e. absurd (no_character_setting e)) (λ e. (_, refl)) (λ e. (_, refl)) (λ e. (_, refl)) (λ e. (_, refl))
      (λ j e. (_, ap (lifted k) (bits_at Character.same? Character.port CharacterLaws.ports_apart 2 0 keep j (ltb-true j 2 (port_set (ltb j 2) e))))) (λ e. (_, refl)) (λ e. (_, refl)) (λ e. (_, refl)) (λ e. (_, refl));
  position_known = (_, refl);
}
powered_knows Pt6312 k = record { settings = powered_segment OfFamily.Pt6312 k; position_known = (_, refl) }
powered_knows Pt6315 k = record { settings = powered_segment OfFamily.Pt6315 k; position_known = (_, refl) }

-- And the position is not first byte, so that the first byte behind it is no command.
pub powered_idle : (p : Part) (k : Fact p → Standing)
    → starts_first p (know (same? p) (range p) (move p Power) k (position p)) ≡ false
powered_idle Pt6302 k = refl
powered_idle Pt6312 k = refl
powered_idle Pt6315 k = refl

-- No gap and no undefined command, where the start's position is not first byte.
abbrev Clean : Part → List ℕ → Type 0
Clean p l = (has_gap (events_from p 0 l) ≡ false) × NoUndefined (DefinedOn p) false (events_from p 0 l)

-- A byte that is not the first of its strobe is no command.
later : {D : Type 0} → false ≡ true → D
later e = absurd (true≢false (sym e))

pub p1_clean : Clean Pt6312 (0x02 ∷ 0x03 ∷ 0xC0 ∷ 0x03 ∷ 0x5A ∷ 0x04 ∷ [])
unfolding sizes
p1_clean = (refl, (λ _. tt, (λ _. tt, (later, (λ _. tt, tt)))))

pub p4_clean : Clean Pt6315 (0x02 ∷ 0x03 ∷ 0xE3 ∷ 0x03 ∷ 0x7F ∷ 0x04 ∷ [])
unfolding sizes
p4_clean = (refl, (λ _. tt, (λ _. tt, (later, (λ _. tt, tt)))))

pub p11_clean : Clean Pt6302 (0x02 ∷ 0x03 ∷ 0x1F ∷ 0x03 ∷ 0x41 ∷ 0x03 ∷ 0x42 ∷ 0x04 ∷ [])
p11_clean = (refl, (λ _. tt, (λ _. tt, (later, (later, (λ _. tt, tt))))))
