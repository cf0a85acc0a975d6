-- Two answers that meet the contract of a move are equal. The argument: the contract fixes the value of every fact, and that it is anything
-- or not; each value of a chip is that of a fact.
use Rattle.std.specs.Prelude.{ℕ, ◌<◌, ◌≡◌, refl, length, get_or}
use Rattle.rules.specs.Digit.{same_lamps, same_narrow}
use Rattle.rules.specs.Choice.{of3, of6}
use Rattle.rules.specs.Rule.{Rule}
use Rattle.rules.specs.Unique.{by_number, same_list, same_value, same_any}
use Rattle.character.specs.declared.Character.{Character}
use Rattle.character.specs.declared.Anything.{Anything}
use Rattle.character.specs.declared.Moved.{Moved}
use Rattle.character.specs.declared.Lights.{Lights}
use Rattle.character.specs.declared.Lights.TheVariants.{Normal, Off, On}
use Rattle.character.specs.declared.Position.{Position}
use Rattle.character.specs.declared.Position.TheVariants.{Idle, First, Dcram, Cgram, Adram, Ignoring}
use Rattle.character.specs.Fact.{Fact, dcram, cgram, adram, dcram_at, cgram_at, adram_at, column, port, duty, digits, lights, position}
use Rattle.character.specs.Value.{lit, at_position}
use Rattle.character.specs.View.{view, covers, By}

-- The lists are as long as the arrays of the type, and DCRAM's cells are bytes. This holds of every chip that code hands over.
pub record Shaped (c : Character) : Type 0 where
  pub dcram : length c.dcram ≡ 16
  pub bytes : (i : ℕ) → get_or c.dcram i 0 < 256
  pub cgram : length c.cgram ≡ 40
  pub adram : length c.adram ≡ 16

read_lights : (l : Lights) → of3 Normal Off On (lit l) ≡ l
read_lights Normal = refl
read_lights Off = refl
read_lights On = refl

read_position : (q : Position) → of6 Idle First Dcram Cgram Adram Ignoring (at_position q) ≡ q
read_position Idle = refl
read_position First = refl
read_position Dcram = refl
read_position Cgram = refl
read_position Adram = refl
read_position Ignoring = refl

-- Two chips with the same value for every fact are one.
pub same_chip : (a b : Character) → Shaped a → Shaped b → ((f : Fact) → view a f ≡ view b f) → a ≡ b
same_chip a b sa sb h =
    let ds = same_list 16 a.dcram b.dcram sa.dcram sb.dcram (λ i. same_lamps _ _ (sa.bytes i) (sb.bytes i) (λ k. h (dcram i k))) in
    let gs = same_list 40 a.cgram b.cgram sa.cgram sb.cgram (λ i. same_narrow 7 _ _ (λ k. h (cgram i k))) in
    let aa = same_list 16 a.adram b.adram sa.adram sb.adram (λ i. same_narrow 2 _ _ (λ k. h (adram i k))) in
    let ports = same_narrow 2 a.port b.port (λ k. h (port k)) in
    let l = by_number lit (of3 Normal Off On) read_lights a.lights b.lights (h lights) in
    let q = by_number at_position (of6 Idle First Dcram Cgram Adram Ignoring) read_position a.position b.position (h position) in
    λ i. record {
      dcram = ds i;
      cgram = gs i;
      adram = aa i;
      dcram_at = record { 0 = h dcram_at i };
      cgram_at = record { 0 = h cgram_at i };
      adram_at = record { 0 = h adram_at i };
      column = h column i;
      port = ports i;
      duty = h duty i;
      digits = h digits i;
      lights = l i;
      position = q i;
    }

same_anything : (a b : Anything) → ((f : Fact) → covers a f ≡ covers b f) → a ≡ b
same_anything a b h = λ i. record { memory = h (dcram 0 0) i; settings = h column i; position = h position i }

-- Two answers that are by one rule, of one chip, are one.
pub one_answer : (rule : Rule Fact Fact) (c : Character) (a b : Moved) → Shaped a.chip → Shaped b.chip → By rule c a → By rule c b → a ≡ b
one_answer rule c a b sa sb ha hb =
    let chips = same_chip a.chip b.chip sa sb (same_value rule (view c) _ _ _ _ ha hb) in
    let anys = same_anything a.any b.any (same_any rule (view c) _ _ _ _ ha hb) in
    λ i. record { chip = chips i; any = anys i }
