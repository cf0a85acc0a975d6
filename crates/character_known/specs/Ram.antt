-- The three RAMs as one: what a byte that goes to one of them makes of a knowledge, by which RAM it is. A column of CGRAM is numbered through all
-- characters, as a cell of the other two is.
use Rattle.std.specs.Prelude.{ℕ, ◌/◌, ◌%◌, ◌<◌, ◌≡◌}
use Rattle.std.proofs.Common.{subst}
use Rattle.knowing.specs.Standing.{Standing, known, unknown}
use Rattle.fact.specs.View.{stands}
use Rattle.fact.specs.declared.Single.TheVariants.{Known}
use Rattle.changes.specs.declared.Change.{Change}
use Rattle.changes.specs.declared.Change.TheVariants.{Keep, Put, Meet}
use Rattle.character.specs.declared.Position.{Position}
use Rattle.character.specs.declared.Position.TheVariants.{Dcram, Cgram, Adram}
use Rattle.character.specs.Value.{at_position}
use Rattle.character.specs.Fact.{text_bits, column_bits, pair_bits}
use Rattle.character_knowledge.specs.declared.Control.{Control}
use Rattle.character_knowledge.specs.View.{Memory, points}
use Rattle.character_steps.specs.declared.Step.{Step}
use Rattle.character_known.specs.declared.astray.Astray.{Astray}
use Rattle.character_known.specs.declared.astray.Astray.TheVariants.{Shown, Drawn, Marked, Anywhere, Not}

-- DCRAM, CGRAM and ADRAM.
pub data Ram : Type 0 where
  text columns pairs : Ram

-- How many cells each has, of how many bits, and the position of a byte that goes there.
abbrev pub cells : Ram → ℕ
cells text = 16
cells columns = 40
cells pairs = 16

abbrev pub bits : Ram → ℕ
bits text = text_bits
bits columns = column_bits
bits pairs = pair_bits

abbrev pub place : Ram → Position
place text = Dcram
place columns = Cgram
place pairs = Adram

-- The control with the RAM's address at cell n. Behind the last cell comes the first.
abbrev pub aimed : Ram → Control → ℕ → Control
aimed text c n = record {
  dcram_at = Known (record { 0 = n % 16 });
  cgram_at = c.cgram_at;
  adram_at = c.adram_at;
  column = c.column;
  port = c.port;
  duty = c.duty;
  digits = c.digits;
  lights = c.lights;
  position = c.position;
}
aimed columns c n = record {
  dcram_at = c.dcram_at;
  cgram_at = Known (record { 0 = n / 5 % 8 });
  adram_at = c.adram_at;
  column = Known (n % 5);
  port = c.port;
  duty = c.duty;
  digits = c.digits;
  lights = c.lights;
  position = c.position;
}
aimed pairs c n = record {
  dcram_at = c.dcram_at;
  cgram_at = c.cgram_at;
  adram_at = Known (record { 0 = n % 16 });
  column = c.column;
  port = c.port;
  duty = c.duty;
  digits = c.digits;
  lights = c.lights;
  position = c.position;
}

-- The RAM's address is known to be cell n, and not at all.
abbrev pub Pointed : Ram → Control → ℕ → Type 0
Pointed text c n = points c.dcram_at ≡ known n
Pointed columns c n = (points c.cgram_at ≡ known (n / 5)) × (stands c.column ≡ known (n % 5))
Pointed pairs c n = points c.adram_at ≡ known n

abbrev pub Open : Ram → Control → Type 0
Open text c = points c.dcram_at ≡ unknown
Open columns c = (points c.cgram_at ≡ unknown) × (stands c.column ≡ unknown)
Open pairs c = points c.adram_at ≡ unknown

-- The next byte goes to this cell of the RAM, or to any.
pub record Aims (ram : Ram) (c : Control) (n : ℕ) : Type 0 where
  pub here : stands c.position ≡ known (at_position (place ram))
  pub there : Pointed ram c n
  pub inside : n < cells ram

pub record Roams (ram : Ram) (c : Control) : Type 0 where
  pub here : stands c.position ≡ known (at_position (place ram))
  pub unsure : Open ram c

-- Or to any of any RAM, if it goes to one.
pub record Adrift (c : Control) : Type 0 where
  pub here : stands c.position ≡ unknown
  pub shown : points c.dcram_at ≡ unknown
  pub drawn : points c.cgram_at ≡ unknown
  pub inside : stands c.column ≡ unknown
  pub marked : points c.adram_at ≡ unknown

abbrev pub Gone : Control → Astray → Type 0
Gone c Shown = Roams text c
Gone c Drawn = Roams columns c
Gone c Marked = Roams pairs c
Gone c Anywhere = Adrift c
Gone c Not = Unit

-- Said of what is another, in name.
pub gone : (c : Control) {t u : Astray} → t ≡ u → Gone c t → Gone c u
gone c e h = subst (λ (x : Astray). Gone c x) e h

-- The step of a change of one RAM.
abbrev pub changed_in : Ram → Control → Change → Step
changed_in text c x = record { control = c; dcram = x; cgram = Keep; adram = Keep }
changed_in columns c x = record { control = c; dcram = Keep; cgram = x; adram = Keep }
changed_in pairs c x = record { control = c; dcram = Keep; cgram = Keep; adram = x }

abbrev pub put_in : ℕ → ℕ → Change
put_in n b = Put (record { 0 = n }) b

abbrev pub met_in : Ram → ℕ → Change
met_in ram b = Meet (record { 0 = 0 }) 1 (cells ram) b

-- What is known of one RAM, and a memory of which that is known.
abbrev pub of_ram : Ram → Memory → ℕ → ℕ → Standing
of_ram text m = m.dcram
of_ram columns m = m.cgram
of_ram pairs m = m.adram

abbrev pub with_ram : Ram → (ℕ → ℕ → Standing) → Memory → Memory
with_ram text v m = record { dcram = v; cgram = m.cgram; adram = m.adram }
with_ram columns v m = record { dcram = m.dcram; cgram = v; adram = m.adram }
with_ram pairs v m = record { dcram = m.dcram; cgram = m.cgram; adram = v }
