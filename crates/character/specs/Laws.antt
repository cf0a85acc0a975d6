-- What holds of every fact, of the RAMs and of the port.
use Rattle.std.specs.Prelude.{ℕ, ◌<◌, ◌≡◌, refl, List, Bool, true, false, length, get_or, set, ltb}
use Rattle.rules.specs.Digit.{lamp, narrow, put_low}
use Rattle.rules.specs.Choice.{whether}
use Rattle.rules.specs.Rule.{Form, value, copy, free, Told, told, outcome}
use Rattle.rules.specs.Change.{keep}
use Rattle.rules.specs.Laws.{told_byte, told_low, told_low_in}
use Rattle.character.specs.declared.Character.{Character}
use Rattle.character.specs.Fact.{Fact, same?, by_sort, setting, memory, dcram, cgram, adram, dcram_at, cgram_at, adram_at, column, port, duty, digits, lights, position}
use Rattle.character.specs.View.{view}
use Rattle.character.specs.Move.{Forms, spells, undefined}

-- What holds of each fact holds of all.
pub every : (P : Fact → Type 0) → ((i k : ℕ) → P (dcram i k)) → ((i k : ℕ) → P (cgram i k)) → ((i k : ℕ) → P (adram i k)) → P dcram_at → P cgram_at → P adram_at
    → P column → ((k : ℕ) → P (port k)) → P duty → P digits → P lights → P position → (f : Fact) → P f
every P d g a x y z k p u n l q (dcram i j) = d i j
every P d g a x y z k p u n l q (cgram i j) = g i j
every P d g a x y z k p u n l q (adram i j) = a i j
every P d g a x y z k p u n l q dcram_at = x
every P d g a x y z k p u n l q cgram_at = y
every P d g a x y z k p u n l q adram_at = z
every P d g a x y z k p u n l q column = k
every P d g a x y z k p u n l q (port j) = p j
every P d g a x y z k p u n l q duty = u
every P d g a x y z k p u n l q digits = n
every P d g a x y z k p u n l q lights = l
every P d g a x y z k p u n l q position = q

pub dcram_apart : (i k j n : ℕ) → dcram i k ≡ dcram j n → (i ≡ j) × (k ≡ n)
dcram_apart i k j n e = (cc, cc)

pub cgram_apart : (i k j n : ℕ) → cgram i k ≡ cgram j n → (i ≡ j) × (k ≡ n)
cgram_apart i k j n e = (cc, cc)

pub adram_apart : (i k j n : ℕ) → adram i k ≡ adram j n → (i ≡ j) × (k ≡ n)
adram_apart i k j n e = (cc, cc)

pub ports_apart : (k n : ℕ) → port k ≡ port n → k ≡ n
ports_apart k n e = cc

-- Each RAM with one of its cells set, as the rule has it, bit by bit.
pub dcram_stored : (c : Character) (new : List ℕ) (a b i k : ℕ) → new ≡ set c.dcram a b → a < length c.dcram
    → ◌≡◌ {A = Told} (record { value = lamp k (get_or new i 0); any = false }) (told (view c (dcram i k)) (outcome (view c) (spells (dcram a) 8 b keep (dcram i k))))
dcram_stored c new a b i k e h = told_byte same? dcram dcram_apart (view c) c.dcram new a b i k _ e h (λ i k. refl)

pub cgram_stored : (c : Character) (new : List ℕ) (a b i k : ℕ) → new ≡ set c.cgram a (put_low 127 (get_or c.cgram a 0) b) → a < length c.cgram
    → ◌≡◌ {A = Told} (record { value = narrow 7 k (get_or new i 0); any = false }) (told (view c (cgram i k)) (outcome (view c) (spells (cgram a) 7 b keep (cgram i k))))
cgram_stored c new a b i k e h = told_low_in same? cgram cgram_apart (view c) c.cgram new 7 a b i k _ e h (λ i k. refl)

pub adram_stored : (c : Character) (new : List ℕ) (a b i k : ℕ) → new ≡ set c.adram a (put_low 3 (get_or c.adram a 0) b) → a < length c.adram
    → ◌≡◌ {A = Told} (record { value = narrow 2 k (get_or new i 0); any = false }) (told (view c (adram i k)) (outcome (view c) (spells (adram a) 2 b keep (adram i k))))
adram_stored c new a b i k e h = told_low_in same? adram adram_apart (view c) c.adram new 2 a b i k _ e h (λ i k. refl)

-- The port with its two bits made anew, as the rule has it, bit by bit.
pub port_set : (c : Character) (φ : Forms) (new b k : ℕ) → φ (port k) ≡ copy (port k) → new ≡ put_low 3 c.port b
    → ◌≡◌ {A = Told} (record { value = narrow 2 k new; any = false }) (told (view c (port k)) (outcome (view c) (spells port 2 b φ (port k))))
port_set c φ new b k same e = told_low same? port ports_apart (view c) φ 2 c.port new b k _ same refl e

-- Undefined commands leave every bit of the port as anything.
pub port_undefined : (k : ℕ) → undefined (port k) ≡ free
port_undefined k = go (ltb k 2)
  where
    go : (t : Bool) → ◌≡◌ {A = Form Fact} (by_sort free free (value 5) (whether t setting memory)) free
    go true = refl
    go false = refl
