-- What holds of both parts, and of every fact.
use Rattle.std.specs.Prelude.{ℕ, ◌≤◌, ◌<◌, ◌≡◌, refl, List, Bool, true, false, length, get_or, set, ltb}
use Rattle.std.proofs.Common.{arith, sym, ap, ◌∙◌, length-set}
use Rattle.rules.specs.Digit.{lamp, narrow, put_low}
use Rattle.rules.specs.Choice.{whether}
use Rattle.rules.specs.Rule.{value, copy, free, Told, told, outcome, becomes}
use Rattle.rules.specs.Change.{keep, change}
use Rattle.rules.specs.Laws.{becomes_set, became, told_byte, told_low}
use Rattle.segment.specs.declared.Sizes.{Sizes}
use Rattle.segment.specs.Move.{Forms, sets, stores, lights, tested, keys_latched}
use Rattle.segment.specs.declared.Segment.{Segment}
use Rattle.segment.specs.View.{view}
use Rattle.segment.specs.declared.Family.{Family}
use Rattle.segment.specs.declared.Family.TheVariants.{Pt6312, Pt6315}
use Rattle.segment.specs.Family.{sizes}
use Rattle.segment.specs.Fact.{Fact, same?, by_sort, setting, memory, cell, address, data_mode, stepping, mode, dimming, display, led, key, switches, read_count, position}

-- Each part has a place for its cells and its key bytes.
pub room : (p : Family) → ((sizes p).cells ≤ 36) × ((sizes p).keys ≤ 4)
unfolding sizes
room Pt6312 = omega arith
room Pt6315 = omega arith

-- And it has cells.
pub some_cells : (p : Family) → 0 < (sizes p).cells
unfolding sizes
some_cells Pt6312 = omega arith
some_cells Pt6315 = omega arith

-- What holds of each fact holds of all.
pub every : (P : Fact → Type 0) → ((i k : ℕ) → P (cell i k)) → P address → P data_mode → P stepping → P mode → P dimming → P display → ((k : ℕ) → P (led k))
    → ((i : ℕ) → P (key i)) → P switches → P read_count → P position → (f : Fact) → P f
every P c a d s m b v l k w r p (cell i j) = c i j
every P c a d s m b v l k w r p address = a
every P c a d s m b v l k w r p data_mode = d
every P c a d s m b v l k w r p stepping = s
every P c a d s m b v l k w r p mode = m
every P c a d s m b v l k w r p dimming = b
every P c a d s m b v l k w r p display = v
every P c a d s m b v l k w r p (led j) = l j
every P c a d s m b v l k w r p (key i) = k i
every P c a d s m b v l k w r p switches = w
every P c a d s m b v l k w r p read_count = r
every P c a d s m b v l k w r p position = p

pub cells_apart : (i k j n : ℕ) → cell i k ≡ cell j n → (i ≡ j) × (k ≡ n)
cells_apart i k j n e = (cc, cc)

pub leds_apart : (k n : ℕ) → led k ≡ led n → k ≡ n
leds_apart k n e = cc

pub keys_apart : (i j : ℕ) → key i ≡ key j → i ≡ j
keys_apart i j e = cc

-- The cells with one of them set, as the rule has them, bit by bit.
pub cell_stored : (c : Segment) (new : List ℕ) (a b i k : ℕ) → new ≡ set c.cells a b → a < length c.cells
    → ◌≡◌ {A = Told} (record { value = lamp k (get_or new i 0); any = false }) (told (view c (cell i k)) (outcome (view c) (stores a b keep (cell i k))))
cell_stored c new a b i k e h = told_byte same? cell cells_apart (view c) c.cells new a b i k _ e h (λ i k. refl)

-- The LED with the low nibble of a byte, as the rule has it, bit by bit.
pub led_lit : (c : Segment) (new b k : ℕ) → new ≡ put_low 15 c.led b
    → ◌≡◌ {A = Told} (record { value = narrow 4 k new; any = false }) (told (view c (led k)) (outcome (view c) (lights b keep (led k))))
led_lit c new b k e = told_low same? led leds_apart (view c) keep 4 c.led new b k _ refl refl e

-- The fourth key byte, set where the part has one.
fourth : (t : Bool) (c : Segment) (k3 i : ℕ) → 3 < length c.keys
    → outcome (view c) (change same? (key 3) (whether t (value k3) (copy (key 3))) keep (key i)) ≡ becomes (get_or (whether t (set c.keys 3 k3) c.keys) i 0)
fourth true c k3 i h = becomes_set same? key keys_apart (view c) keep c.keys 3 k3 i h refl
fourth false c k3 i h = go (same? (key i) (key 3))
  where
    go : (d : Dec (key i ≡ key 3)) → outcome (view c) (elim d [ yes _ ↦ copy (key 3) | no _ ↦ copy (key i) ]) ≡ becomes (get_or c.keys i 0)
    go (yes p) = ap (λ (n : ℕ). becomes (get_or c.keys n 0)) (sym (keys_apart i 3 p))
    go (no n) = refl

fourth_length : (t : Bool) (l : List ℕ) (k3 : ℕ) → length (whether t (set l 3 k3) l) ≡ length l
fourth_length true l k3 = length-set l 3 k3
fourth_length false l k3 = refl

-- The key bytes as the rule has them: each set in its turn, the fourth where the part has one.
pub key_latched : (s : Sizes) (c : Segment) (k0 k1 k2 k3 : ℕ) (rest new : List ℕ) (i : ℕ)
    → rest ≡ whether (ltb 3 s.keys) (set c.keys 3 k3) c.keys → length c.keys ≡ 4 → new ≡ set (set (set rest 2 k2) 1 k1) 0 k0
    → ◌≡◌ {A = Told} (record { value = get_or new i 0; any = false }) (told (view c (key i)) (outcome (view c) (keys_latched s k0 k1 k2 k3 (key i))))
key_latched s c k0 k1 k2 k3 rest new i e n d =
    let t = ltb 3 s.keys in
    let l3 : List ℕ = whether t (set c.keys 3 k3) c.keys in
    let m3 : length l3 ≡ 4 = fourth_length t c.keys k3 ∙ n in
    let l2 : List ℕ = set l3 2 k2 in
    let m2 : length l2 ≡ 4 = length-set l3 2 k2 ∙ m3 in
    let l1 : List ℕ = set l2 1 k1 in
    let m1 : length l1 ≡ 4 = length-set l2 1 k1 ∙ m2 in
    let φ3 : Forms = change same? (key 3) (whether t (value k3) (copy (key 3))) keep in
    let φ2 : Forms = sets (key 2) k2 φ3 in
    let φ1 : Forms = sets (key 1) k1 φ2 in
    became _ _ (view c (key i)) _ (ap (λ (l : List ℕ). get_or l i 0) (d ∙ ap (λ (l : List ℕ). set (set (set l 2 k2) 1 k1) 0 k0) e))
    (becomes_set same? key keys_apart (view c) φ1 l1 0 k0 i (omega arith)
    (becomes_set same? key keys_apart (view c) φ2 l2 1 k1 i (omega arith)
    (becomes_set same? key keys_apart (view c) φ3 l3 2 k2 i (omega arith) (fourth t c k3 i (omega arith)))))

-- In test mode every bit of the LED is anything, and one past its nibble too.
pub led_tested : (k : ℕ) → tested (led k) ≡ free
led_tested k = go (ltb k 4)
  where
    go : (t : Bool) → by_sort free free (copy (led k)) (value 3) (whether t setting memory) ≡ free
    go true = refl
    go false = refl
