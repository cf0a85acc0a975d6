-- Number 2, taken apart: the single facts in range, and that with the rows it is every fact.
use Rattle.std.specs.Prelude.{ℕ, ◌<◌, List, get_or, ltb}
use Rattle.std.proofs.Common.{arith, lt-ltb, le-ltb}
use Rattle.std.proofs.Math.Decide.{dec_lt}
use Rattle.rules.specs.Choice.{whether}
use Rattle.knowing.specs.Standing.{Standing, known, unknown, Within, Sound}
use Rattle.key_codes.specs.View.{coded}
use Rattle.key_codes.specs.Codes.{RowSound, Small, small_within}
use Rattle.lamps.specs.View.{held}
use Rattle.lamps.specs.Lamp.{shown_small}
use Rattle.lamps.specs.Row.{LampsSound}
use Rattle.segment.specs.declared.Sizes.{Sizes}
use Rattle.segment.specs.Fact.{Fact, lacking, range, cell, address, data_mode, stepping, mode, dimming, display, led, key, switches, read_count, position}
use Rattle.segment.specs.Laws.{every}
use Rattle.segment_knowledge.specs.declared.Knowledge.{Knowledge}
use Rattle.segment_knowledge.specs.View.{kview}

abbrev In : Sizes → (Fact → Standing) → Fact → Type 0
In s k f = Within (range s f) (k f)

-- The single facts whose ranges are the part's own: the address, the data mode, the mode and the switches.
abbrev pub OwnSound : Sizes → Standing → Standing → Standing → Standing → Type 0
OwnSound s a d m w = ((Within (range s address) a × Within (range s data_mode) d) × Within (range s mode) m) × Within (range s switches) w

abbrev pub SinglesSound : Sizes → (Fact → Standing) → Type 0
SinglesSound s k =
    ((OwnSound s (k address) (k data_mode) (k mode) (k switches) × ((In s k stepping × In s k dimming) × In s k display)) × ((j : ℕ) → In s k (led j)))
    × (In s k read_count × In s k position)

-- A row's facts are in range where the first of them are: the others are no facts of the part.
row_in : (l : List ℕ) (n i : ℕ) → Small l → RowSound l n 256 → Within (whether (ltb i n) 256 lacking) (coded (get_or l i 256))
row_in l n i small h = go (dec_lt i n)
  where
    go : Dec (i < n) → Within (whether (ltb i n) 256 lacking) (coded (get_or l i 256))
    go (yes p) = rw (lt-ltb i n p) (h i p)
    go (no p) = rw (le-ltb i n (omega arith)) (small_within (get_or l i 256) lacking (small i))

in_row : (l : List ℕ) (n : ℕ) → ((i : ℕ) → Within (whether (ltb i n) 256 lacking) (coded (get_or l i 256))) → RowSound l n 256
in_row l n h i p = simp (lt-ltb i n p) at (h i)

-- The same for the bits of a row, which are small numbers whatever stands there.
lamp_in : (l : List ℕ) (n i k : ℕ) → LampsSound 8 l n → Within (whether (ltb i n) 2 lacking) (held 8 l i k)
lamp_in l n i k h = go (dec_lt i n)
  where
    wide : (t : Standing) → Within 5 t → Within lacking t
    wide (known v) p = omega arith
    wide unknown p = tt

    go : Dec (i < n) → Within (whether (ltb i n) 2 lacking) (held 8 l i k)
    go (yes p) = rw (lt-ltb i n p) (h i k p)
    go (no p) = rw (le-ltb i n (omega arith)) (wide (held 8 l i k) (shown_small 8 (get_or l i 0) k))

in_lamps : (l : List ℕ) (n : ℕ) → ((i k : ℕ) → Within (whether (ltb i n) 2 lacking) (held 8 l i k)) → LampsSound 8 l n
in_lamps l n h i k p = simp (lt-ltb i n p) at (h i k)

module _ (s : Sizes) (k : Knowledge) where
  abbrev pub Parts : Type 0
  Parts = (LampsSound 8 k.cells s.cells × RowSound k.control.keys s.keys 256) × SinglesSound s (kview k)

  pub sound_whole : Small k.control.keys → Parts → Sound (range s) (kview k)
  sound_whole tiny p =
      let lit = p.1.0 in
      let own = lit.0.0 in
      let set = lit.0.1 in
      every (λ (f : Fact). In s (kview k) f) (λ i j. lamp_in k.cells s.cells i j p.0.0) own.0.0.0 own.0.0.1 set.0.0 own.0.1 set.0.1 set.1 lit.1
      (λ i. row_in k.control.keys s.keys i tiny p.0.1) own.1 p.1.1.0 p.1.1.1

  pub sound_parts : Sound (range s) (kview k) → Parts
  sound_parts h = (
    (in_lamps k.cells s.cells (λ i j. h (cell i j)), in_row k.control.keys s.keys (λ i. h (key i))),
    ((((((h address, h data_mode), h mode), h switches), ((h stepping, h dimming), h display)), λ j. h (led j)), (h read_count, h position)),
  )

-- A byte is within what a part lacks.
pub byte_lacking : (t : Standing) → Within 256 t → Within lacking t
byte_lacking (known v) h = omega arith
byte_lacking unknown h = tt
