-- The facts of a PT6312 or PT6315, in paper 01's order, and how many values each has (paper 01, "Facts and chips").
use Rattle.std.specs.Prelude.{ℕ, suc, ltb}
use Rattle.std.proofs.Math.Decide.{ℕ_discrete}
use Rattle.rules.specs.Choice.{whether}
use Rattle.segment.specs.declared.Sizes.{Sizes}

-- A bit of a cell is named by the cell's address and the bit's number, bit 0 being the low one, a bit of the LED by its number, a key byte by its
-- number in reading order.
pub data Fact : Type 0 where
  cell : ℕ → ℕ → Fact
  address data_mode stepping mode dimming display : Fact
  led key : ℕ → Fact
  switches read_count position : Fact
  deriving Discrete as Fact-discrete

-- Facts can be told apart.
abbrev pub same? : Discrete Fact
same? = Fact-discrete ℕ_discrete

-- How many bits a cell has, and the LED.
abbrev pub cell_bits : ℕ
cell_bits = 8

abbrev pub led_bits : ℕ
led_bits = 4

-- What a part lacks, as a cell past its last, a fourth key byte or switches, is no fact of it: whatever its storage
-- holds is in range, and no rule looks at it. A bit past a cell's eight or the LED's four is no fact either, and no rule
-- sets it; where storage has room for one, as the LED's has, a value or a mark there is out of range (`lamps/View`).
abbrev pub lacking : ℕ
lacking = 65536

-- A value is a number below this one.
abbrev pub range : Sizes → Fact → ℕ
range s (cell i k) = whether (ltb i s.cells) 2 lacking
range s address = suc s.cells
range s data_mode = whether s.switched 4 3
range s stepping = 2
range s mode = suc s.top
range s dimming = 8
range s display = 2
range s (led k) = 2
range s (key i) = whether (ltb i s.keys) 256 lacking
range s switches = whether s.switched 16 lacking
range s read_count = 5
range s position = 4

-- What a fact is of. A bit past the LED's nibble is no setting: nobody can be asked to know it. Settings, in demand 3, are all facts but memory, keys, switches and position.
pub data Sort : Type 0 where
  memory setting input transfer : Sort

abbrev pub sort : Fact → Sort
sort (cell i k) = memory
sort address = setting
sort data_mode = setting
sort stepping = setting
sort mode = setting
sort dimming = setting
sort display = setting
sort (led k) = whether (ltb k led_bits) setting memory
sort (key i) = input
sort switches = input
sort read_count = setting
sort position = transfer

-- One thing for each sort.
abbrev pub by_sort : {A : Type 0} → A → A → A → A → Sort → A
by_sort m s i p memory = m
by_sort m s i p setting = s
by_sort m s i p input = i
by_sort m s i p transfer = p
