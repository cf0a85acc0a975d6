-- The facts of a PT6302, in paper 01's order, and how many values each has (paper 01, "Facts and chips"; 003, 004).
use Rattle.std.specs.Prelude.{ℕ, ltb}
use Rattle.std.proofs.Math.Decide.{ℕ_discrete}
use Rattle.rules.specs.Choice.{whether}

-- A bit of DCRAM or ADRAM is named by its cell's address and its own number, bit 0 being the low one; column k of character n of CGRAM is number 5 n + k,
-- and its bits are numbered likewise, as are the port's.
pub data Fact : Type 0 where
  dcram cgram adram : ℕ → ℕ → Fact
  dcram_at cgram_at adram_at column : Fact
  port : ℕ → Fact
  duty digits lights position : Fact
  deriving Discrete as Fact-discrete

-- Facts can be told apart.
abbrev pub same? : Discrete Fact
same? = Fact-discrete ℕ_discrete

-- How many bits a cell of DCRAM has, a column of CGRAM, a pair of ADRAM, and the port.
abbrev pub text_bits : ℕ
text_bits = 8

abbrev pub column_bits : ℕ
column_bits = 7

abbrev pub pair_bits : ℕ
pair_bits = 2

abbrev pub port_bits : ℕ
port_bits = 2

-- A value is a number below this one. Numbers past a RAM's last, and bits past a number's width, have a range too, and no rule looks at them.
abbrev pub range : Fact → ℕ
range (dcram i k) = 2
range (cgram i k) = 2
range (adram i k) = 2
range dcram_at = 16
range cgram_at = 8
range adram_at = 16
range column = 5
range (port k) = 2
range duty = 8
range digits = 8
range lights = 3
range position = 6

-- What a fact is of. A bit past the port's two is no setting: nobody can be asked to know it. Settings, in demand 3, are all facts but memory and position;
-- this part has no keys and no switches.
pub data Sort : Type 0 where
  memory setting transfer : Sort

abbrev pub sort : Fact → Sort
sort (dcram i k) = memory
sort (cgram i k) = memory
sort (adram i k) = memory
sort dcram_at = setting
sort cgram_at = setting
sort adram_at = setting
sort column = setting
sort (port k) = whether (ltb k port_bits) setting memory
sort duty = setting
sort digits = setting
sort lights = setting
sort position = transfer

-- One thing for each sort.
abbrev pub by_sort : {A : Type 0} → A → A → A → Sort → A
by_sort m s p memory = m
by_sort m s p setting = s
by_sort m s p transfer = p
