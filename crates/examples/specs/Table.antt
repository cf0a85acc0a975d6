-- Paper 01's examples P1 to P14, P2 as M-101, P10 as M-107 and P12 as M-104 read them, in one table, proved in proofs/ by one test that computes and one law. A row has the number of
-- its example, the part, what is known before, the recording, its number and place, and what is known afterwards; the
-- rows of P14 have the picture and the output, before and afterwards.
use Rattle.std.specs.Prelude.{ℕ, zero, suc, ◌≡◌, refl, List, [], ◌∷◌, ◌++◌, map, ◌||◌, eqb, replicate}
use Rattle.rules.specs.Choice.{whether}
use Rattle.rules.specs.Digit.{digit}
use Rattle.knowing.specs.Standing.{Standing, known, unknown}
use Rattle.terms.specs.declared.Part.TheVariants.{Pt6302, Pt6312, Pt6315}
use Rattle.segment.specs.declared.Pointer.TheVariants.{At, Invalid}
use Rattle.segment.specs.declared.Data.TheVariants.{WriteDisplay, WriteLed}
use Rattle.segment.specs.declared.Stepping.TheVariants.{Increment, Fixed}
use Rattle.segment.specs.declared.Display.{Display}
use Rattle.segment.specs.declared.Display.TheVariants.{Off, On}
use Rattle.segment.specs.declared.Position.TheVariants.{Open}
use Rattle.segment.specs.Value.{pointer, data_mode_of, steps, shows, at_position}
use Rattle.segment.specs.Fact.{cell, address, data_mode, stepping, mode, dimming, display, led, read_count, position}
use Rattle.segment.specs.Sent.{not_driven}
use Rattle.character.specs.declared.Lights.TheVariants.{Normal}
use Rattle.character.specs.Fact.{dcram}
use Rattle.painting.specs.declared.Picture.{Picture}
use Rattle.examples.specs.Row.{What, Said, ◌is◌, fact, ram, next, Row, replayed, painted, example}

-- An address, or none.
abbrev at : ℕ → Standing
at i = known (pointer (At (record { 0 = i })))

abbrev invalid : Standing
invalid = known (pointer Invalid)

-- A bit of a cell, of the LED, of a cell of DCRAM.
abbrev in_cell : ℕ → ℕ → What
in_cell i k = fact (cell i k)

abbrev in_led : ℕ → What
in_led k = fact (led k)

abbrev in_text : ℕ → ℕ → What
in_text i k = ram (dcram i k)

-- What is known of each bit of a number of n bits, and what follows.
abbrev byte : (ℕ → What) → ℕ → (ℕ → Standing) → List Said → List Said
byte bit zero s l = l
byte bit (suc k) s l = bit k is s k ∷ byte bit k s l

-- Every bit is known, or none.
abbrev all : ℕ → ℕ → Standing
all b k = known (digit k b)

abbrev none : ℕ → Standing
none k = unknown

-- n cells, from a number on, all alike.
abbrev cells : ℕ → ℕ → (ℕ → Standing) → List Said
cells from zero s = []
cells from (suc n) s = byte (in_cell from) 8 s (cells (suc from) n s)

-- P8: all settings, none of them as after power but those that the example names.
abbrev settings : ℕ → Display → List Said
settings m d =
    fact address is at 0x05 ∷ fact data_mode is known (data_mode_of WriteLed) ∷ fact stepping is known (steps Fixed) ∷ fact mode is known m ∷ fact dimming is known 3
    ∷ fact display is known (shows d) ∷ byte in_led 4 (all 9) (fact read_count is known 2 ∷ [])

-- P10: open, write display, increment, address unknown; and all cells 00 but cell 07H.
abbrev somewhere : List Said
somewhere = fact position is known (at_position Open) ∷ fact data_mode is known (data_mode_of WriteDisplay) ∷ fact stepping is known (steps Increment) ∷ fact address is unknown ∷ []

abbrev noughts_but07 : (ℕ → Standing) → List Said
noughts_but07 s = cells 0x00 7 (all 0x00) ++ byte (in_cell 0x07) 8 s (cells 0x08 14 (all 0x00))

-- "Only bits 0 and 3 of cell 07H become unknown" (M-107).
abbrev but0and3 : ℕ → Standing
but0and3 k = whether (eqb k 0 || eqb k 3) unknown (known 0)

-- P13: keys 12 34 05 00, strobe 42.
abbrev keys : List ℕ → List ℕ
keys l = 0x07 ∷ 0x12 ∷ 0x34 ∷ 0x05 ∷ 0x00 ∷ 0x02 ∷ 0x03 ∷ 0x42 ∷ l

-- P14: all 00, mode 7, LED 15, dimming 0, off. PT6312 does not look at the other half.
abbrev dark : Picture
dark = record {
  segment = record { cells = replicate 36 0x00; mode = 7; dimming = 0; display = Off; led = 15 };
  character = record { dcram = replicate 16 0; cgram = replicate 40 0; adram = replicate 16 0; port = 0; duty = 0; digits = 0; lights = Normal };
}

-- `03 00`, n times, and what follows.
abbrev noughts : ℕ → List ℕ → List ℕ
noughts zero l = l
noughts (suc n) l = 0x03 ∷ 0x00 ∷ noughts n l

abbrev painting : List ℕ → List ℕ
painting l =
    0x02 ∷ 0x03 ∷ 0x07 ∷ 0x04 ∷ 0x02 ∷ 0x03 ∷ 0x40 ∷ 0x04 ∷ 0x02 ∷ 0x03 ∷ 0xC0
    ∷ noughts 22 (0x04 ∷ 0x02 ∷ 0x03 ∷ 0x41 ∷ 0x03 ∷ 0x0F ∷ 0x04 ∷ 0x02 ∷ 0x03 ∷ 0x80 ∷ 0x04 ∷ l)

-- P8, P12 and P13 have a row for each thing that they say. P14 has one with just enough room, one with a byte more,
-- which is left as it was, and one with a byte less.
abbrev pub table : List Row
table =
    replayed 1 Pt6312 [] (0x01 ∷ 0x02 ∷ 0x03 ∷ 0xC0 ∷ 0x03 ∷ 0x5A ∷ 0x04 ∷ []) 0 7 (byte (in_cell 0x00) 8 (all 0x5A) (fact address is at 0x01 ∷ cells 0x01 21 none))
    ∷ replayed 2 Pt6312 [] (0x01 ∷ 0x02 ∷ 0x03 ∷ 0xD5 ∷ 0x03 ∷ 0x11 ∷ 0x03 ∷ 0x22 ∷ 0x04 ∷ []) 0 9 (byte (in_cell 0x15) 8 (all 0x11) (byte (in_cell 0x00) 8 (all 0x22) (fact address is at 0x01 ∷ [])))
    ∷ replayed 3 Pt6312 [] (0x01 ∷ 0x02 ∷ 0x03 ∷ 0xD6 ∷ 0x03 ∷ 0x33 ∷ 0x04 ∷ []) 0 7 (fact address is invalid ∷ cells 0x00 22 none)
    ∷ replayed 4 Pt6315 [] (0x01 ∷ 0x02 ∷ 0x03 ∷ 0xE3 ∷ 0x03 ∷ 0x7F ∷ 0x04 ∷ []) 0 7 (byte (in_cell 0x23) 8 (all 0x7F) (fact address is at 0x00 ∷ []))
    ∷ replayed 5 Pt6315 [] (0x01 ∷ 0x02 ∷ 0x03 ∷ 0xE4 ∷ 0x03 ∷ 0x7F ∷ 0x04 ∷ []) 0 7 (fact address is invalid ∷ cells 0x00 36 none)
    ∷ replayed 6 Pt6312 [] (0x01 ∷ 0x02 ∷ 0x03 ∷ 0x44 ∷ 0x04 ∷ 0x02 ∷ 0x03 ∷ 0xC3 ∷ 0x03 ∷ 0xAA ∷ 0x03 ∷ 0xBB ∷ 0x04 ∷ []) 0 13 (byte (in_cell 0x03) 8 (all 0xBB) (fact address is at 0x03 ∷ []))
    ∷ replayed 7 Pt6312 [] (0x01 ∷ 0x02 ∷ 0x03 ∷ 0x41 ∷ 0x03 ∷ 0x0E ∷ 0x04 ∷ []) 0 7 (byte in_led 4 (all 14) [])
    ∷ replayed 8 Pt6315 (settings 8 On) (0x02 ∷ 0x03 ∷ 0x0F ∷ 0x04 ∷ []) 0 4 (settings 8 On)
    ∷ replayed 8 Pt6315 (settings 8 On) (0x02 ∷ 0x03 ∷ 0x00 ∷ 0x04 ∷ []) 0 4 (settings 0 Off)
    ∷ replayed 9 Pt6312 [] (0x05 ∷ 0x02 ∷ 0x03 ∷ 0xC5 ∷ 0x03 ∷ 0x33 ∷ 0x04 ∷ []) 0 7 (fact address is unknown ∷ cells 0x00 22 none)
    ∷ replayed 10 Pt6312 (somewhere ++ noughts_but07 (all 0x09)) (0x03 ∷ 0x00 ∷ []) 0 2 (noughts_but07 but0and3)
    ∷ replayed 11 Pt6302 [] (0x01 ∷ 0x02 ∷ 0x03 ∷ 0x1F ∷ 0x03 ∷ 0x41 ∷ 0x03 ∷ 0x42 ∷ 0x04 ∷ []) 0 9 (byte (in_text 15) 8 (all 0x41) (byte (in_text 0) 8 (all 0x42) []))
    ∷ replayed 12 Pt6312 (cells 0x00 22 (all 0x5A)) (0x02 ∷ 0x03 ∷ 0xC0 ∷ 0x06 ∷ 0x03 ∷ []) 0 5 (cells 0x00 22 (all 0x5A))
    ∷ replayed 12 Pt6312 (cells 0x00 22 (all 0x5A)) (0x02 ∷ 0x03 ∷ 0xC0 ∷ 0x06 ∷ 0x08 ∷ []) 8 4 (fact position is unknown ∷ cells 0x00 22 (all 0x5A))
    ∷ replayed 13 Pt6312 [] (keys []) 0 8 (next is known 0x12 ∷ [])
    ∷ replayed 13 Pt6312 [] (keys (0x09 ∷ [])) 0 9 (next is known 0x34 ∷ [])
    ∷ replayed 13 Pt6312 [] (keys (0x09 ∷ 0x09 ∷ 0x09 ∷ [])) 0 11 (next is known not_driven ∷ [])
    ∷ painted 14 0x12 dark (replicate 66 0xEE) 0 66 (painting [])
    ∷ painted 14 0x12 dark (replicate 67 0xEE) 0 66 (painting (0xEE ∷ []))
    ∷ painted 14 0x12 dark (replicate 65 0xEE) 10 0 (replicate 65 0xEE)
    ∷ []

-- No example is missing, so that none can be left out unnoticed.
pub all_there : map example table ≡ 1 ∷ 2 ∷ 3 ∷ 4 ∷ 5 ∷ 6 ∷ 7 ∷ 8 ∷ 8 ∷ 9 ∷ 10 ∷ 11 ∷ 12 ∷ 12 ∷ 13 ∷ 13 ∷ 13 ∷ 14 ∷ 14 ∷ 14 ∷ []
all_there = refl
