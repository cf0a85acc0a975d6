-- The temperature field (paper 02, M-103): "five cells in a row: space or 2DH; a digit 30H to 39H or space; a digit;
-- 2EH; 30H or 35H". What is told of it: dark first, "then unknown, if lights, digits or any cell isn't known. Then the
-- rest."
use Rattle.std.specs.Prelude.{ℕ, ◌+◌, ◌-◌, ◌*◌, Bool, false, ◌&&◌, ◌||◌, ℤ, eqb, leb, ltb}
use Rattle.rules.specs.Choice.{whether}
use Rattle.knowing.specs.Standing as Of
use Rattle.knowing.specs.Standing.{Standing}
use Rattle.knowing.specs.Holds.{is_known}
use Rattle.character.specs.declared.Lights.TheVariants.{Off, On}
use Rattle.character.specs.Value.{lit}
use Rattle.half_degrees.specs.Half.{signed}
use Rattle.field.specs.declared.spelling.Five.{Five}
use Rattle.field.specs.Said.{Said, reading, no_reading, dark, unknown, not_a_reading}

abbrev pub space : ℕ
space = 0x20

abbrev pub minus : ℕ
minus = 0x2D

abbrev pub point : ℕ
point = 0x2E

-- ---- what each of the five cells may hold

abbrev pub is_sign : ℕ → Bool
is_sign b = eqb b space || eqb b minus

abbrev pub is_digit : ℕ → Bool
is_digit b = leb 0x30 b && leb b 0x39

abbrev pub is_tens : ℕ → Bool
is_tens b = is_digit b || eqb b space

abbrev pub is_half : ℕ → Bool
is_half b = eqb b 0x30 || eqb b 0x35

abbrev pub is_number : Five → Bool
is_number f = is_sign f.sign && is_tens f.tens && is_digit f.units && (eqb f.point point && is_half f.half)

-- "All five cells are 2DH."
abbrev pub all_dashes : Five → Bool
all_dashes f =
    eqb f.sign minus && eqb f.tens minus && eqb f.units minus && (eqb f.point minus && eqb f.half minus)

-- ---- what five cells spell

-- What a digit counts; "a space among the first two is nought or no sign".
abbrev pub digit_in : ℕ → ℕ
digit_in b = whether (is_digit b) (b - 0x30) 0

abbrev pub half_in : ℕ → ℕ
half_in b = whether (eqb b 0x35) 1 0

-- How many half degrees, and with the sign, as a whole number; "minus nought reads as plain nought".
abbrev pub size_of : Five → ℕ
size_of f = 2 * (10 * digit_in f.tens + digit_in f.units) + half_in f.half

abbrev pub halves_of : Five → ℤ
halves_of f = signed (eqb f.sign minus) (size_of f)

abbrev pub spelled : Five → Said
spelled f = whether (all_dashes f) no_reading (whether (is_number f) (reading (halves_of f)) not_a_reading)

-- ---- dark

-- Digits in use: code 0 is 16, 1 to 7 are 9 to 15 (paper 01).
abbrev pub in_use : ℕ → ℕ
in_use code = whether (eqb code 0) 16 (8 + code)

-- "DCRAM n stands on digit n plus 1", so that the last of the five cells from `start` on stands on digit start + 5.
abbrev pub last : ℕ → ℕ
last start = start + 5

-- "The field is known to reach past the digits in use."
abbrev pub reaches_past : Standing → ℕ → Bool
reaches_past (Of.known code) start = ltb (in_use code) (last start)
reaches_past Of.unknown start = false

-- "Lights are known to be off or on."
abbrev pub is_dark : Standing → Standing → ℕ → Bool
is_dark lights digits start = is_known lights (lit Off) || (is_known lights (lit On) || reaches_past digits start)

-- ---- what is told

abbrev pub if_known : Standing → (ℕ → Said) → Said
if_known (Of.known v) rest = rest v
if_known Of.unknown rest = unknown

-- Of five cells in a row, each told by what is known of it.
abbrev pub if_all : (ℕ → Standing) → ℕ → (Five → Said) → Said
if_all cell start rest =
    if_known (cell start)
    (λ sign. if_known (cell (start + 1))
    (λ tens. if_known (cell (start + 2))
    (λ units. if_known (cell (start + 3))
    (λ point. if_known (cell (start + 4))
    (λ half. rest (record { sign = sign; tens = tens; units = units; point = point; half = half }))))))

abbrev pub told : Standing → Standing → (ℕ → Standing) → ℕ → Said
told lights digits cell start =
    whether (is_dark lights digits start) dark (if_known lights (λ _. if_known digits (λ _. if_all cell start spelled)))
