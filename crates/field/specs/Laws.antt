-- Laws of the field: what the tests tell, that cells which spell a number are bytes, and how large that number is.
use Rattle.std.specs.Prelude.{ℕ, ◌-◌, ◌<◌, ◌≤◌, ◌≡◌, refl, Bool, true, false, ◌&&◌, ◌||◌, eqb, leb}
use Rattle.std.proofs.Common.{arith, leb-true, eqb-true}
use Rattle.rules.specs.Choice.{whether_all, both}
use Rattle.field.specs.declared.spelling.Five.{Five}
use Rattle.field.specs.Said.{reading, no_reading, not_a_reading}
use Rattle.field.specs.Field.{space, minus, point, is_sign, is_digit, is_tens, is_half, is_number, all_dashes, digit_in, half_in, size_of, halves_of, spelled}

-- A digit is 30H to 39H, and counts at most 9; no field spells more than 99.5.
pub digit_from : (b : ℕ) → is_digit b ≡ true → 0x30 ≤ b
digit_from b e = leb-true 0x30 b (both (leb 0x30 b) (leb b 0x39) e).0

pub digit_to : (b : ℕ) → is_digit b ≡ true → b ≤ 0x39
digit_to b e = leb-true b 0x39 (both (leb 0x30 b) (leb b 0x39) e).1

digit_small : (b : ℕ) → digit_in b ≤ 9
digit_small b = whether_all (λ (n : ℕ). n ≤ 9) (is_digit b) (b - 0x30) 0 (λ e. let x = digit_to b e in omega arith) (λ _. omega arith)

half_small : (b : ℕ) → half_in b ≤ 1
half_small b = whether_all (λ (n : ℕ). n ≤ 1) (eqb b 0x35) 1 0 (λ _. omega arith) (λ _. omega arith)

pub size_small : (f : Five) → size_of f ≤ 199
size_small f = omega (arith, digit_small f.tens, digit_small f.units, half_small f.half)

-- What each of two tests tells, either tells.
either : {P : Type 0} (a b : Bool) → (a ≡ true → P) → (b ≡ true → P) → (a || b) ≡ true → P
either true b p q e = p refl
either false b p q e = q e

-- Cells that spell a number are bytes.
pub record Bytes (f : Five) : Type 0 where
  pub sign : f.sign < 256
  pub tens : f.tens < 256
  pub units : f.units < 256
  pub point : f.point < 256
  pub half : f.half < 256

is_byte : (b n : ℕ) → n < 256 → eqb b n ≡ true → b < 256
is_byte b n h e = let z = eqb-true b n e in omega arith

digit_byte : (b : ℕ) → is_digit b ≡ true → b < 256
digit_byte b e = let z = digit_to b e in omega arith

pub number_bytes : (f : Five) → is_number f ≡ true → Bytes f
number_bytes f e =
    let (front, back) = both (is_sign f.sign && is_tens f.tens && is_digit f.units) (eqb f.point point && is_half f.half) e in
    let (first, units) = both (is_sign f.sign && is_tens f.tens) (is_digit f.units) front in
    let (sign, tens) = both (is_sign f.sign) (is_tens f.tens) first in
    let (dot, half) = both (eqb f.point point) (is_half f.half) back in
    record {
      sign = either _ _ (is_byte f.sign space (omega arith)) (is_byte f.sign minus (omega arith)) sign;
      tens = either _ _ (digit_byte f.tens) (is_byte f.tens space (omega arith)) tens;
      units = digit_byte f.units units;
      point = is_byte f.point point (omega arith) dot;
      half = either _ _ (is_byte f.half 0x30 (omega arith)) (is_byte f.half 0x35 (omega arith)) half;
    }

-- What five cells spell, by the two tests.
pub spells_none : (f : Five) → all_dashes f ≡ true → spelled f ≡ no_reading
spells_none f e = rw e refl

pub spells_number : (f : Five) → all_dashes f ≡ false → is_number f ≡ true → spelled f ≡ reading (halves_of f)
spells_number f e n = rw (e, n) refl

pub spells_nothing : (f : Five) → all_dashes f ≡ false → is_number f ≡ false → spelled f ≡ not_a_reading
spells_nothing f e n = rw (e, n) refl
