-- The painting of PT6312 and PT6315, and the chip that it leads to (paper 01, "Painting").
use Rattle.std.specs.Prelude.{ℕ, ◌+◌, ◌*◌, ◌^◌, ◌<◌, List, [], ◌∷◌, ◌++◌, get_or, take, ltb}
use Rattle.rules.specs.Choice.{whether}
use Rattle.rules.specs.Digit.{digit}
use Rattle.terms.specs.declared.Event.{Event}
use Rattle.terms.specs.Event.{strobe}
use Rattle.segment.specs.declared.Sizes.{Sizes}
use Rattle.segment.specs.declared.Pointer.TheVariants.{At}
use Rattle.segment.specs.declared.Data.TheVariants.{WriteLed}
use Rattle.segment.specs.declared.Stepping.TheVariants.{Increment}
use Rattle.segment.specs.declared.Position.TheVariants.{Idle}
use Rattle.segment.specs.Fact.{Fact, range, cell, address, data_mode, stepping, mode, dimming, display, led, key, switches, read_count, position, cell_bits, led_bits}
use Rattle.segment.specs.Value.{pointer, data_mode_of, steps, shows, at_position}
use Rattle.painting.specs.declared.SegmentPicture.{SegmentPicture}

-- The picture's values are in range: mode and dimming as their facts have it, the LED as a number of so many bits. A cell is a byte, and the display a
-- name of its own.
pub record InRanges (s : Sizes) (p : SegmentPicture) : Type 0 where
  pub mode_in : p.mode < range s mode
  pub dimming_in : p.dimming < range s dimming
  pub led_in : p.led < 2 ^ led_bits

-- Display control: bits 2 to 0 dimming, bit 3 on.
abbrev pub control : SegmentPicture → ℕ
control p = 0x80 + shows p.display * 8 + p.dimming

-- Five strobes: mode; 40H; C0H and all cells; 41H and LED; control.
abbrev pub five_strobes : ℕ → List ℕ → ℕ → ℕ → List Event
five_strobes m cells lamps c =
    strobe (m ∷ [])
    ++ (strobe (0x40 ∷ [])
    ++ (strobe (0xC0 ∷ cells)
    ++ (strobe (0x41 ∷ lamps ∷ [])
    ++ strobe (c ∷ []))))

abbrev pub painting : Sizes → SegmentPicture → List Event
painting s p = five_strobes p.mode (take s.cells p.cells) p.led (control p)

-- The chip that was c, painted: memory and settings are the picture's, each bit that of its byte. Behind the last cell the address has gone
-- round to 00H, the data setting is that of the LED strobe, the transfer is over, and keys and switches are as they were.
abbrev pub painted : Sizes → SegmentPicture → (Fact → ℕ) → Fact → ℕ
painted s p c (cell i k) = whether (ltb i s.cells) (whether (ltb k cell_bits) (digit k (get_or p.cells i 0)) (c (cell i k))) (c (cell i k))
painted s p c address = pointer (At (record { 0 = 0 }))
painted s p c data_mode = data_mode_of WriteLed
painted s p c stepping = steps Increment
painted s p c mode = p.mode
painted s p c dimming = p.dimming
painted s p c display = shows p.display
painted s p c (led k) = whether (ltb k led_bits) (digit k p.led) (c (led k))
painted s p c (key i) = c (key i)
painted s p c switches = c switches
painted s p c read_count = 0
painted s p c position = at_position Idle
