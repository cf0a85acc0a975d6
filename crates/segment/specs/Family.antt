-- The two parts of the family, by the numbers in which they differ.
use Rattle.std.specs.Prelude.{true, false}
use Rattle.segment.specs.declared.Family.{Family}
use Rattle.segment.specs.declared.Family.TheVariants.{Pt6312, Pt6315}
use Rattle.segment.specs.declared.Sizes.{Sizes}

-- 001: cells 00H to 15H; the address has five bits, the mode three; three key bytes and switches; after power mode 7
-- and LED 15, all dark.
pt6312 : Sizes
pt6312 = record { cells = 22; addresses = 32; codes = 8; top = 7; keys = 3; led = 15; switched = true }

-- 002: cells 00H to 23H; the address has six bits, the mode four, of which 8 to 15 all mean 8; four key bytes and no
-- switches; after power mode 8 and LED 0, all lit.
pt6315 : Sizes
pt6315 = record { cells = 36; addresses = 64; codes = 16; top = 8; keys = 4; led = 0; switched = false }

unfoldable pub sizes : Family → Sizes
unfolding pt6312 pt6315
sizes Pt6312 = pt6312
sizes Pt6315 = pt6315
