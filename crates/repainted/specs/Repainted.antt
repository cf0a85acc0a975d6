-- What is known after a painting, by what was known before.
use Rattle.std.specs.Prelude.{get_or, ltb}
use Rattle.rules.specs.Choice.{whether}
use Rattle.rules.specs.Digit.{digit}
use Rattle.knowing.specs.Standing.{Standing, known}
use Rattle.terms.specs.declared.Part.{Part}
use Rattle.terms.specs.declared.Part.TheVariants.{Pt6302, Pt6312, Pt6315}
use Rattle.segment.specs.declared.Family.TheVariants as OfFamily
use Rattle.segment.specs.declared.Sizes.{Sizes}
use Rattle.segment.specs.declared.Pointer.TheVariants.{At}
use Rattle.segment.specs.declared.Data.TheVariants.{WriteLed}
use Rattle.segment.specs.declared.Stepping.TheVariants.{Increment}
use Rattle.segment.specs.declared.Position.TheVariants as SegmentPosition
use Rattle.segment.specs.Family.{sizes}
use Rattle.segment.specs.Fact as Segment
use Rattle.segment.specs.Value.{pointer, data_mode_of, steps, shows, at_position}
use Rattle.character.specs.declared.Position.TheVariants as CharacterPosition
use Rattle.character.specs.Fact as Character
use Rattle.character.specs.Value as CharacterValue
use Rattle.parts.specs.Facts.{Fact}
use Rattle.painting.specs.declared.Picture.{Picture}
use Rattle.painting.specs.declared.SegmentPicture.{SegmentPicture}
use Rattle.painting.specs.declared.CharacterPicture.{CharacterPicture}

-- The picture is known bit by bit, and so are the settings and the position that a painting leaves. Keys and switches are known
-- as they were, and so is what stands behind the last cell and behind a number's bits.
abbrev pub segment_repainted : Sizes → SegmentPicture → (Segment.Fact → Standing) → Segment.Fact → Standing
segment_repainted s p k (Segment.cell i j) =
    whether (ltb i s.cells) (whether (ltb j Segment.cell_bits) (known (digit j (get_or p.cells i 0))) (k (Segment.cell i j))) (k (Segment.cell i j))
segment_repainted s p k Segment.address = known (pointer (At (record { 0 = 0 })))
segment_repainted s p k Segment.data_mode = known (data_mode_of WriteLed)
segment_repainted s p k Segment.stepping = known (steps Increment)
segment_repainted s p k Segment.mode = known p.mode
segment_repainted s p k Segment.dimming = known p.dimming
segment_repainted s p k Segment.display = known (shows p.display)
segment_repainted s p k (Segment.led j) = whether (ltb j Segment.led_bits) (known (digit j p.led)) (k (Segment.led j))
segment_repainted s p k (Segment.key i) = k (Segment.key i)
segment_repainted s p k Segment.switches = k Segment.switches
segment_repainted s p k Segment.read_count = known 0
segment_repainted s p k Segment.position = known (at_position SegmentPosition.Idle)

-- The picture is known bit by bit, and so are the addresses and the position that a painting leaves. What stands behind the
-- numbers that a RAM has, and the bits that a number has, is as it was.
abbrev pub character_repainted : CharacterPicture → (Character.Fact → Standing) → Character.Fact → Standing
character_repainted p k (Character.dcram i j) =
    whether (ltb i 16) (whether (ltb j Character.text_bits) (known (digit j (get_or p.dcram i 0))) (k (Character.dcram i j))) (k (Character.dcram i j))
character_repainted p k (Character.cgram i j) =
    whether (ltb i 40) (whether (ltb j Character.column_bits) (known (digit j (get_or p.cgram i 0))) (k (Character.cgram i j))) (k (Character.cgram i j))
character_repainted p k (Character.adram i j) =
    whether (ltb i 16) (whether (ltb j Character.pair_bits) (known (digit j (get_or p.adram i 0))) (k (Character.adram i j))) (k (Character.adram i j))
character_repainted p k Character.dcram_at = known 0
character_repainted p k Character.cgram_at = known 0
character_repainted p k Character.adram_at = known 0
character_repainted p k Character.column = known 0
character_repainted p k (Character.port j) = whether (ltb j Character.port_bits) (known (digit j p.port)) (k (Character.port j))
character_repainted p k Character.duty = known p.duty
character_repainted p k Character.digits = known p.digits
character_repainted p k Character.lights = known (CharacterValue.lit p.lights)
character_repainted p k Character.position = known (CharacterValue.at_position CharacterPosition.Idle)

-- The same by the part.
abbrev pub repainted_by : (p : Part) → Picture → (Fact p → Standing) → Fact p → Standing
repainted_by Pt6302 pic = character_repainted pic.character
repainted_by Pt6312 pic = segment_repainted (sizes OfFamily.Pt6312) pic.segment
repainted_by Pt6315 pic = segment_repainted (sizes OfFamily.Pt6315) pic.segment
