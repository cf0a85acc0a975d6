-- P10 and P12 for any knowledge, where a row of the table has one. P10: a byte stored at an unknown address leaves each cell what it has in common with the byte, so that
-- the bits which agree with it stay known, and no other. P12: neither the strobe nor an unfinished byte touches a cell.
use Rattle.std.specs.Prelude.{ℕ, ◌<◌, ◌≡◌, refl, [], ◌∷◌, map}
use Rattle.std.proofs.Common.{arith, sym, ap, ◌∙◌}
use Rattle.knowing.specs.Standing.{Standing, known, unknown}
use Rattle.knowing.specs.Know.{know, join}
use Rattle.knowing.specs.Turn.{in_turn}
use Rattle.knowing.specs.Join.{join_both, join_other}
use Rattle.knowing.specs.Look.{look_known, look_unknown}
use Rattle.terms.specs.declared.Event.TheVariants.{ByteIn}
use Rattle.terms.specs.declared.Part.TheVariants as OfPart
use Rattle.recording.specs.Walk.{walked, events}
use Rattle.segment.specs.declared.Sizes.{Sizes}
use Rattle.segment.specs.declared.Family.TheVariants.{Pt6312}
use Rattle.segment.specs.declared.Position.TheVariants.{Open}
use Rattle.segment.specs.declared.Data.TheVariants.{WriteDisplay}
use Rattle.segment.specs.Value.{at_position, data_mode_of}
use Rattle.segment.specs.Family.{sizes}
use Rattle.rules.specs.Digit.{digit, digit_none}
use Rattle.segment.specs.Fact.{Fact, same?, range, cell, address, data_mode, position}
use Rattle.segment.specs.Move.{move, byte_in, written, stored}
use Rattle.segment_known.specs.Stored.{cell_common}

-- What is known after a byte.
abbrev after : Sizes → ℕ → (Fact → Standing) → Fact → Standing
after s b k = know same? (range s) (move s (ByteIn b)) k

-- Open, write display, address unknown.
abbrev Somewhere : (Fact → Standing) → Type 0
Somewhere k = (k position ≡ known (at_position Open)) × (k data_mode ≡ known (data_mode_of WriteDisplay)) × (k address ≡ unknown)

-- Either part, and any byte.
pub stored_somewhere : (s : Sizes) (k : Fact → Standing) (b j n : ℕ) → Somewhere k → j < s.cells → n < 8 → after s b k (cell j n) ≡ join (k (cell j n)) (known (digit n b))
stored_somewhere s k b j n h l o =
    sym (look_known same? (range s) position (byte_in s b) k (cell j n) 2 _ h.0
    (look_known same? (range s) data_mode (written s b) k (cell j n) 0 _ h.1
    (look_unknown same? (range s) address (stored s b) k (cell j n) _ h.2 (cell_common s b k j n l o))))

-- All cells 00 but cell 07H is 09; byte 00: only bits 0 and 3 of cell 07H become unknown, whether the stepping is known or not.
pub p10 : (k : Fact → Standing) → Somewhere k → ((n : ℕ) → n < 8 → k (cell 0x07 n) ≡ known (digit n 0x09))
    → ((j n : ℕ) → j < 22 → n < 8 → ¬ (j ≡ 0x07) → k (cell j n) ≡ known (digit n 0x00))
    → ((n : ℕ) → n < 8 → digit n 0x09 ≡ 1 → after (sizes Pt6312) 0x00 k (cell 0x07 n) ≡ unknown)
    × ((n : ℕ) → n < 8 → digit n 0x09 ≡ 0 → after (sizes Pt6312) 0x00 k (cell 0x07 n) ≡ known 0)
    × ((j n : ℕ) → j < 22 → n < 8 → ¬ (j ≡ 0x07) → after (sizes Pt6312) 0x00 k (cell j n) ≡ known 0)
unfolding sizes
p10 k h nine nought = (
  λ n o e. stored_somewhere (sizes Pt6312) k 0x00 0x07 n h (omega arith) o ∙ sym (join_other _ _ 1 0 (nine n o ∙ ap known e) (ap known (none n)) (λ z. omega arith)),
  λ n o e. stored_somewhere (sizes Pt6312) k 0x00 0x07 n h (omega arith) o ∙ join_both _ _ 0 (nine n o ∙ ap known e) (ap known (none n)),
  λ j n l o d. stored_somewhere (sizes Pt6312) k 0x00 j n h l o ∙ join_both _ _ 0 (nought j n l o d ∙ ap known (none n)) (ap known (none n)),
)
  where
    none : (n : ℕ) → digit n 0x00 ≡ 0
    none n = digit_none n

pub p12_cells : (k : Fact → Standing) (i n : ℕ)
    → in_turn same? (range (sizes Pt6312)) (map (move (sizes Pt6312)) (events (walked OfPart.Pt6312 (0x02 ∷ 0x03 ∷ 0xC0 ∷ 0x06 ∷ 0x03 ∷ [])))) k (cell i n) ≡ k (cell i n)
unfolding sizes
p12_cells k i n = refl
