-- What a cell prints as, by what is known of its bits: the byte where every one of them is known, and ?? where one is not
-- (M-107). The argument: the code of a cell, where it is in range, has all its marks exactly where every bit is known.
use Rattle.std.specs.Prelude.{ℕ, ◌/◌, ◌%◌, ◌^◌, ◌-◌, ◌<◌, Bool, true, false, List, [], ◌∷◌, ◌≡◌, refl, eqb, get_or}
use Prim.Native.Char.{code}
use Rattle.std.proofs.Common.{ap, ◌∙◌, lt-ltb}
use Rattle.rules.specs.Choice.{whether}
use Rattle.knowing.specs.Standing.{Standing, known, unknown, Within, Sound}
use Rattle.knowing.specs.Holds.{byte_in}
use Rattle.lamps.specs.View as Lamps
use Rattle.lamps.specs.Whole.{whole_shown}
use Rattle.segment.specs.declared.Sizes.{Sizes}
use Rattle.segment.specs.Fact as Segment
use Rattle.segment_knowledge.specs.declared.Knowledge as OfSegment
use Rattle.segment_knowledge.specs.View as SegmentView
use Rattle.character.specs.Fact as Character
use Rattle.character_knowledge.specs.declared.Knowledge as OfCharacter
use Rattle.character_knowledge.specs.View as CharacterView
use Rattle.text.specs.Text.{hex, shown}
use Rattle.listing.specs.Memory.{cell_marks, column_marks, pair_marks}

-- A byte prints as two hex digits, and what is unknown as ??.
abbrev pub printed : Standing → List ℕ
printed (known byte) = hex byte
printed unknown = code "?" ∷ code "?" ∷ []

-- A code of w bits, in range.
prints : (w n : ℕ) → ((k : ℕ) → Within 2 (Lamps.shown w n k)) → shown (2 ^ w - 1) n ≡ printed (byte_in w (Lamps.shown w n))
prints w n good = by (eqb (n / 256) (2 ^ w - 1)) ∙ ap printed (whole_shown w n good)
  where
    by : (t : Bool) → ◌≡◌ {A = List ℕ} (whether t (hex (n % 256)) (code "?" ∷ code "?" ∷ [])) (printed (whether t (known (n % 256)) unknown))
    by true = refl
    by false = refl

-- A cell of PT6312 or PT6315, as the page has it, prints as what is known of its eight bits.
pub cell_prints : (s : Sizes) (k : OfSegment.Knowledge) → Sound (Segment.range s) (SegmentView.kview k) → (i : ℕ) → i < s.cells
    → shown cell_marks (get_or k.cells i 0) ≡ printed (byte_in Segment.cell_bits (λ j. SegmentView.kview k (Segment.cell i j)))
cell_prints s k good i h = prints 8 (get_or k.cells i 0) (λ j. simp (lt-ltb i s.cells h) at (good (Segment.cell i j)))

-- So do the cells of DCRAM by eight bits, the columns of CGRAM by seven, the pairs of ADRAM by two.
module _ (k : OfCharacter.Knowledge) (good : Sound Character.range (CharacterView.kview k)) (i : ℕ) where
  pub text_prints : shown cell_marks (get_or k.dcram i 0) ≡ printed (byte_in Character.text_bits (λ j. CharacterView.kview k (Character.dcram i j)))
  text_prints = prints 8 (get_or k.dcram i 0) (λ j. good (Character.dcram i j))

  pub column_prints : shown column_marks (get_or k.cgram i 0) ≡ printed (byte_in Character.column_bits (λ j. CharacterView.kview k (Character.cgram i j)))
  column_prints = prints 7 (get_or k.cgram i 0) (λ j. good (Character.cgram i j))

  pub pair_prints : shown pair_marks (get_or k.adram i 0) ≡ printed (byte_in Character.pair_bits (λ j. CharacterView.kview k (Character.adram i j)))
  pair_prints = prints 2 (get_or k.adram i 0) (λ j. good (Character.adram i j))
