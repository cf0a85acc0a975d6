-- The memory that the program prints, by what is known of its bits and by nothing else: each cell is its byte where every bit of
-- it is known, and ?? where one is not (M-107). The argument: line by line and value by value, each code prints as what is
-- known of its cell (`Known`).
use Rattle.std.specs.Prelude.{ℕ, zero, suc, ◌+◌, ◌*◌, ◌<◌, ◌≤◌, ◌≡◌, refl, List, [], ◌∷◌, ◌++◌, length, get_or, take, drop, Ok}
use Prim.Native.Char.{code}
use Rattle.std.proofs.Common.{arith, zero-mul, suc-mul, sym, ap, ap₂, ◌∙◌, take_all, drop-cons, drop-drop}
use Rattle.knowing.specs.Standing.{Standing, Sound}
use Rattle.knowing.specs.Holds.{byte_in}
use Rattle.terms.specs.declared.Part.{Part}
use Rattle.terms.specs.declared.Part.TheVariants.{Pt6302, Pt6312, Pt6315}
use Rattle.parts.specs.Facts.{Fact, range}
use Rattle.segment.specs.declared.Family.{Family}
use Rattle.segment.specs.declared.Family.TheVariants as OfFamily
use Rattle.segment.specs.Family.{sizes}
use Rattle.segment.specs.Fact as Segment
use Rattle.character.specs.Fact as Character
use Rattle.segment_knowledge.specs.declared.Knowledge.{Knowledge}
use Rattle.segment_knowledge.specs.View.{kview}
use Rattle.segment_knowledge.specs.Unique as OfSegment
use Rattle.panel.specs.declared.Panel.{Panel}
use Rattle.panel.specs.View.{known_of}
use Rattle.panel.specs.Unique.{Shaped}
use Rattle.lines.specs.declared.rows.Names.TheVariants.{Addresses, Characters}
use Rattle.text.specs.Text.{newline, shown}
use Rattle.lines.specs.Lines.{values, line, lines, named}
use Rattle.listing.specs.Memory.{cell_marks, column_marks, pair_marks, digits, memory}
use Rattle.listing.specs.Known.{printed, cell_prints, text_prints, column_prints, pair_prints}

-- n values from number i on, a space in front of each, by the byte that each cell is known to hold.
abbrev pub values_of : (ℕ → Standing) → ℕ → ℕ → List ℕ
values_of cell i zero = []
values_of cell i (suc n) = (code " " ∷ printed (cell i)) ++ values_of cell (suc i) n

-- A name, a colon, and the values.
abbrev pub line_of : (ℕ → Standing) → List ℕ → ℕ → ℕ → List ℕ
line_of cell name i n = name ++ ((code ":" ∷ []) ++ (values_of cell i n ++ (newline ∷ [])))

-- n lines of `width` values each, from line number i on.
abbrev pub lines_of : (ℕ → Standing) → (ℕ → List ℕ) → ℕ → ℕ → ℕ → List ℕ
lines_of cell name width zero i = []
lines_of cell name width (suc n) i = line_of cell (name i) (i * width) width ++ lines_of cell name width n (suc i)

-- The byte that each cell is known to hold, by its bits: of PT6312 and PT6315, and of the three RAMs of PT6302.
abbrev pub cells_in : (Segment.Fact → Standing) → ℕ → Standing
cells_in k i = byte_in Segment.cell_bits (λ j. k (Segment.cell i j))

abbrev pub text_in : (Character.Fact → Standing) → ℕ → Standing
text_in k i = byte_in Character.text_bits (λ j. k (Character.dcram i j))

abbrev pub columns_in : (Character.Fact → Standing) → ℕ → Standing
columns_in k i = byte_in Character.column_bits (λ j. k (Character.cgram i j))

abbrev pub pairs_in : (Character.Fact → Standing) → ℕ → Standing
pairs_in k i = byte_in Character.pair_bits (λ j. k (Character.adram i j))

-- The memory of a part, by what is known of it.
abbrev pub memory_of : (p : Part) → (Fact p → Standing) → List ℕ
memory_of Pt6302 k = line_of (text_in k) (code "D" ∷ []) 0 16 ++ (lines_of (columns_in k) (named Characters 5) 5 8 0 ++ line_of (pairs_in k) (code "A" ∷ []) 0 16)
memory_of Pt6312 k = lines_of (cells_in k) (named Addresses 2) 2 11 0
memory_of Pt6315 k = lines_of (cells_in k) (named Addresses 3) 3 12 0

-- A row of codes, the first m of which print as what is known of their cells.
module _ (full : ℕ) (cell : ℕ → Standing) (l : List ℕ) (m : ℕ) (fits : m ≤ length l) (each : (i : ℕ) → i < m → shown full (get_or l i 0) ≡ printed (cell i)) where
  values_are : (i n : ℕ) → i + n ≤ m → values full (take n (drop i l)) ≡ values_of cell i n
  values_are i zero h = refl
  values_are i (suc n) h =
      ap (λ (r : List ℕ). values full (take (suc n) r)) (drop-cons l i 0 (omega arith))
      ∙ ap₂ (λ (v r : List ℕ). (code " " ∷ v) ++ r) (each i (omega arith)) (values_are (suc i) n (omega arith))

  line_is : (name : List ℕ) (i n : ℕ) → i + n ≤ m → line full name (take n (drop i l)) ≡ line_of cell name i n
  line_is name i n h = ap (λ (v : List ℕ). name ++ ((code ":" ∷ []) ++ (v ++ (newline ∷ [])))) (values_are i n h)

  lines_are : (name : ℕ → List ℕ) (width n i : ℕ) → i * width + n * width ≤ m → lines full name width n i (drop (i * width) l) ≡ lines_of cell name width n i
  lines_are name width zero i h = refl
  lines_are name width (suc n) i h =
      let next = suc-mul i width in
      let more = suc-mul n width in
      ap₂ ◌++◌ (line_is (name i) (i * width) width (omega arith))
      (ap (lines full name width n (suc i)) (drop-drop width (i * width) l ∙ ap (λ (k : ℕ). drop k l) (sym next)) ∙ lines_are name width n (suc i) (omega arith))

-- A whole row on one line.
row_is : (full : ℕ) (cell : ℕ → Standing) (l name : List ℕ) (n : ℕ) → length l ≡ n → ((i : ℕ) → shown full (get_or l i 0) ≡ printed (cell i)) → line full name l ≡ line_of cell name 0 n
row_is full cell l name n e each = ap (line full name) (sym (take_all n l (omega arith))) ∙ line_is full cell l n (omega arith) (λ i _. each i) name 0 n (omega arith)

-- The cells of PT6312 or PT6315, a line for each digit.
cells_are : (f : Family) (k : Knowledge) (width n : ℕ) → n * width ≤ (sizes f).cells → (sizes f).cells ≤ 36 → OfSegment.Shaped k → Sound (Segment.range (sizes f)) (kview k)
    → digits width n k.cells ≡ lines_of (cells_in (kview k)) (named Addresses width) width n 0
cells_are f k width n fits most shaped good =
    let from : 0 * width ≡ 0 = zero-mul width in
    ap (λ (i : ℕ). lines cell_marks (named Addresses width) width n 0 (drop i k.cells)) (sym from)
    ∙ lines_are cell_marks (cells_in (kview k)) k.cells (sizes f).cells (omega (arith, shaped.cells)) (cell_prints (sizes f) k good) (named Addresses width) width n 0 (omega arith)

-- "The program prints" what is known of the memory: where every known value is in range, as after every replay that is done,
-- the memory's lines are those of what is known of each bit.
pub memory_printed : (p : Part) (k : Panel) → Shaped k → Sound (range p) (known_of p k) → memory (Ok p) k ≡ memory_of p (known_of p k)
unfolding sizes
memory_printed Pt6302 k shaped good =
    let h = k.character in
    let v = known_of Pt6302 k in
    let rows = shaped.character in
    ap₂ ◌++◌ (row_is cell_marks (text_in v) h.dcram (code "D" ∷ []) 16 rows.dcram (text_prints h good))
    (ap₂ ◌++◌ (lines_are column_marks (columns_in v) h.cgram 40 (omega (arith, rows.cgram)) (λ i _. column_prints h good i) (named Characters 5) 5 8 0 (omega arith))
    (row_is pair_marks (pairs_in v) h.adram (code "A" ∷ []) 16 rows.adram (pair_prints h good)))
memory_printed Pt6312 k shaped good = cells_are OfFamily.Pt6312 k.segment 2 11 (omega arith) (omega arith) shaped.segment good
memory_printed Pt6315 k shaped good = cells_are OfFamily.Pt6315 k.segment 3 12 (omega arith) (omega arith) shaped.segment good
