-- What holds of an answer of `temperature`, as a caller has it: of the byte of PT6302 and of what `temperature` promises.
-- The argument: a reading comes only with number 0, and then it is what is told of the field; the rest is `Told`, over
-- bytes. A byte is known where each of its eight bits is, and bytes with the same bits are equal.
use Rattle.std.specs.Prelude.{ℕ, ◌+◌, ◌≤◌, ◌<◌, ◌≡◌, refl, Bool, true, false, ◌||◌, ℤ, pos, eqb, Float, Ok, Err}
use Rattle.std.proofs.Common.{arith, sym, ap, ◌∙◌, subst, true≢false, eq-eqb, ltb-false, le-ltb}
use Rattle.std.proofs.Math.Path.{subst⁻¹}
use Rattle.std.specs.Float.{fin, binary32}
use Rattle.std.specs.Float.Ieee.{add, eq, of_int}
use Rattle.std.proofs.lemmas.Bool.{eqb-false}
use Rattle.rules.specs.Digit.{same_byte}
use Rattle.rules.specs.Where.{good, bad}
use Rattle.knowing.specs.Standing.{Standing, known, Agrees, Fits, Within, Sound}
use Rattle.knowing.specs.Standing as Of
use Rattle.knowing.specs.Holds.{is_known, is_known_lem, holds}
use Rattle.knowing.specs.Bytes.{holds_tests, spelt_in, in_spelt, bit_unknown, in_more}
use Rattle.terms.specs.Part.{PartRead, part_of}
use Rattle.terms.specs.declared.Part.TheVariants.{Pt6302, Pt6312, Pt6315}
use Rattle.character.specs.declared.Lights.TheVariants.{Normal, Off, On}
use Rattle.character.specs.Value.{lit}
use Rattle.character.specs.Fact.{Fact, range, dcram, lights, digits}
use Rattle.panel.specs.declared.Panel.{Panel}
use Rattle.panel.specs.View.{known_of}
use Rattle.whole.specs.Turns.{KnowsAtLeast}
use Rattle.half_degrees.specs.Half.{signed, InHalves, Halved}
use Rattle.half_degrees.specs.Laws.{double_whole, one_number, equals_nought}
use Rattle.field.specs.declared.spelling.Five.{Five}
use Rattle.field.specs.Said.{Said, reading, no_reading, unknown, not_a_reading}
use Rattle.field.specs.Field.{minus, in_use, last, is_dark, all_dashes, is_number, size_of, if_all, spelled}
use Rattle.field.specs.Laws.{Bytes, number_bytes, size_small, spells_none, spells_number, spells_nothing}
use Rattle.field_cells.specs.Cells.{no_cell}
use Rattle.field_told.specs.Laws.{either_unknown, told_unknown, told_cells}
use Rattle.thermometer.specs.declared.temperatures.Answer.{Answer}
use Rattle.thermometer.specs.declared.temperatures.Answer.TheVariants.{Reading}
use Rattle.thermometer.specs.Answer.{number, Says, Reads, Answers, cell_of, byte_of, temperature_of, TellsSound, Tells}
use Rattle.thermometer.specs.Laws.{tells_as}
use Rattle.thermometer.specs.Shown.{CellIs, FieldIs, Shows, ShownBy, KnownToShow}
use Rattle.thermometer.specs.Unique.{Fitting, by_said, same_said}
use Rattle.readings.specs.Told.{Known, reading_known, known_reading, told_more}

-- ---- what five cells spell

same_reading : {h j : ℤ} → reading h ≡ reading j → h ≡ j
same_reading e = cc

-- Five dashes spell no number.
dashes : (f : Five) (h : ℤ) → all_dashes f ≡ true → spelled f ≡ reading h → ⊥
dashes f h d e =
    let none : no_reading ≡ reading h = sym (spells_none f d) ∙ e in
    let z : ◌≡◌ {A = ℕ} 0 1 = cc in
    omega arith

-- Five cells that are 2DH, which are bytes.
abbrev pub five_dashes : Five
five_dashes = record { sign = minus; tens = minus; units = minus; point = minus; half = minus }

dash_bytes : Bytes five_dashes
dash_bytes = record { sign = omega arith; tens = omega arith; units = omega arith; point = omega arith; half = omega arith }

-- What five cells spell is a number only where the tests say so.
spelled_number : (f : Five) (h : ℤ) → spelled f ≡ reading h → (all_dashes f ≡ false) × (is_number f ≡ true)
spelled_number f h e = go (all_dashes f) (is_number f) refl refl
  where
    go : (t u : Bool) → all_dashes f ≡ t → is_number f ≡ u → (all_dashes f ≡ false) × (is_number f ≡ true)
    go true u p q = absurd (dashes f h p e)
    go false true p q = (p, q)
    go false false p q =
        let none : not_a_reading ≡ reading h = sym (spells_nothing f p q) ∙ e in
        let z : ◌≡◌ {A = ℕ} 0 1 = cc in
        absurd (omega arith)

reading_bytes : (f : Five) (h : ℤ) → spelled f ≡ reading h → Bytes f
reading_bytes f h e = number_bytes f (spelled_number f h e).1

-- A number that five cells spell is from -199 to 199 half degrees.
pub record InField (h : ℤ) : Type 0 where
  pub negative : Bool
  pub size : ℕ
  pub most : size ≤ 199
  pub is : h ≡ signed negative size

spelled_few : (f : Five) (h : ℤ) → spelled f ≡ reading h → InField h
spelled_few f h e =
    let (p, q) = spelled_number f h e in
    record {
      negative = eqb f.sign minus;
      size = size_of f;
      most = size_small f;
      is = same_reading (sym e ∙ spells_number f p q);
    }

-- Five cells are no two fields: bytes with the same bits are equal.
one_field : (c : Fact → ℕ) (start : ℕ) (f g : Five) → Bytes f → Bytes g → FieldIs c start f → FieldIs c start g → f ≡ g
one_field c start f g bf bg p q =
    λ i. record {
      sign = one start bf.sign bg.sign p.sign q.sign i;
      tens = one (start + 1) bf.tens bg.tens p.tens q.tens i;
      units = one (start + 2) bf.units bg.units p.units q.units i;
      point = one (start + 3) bf.point bg.point p.point q.point i;
      half = one (start + 4) bf.half bg.half p.half q.half i;
    }
  where
    one : (i : ℕ) {a b : ℕ} → a < 256 → b < 256 → CellIs c i a → CellIs c i b → a ≡ b
    one i {a} {b} ha hb p q = same_byte a b ha hb (λ j l. sym (p j l) ∙ q j l)

-- A chip shows no two readings in one field.
pub shows_one : (start : ℕ) (h j : ℤ) (c : Fact → ℕ) → Shows start h c → Shows start j c → h ≡ j
shows_one start h j c p q =
    let same = one_field c start p.field q.field (reading_bytes p.field h p.spells) (reading_bytes q.field j q.spells) p.cells q.cells in
    same_reading (sym p.spells ∙ ap spelled same ∙ q.spells)

-- ---- what is known, in the words of the request

or_false : (a b : Bool) → (a || b) ≡ false → (a ≡ false) × (b ≡ false)
or_false true b e = absurd (true≢false e)
or_false false b e = (refl, e)

-- Lights that are neither off nor on are normal.
normal : (v : ℕ) → v < 3 → is_known (known v) (lit Off) ≡ false → is_known (known v) (lit On) ≡ false → v ≡ lit Normal
normal v h p q =
    let not-off = eqb-false v 1 p in
    let not_on = eqb-false v 2 q in
    omega arith

module _ (k : Fact → Standing) where
  -- Who knows a byte knows its eight bits, and the other way round.
  cell_held : Sound range k → (i byte : ℕ) → byte_of k i ≡ known byte → holds 8 (cell_of k i) byte ≡ true
  cell_held sound i byte e = (holds_tests 8 (cell_of k i) byte).back (in_spelt 8 (cell_of k i) byte (λ j _. sound (dcram i j)) e).1

  held_cell : (i byte : ℕ) → byte < 256 → holds 8 (cell_of k i) byte ≡ true → byte_of k i ≡ known byte
  held_cell i byte few e = spelt_in 8 (cell_of k i) byte few ((holds_tests 8 (cell_of k i) byte).so e)

  -- A chip that fits has the bits.
  cell_is : (i byte : ℕ) → holds 8 (cell_of k i) byte ≡ true → (c : Fact → ℕ) → Fits k c → CellIs c i byte
  cell_is i byte e c fits j few = subst (λ (x : Standing). Agrees x (c (dcram i j))) ((holds_tests 8 (cell_of k i) byte).so e j few) (fits (dcram i j))

module _ (k : Fact → Standing) (start : ℕ) (h : ℤ) where
  -- What is told to be a reading is known to show it,
  to_show : Sound range k → Known (k lights) (k digits) (byte_of k) start h → KnownToShow start h k
  to_show sound w =
      let lights_is : is_dark (known w.light) (known w.code) start ≡ false = subst (λ (x : Standing). is_dark x (known w.code) start ≡ false) w.lights (subst (λ (x : Standing). is_dark (k lights) x start ≡ false) w.digits w.lit) in
      let (not-off, rest) = or_false (is_known (known w.light) (lit Off)) _ lights_is in
      let (not_on, not-past) = or_false (is_known (known w.light) (lit On)) _ rest in
      let few : w.light < 3 = subst (Within 3) w.lights (sound lights) in
      record {
        lit = rw w.lights (eq-eqb w.light 0 (normal w.light few not-off not_on));
        code = w.code;
        digits = rw w.digits (eq-eqb w.code w.code refl);
        within = ltb-false (in_use w.code) (last start) not-past;
        five = w.five;
        sign = cell_held k sound start _ w.sign;
        tens = cell_held k sound (start + 1) _ w.tens;
        units = cell_held k sound (start + 2) _ w.units;
        point = cell_held k sound (start + 3) _ w.point;
        half = cell_held k sound (start + 4) _ w.half;
        spells = w.spells;
      }

  -- and the other way round.
  from_show : KnownToShow start h k → Known (k lights) (k digits) (byte_of k) start h
  from_show w =
      let light = is_known_lem (k lights) 0 w.lit in
      let code = is_known_lem (k digits) w.code w.digits in
      let f = reading_bytes w.five h w.spells in
      record {
        lit = rw (light, code) (le-ltb (in_use w.code) (last start) w.within);
        light = 0;
        lights = light;
        code = w.code;
        digits = code;
        five = w.five;
        sign = held_cell k start _ f.sign w.sign;
        tens = held_cell k (start + 1) _ f.tens w.tens;
        units = held_cell k (start + 2) _ f.units w.units;
        point = held_cell k (start + 3) _ f.point w.point;
        half = held_cell k (start + 4) _ f.half w.half;
        spells = w.spells;
      }

  -- What is known to show a reading, every chip that fits shows.
  value_is : (s : Standing) (v w : ℕ) → is_known s v ≡ true → Agrees s w → w ≡ v
  value_is s v w e a = subst (λ (x : Standing). Agrees x w) (is_known_lem s v e) a

  module _ (w : KnownToShow start h k) (c : Fact → ℕ) (fits : Fits k c) where
    same_cells : FieldIs c start w.five
    same_cells = record {
      sign = cell_is k start _ w.sign c fits;
      tens = cell_is k (start + 1) _ w.tens c fits;
      units = cell_is k (start + 2) _ w.units c fits;
      point = cell_is k (start + 3) _ w.point c fits;
      half = cell_is k (start + 4) _ w.half c fits;
    }

    fits_shows : Shows start h c
    fits_shows = record {
      lit = value_is (k lights) (lit Normal) (c lights) w.lit (fits lights);
      within = rw (value_is (k digits) w.code (c digits) w.digits (fits digits)) w.within;
      field = w.five;
      cells = same_cells;
      spells = w.spells;
    }

  known_shown : KnownToShow start h k → ShownBy start h (Fits k)
  known_shown w = record { field = w.five; spells = w.spells; shown = fits_shows w; same = same_cells w }

-- ---- the answer

reads_number : (r : Answer) (h : ℤ) → Reads r h → number r ≡ 0
reads_number r h (f, e, v) = ap number e

-- What a reading says is its half degrees, and nothing else.
reads_says : (r : Answer) (h : ℤ) (s : Said) → Reads r h → Says r s → s ≡ reading h
reads_says r h s (f, e, v) w =
    let (j, said, u) = subst (λ (x : Answer). Says x s) e w in
    said ∙ ap reading (one_number f j h u v)

-- An answer of a reading is what is told of the field, by one who knows nothing out of range.
pub record FromField (k : Fact → Standing) (start : ℕ) (h : ℤ) : Type 0 where
  pub in_range : Sound range k
  pub a_field : start ≤ 11
  pub told : temperature_of k start ≡ reading h

from_field : (k : Fact → Standing) (start : ℕ) (r : Answer) (h : ℤ) → Reads r h → TellsSound k start r → FromField k start h
from_field k start r h reads (good sound (good few a)) = record { in_range = sound; a_field = few; told = reads_says r h (temperature_of k start) reads a.says }
from_field k start r h reads (good sound (bad n a)) = absurd (let z = sym a.numbered ∙ reads_number r h reads in omega arith)
from_field k start r h reads (bad n a) = absurd (let z = sym a.numbered ∙ reads_number r h reads in omega arith)

-- A reading is some half degrees, from -99.5 to 99.5, to its last bit; its double, in the logic's own IEEE numbers, is
-- that whole number; and it is what is told of the field.
pub record ExactReading (k : Fact → Standing) (start : ℕ) (f : Float) : Type 0 where
  pub halves : ℤ
  pub float : InHalves f halves
  pub double : add binary32 f f ≡ of_int binary32 halves
  pub few : InField halves
  pub told : temperature_of k start ≡ reading halves

-- Whatever the part byte names, a reading that is answered is exact, and is some half degrees.
exact_sound : (k : Fact → Standing) (start : ℕ) (r : Answer) (f : Float) → r ≡ Reading f → TellsSound k start r → ExactReading k start f
exact_sound k start r f e (good sound (good few a)) =
    let (h, said, v) = subst (λ (x : Answer). Says x (temperature_of k start)) e a.says in
    let w = reading_known (k lights) (k digits) (byte_of k) start h said in
    record { halves = h; float = v; double = double_whole f h v; few = spelled_few w.five h w.spells; told = said }
exact_sound k start r f e (good sound (bad n a)) = absurd (let z = sym a.numbered ∙ ap number e in omega arith)
exact_sound k start r f e (bad n a) = absurd (let z = sym a.numbered ∙ ap number e in omega arith)

pub answer_halved : (q : PartRead) (k : Panel) (start : ℕ) (r : Answer) → Tells q k start r → (f : Float) → r ≡ Reading f → Halved f
answer_halved (Ok Pt6302) k start r met f e =
    let x = exact_sound (known_of Pt6302 k) start r f e met in
    let few = x.few in
    record { negative = few.negative; halves = few.size; few = let m = few.most in omega arith; exact = subst (InHalves f) few.is x.float }
answer_halved (Ok Pt6312) k start r met f e = absurd (let z = sym met.numbered ∙ ap number e in omega arith)
answer_halved (Ok Pt6315) k start r met f e = absurd (let z = sym met.numbered ∙ ap number e in omega arith)
answer_halved (Err x) k start r met f e = absurd (let z = sym met.numbered ∙ ap number e in omega arith)

-- Where one bit of the five cells is not known, nothing is told of a field that is not known to be dark.
bit_told : (k : Fact → Standing) (start i j : ℕ) → i < 5 → j < 8 → k (dcram (start + i) j) ≡ Of.unknown → is_dark (k lights) (k digits) start ≡ false
    → temperature_of k start ≡ unknown
bit_told k start i j few eight u seen = go (either_unknown (k lights) (k digits)) refl
  where
    cells : if_all (byte_of k) start spelled ≡ unknown
    cells = no_cell (byte_of k) start spelled i few (bit_unknown 8 (cell_of k (start + i)) j eight u)

    go : (t : Bool) → either_unknown (k lights) (k digits) ≡ t → temperature_of k start ≡ unknown
    go true e = told_unknown (k lights) (k digits) (byte_of k) start seen e
    go false e = told_cells (k lights) (k digits) (byte_of k) start seen e ∙ cells

-- A chip, as what is known by one who knows all of it.
abbrev pub wholly : (Fact → ℕ) → Fact → Standing
wholly c f = known (c f)

fits_less : (k : Fact → Standing) (c : Fact → ℕ) → Fits k c → KnowsAtLeast k (wholly c)
fits_less k c fits f v e = ap known (subst (λ (x : Standing). Agrees x (c f)) e (fits f))

module _ (b : ℕ) (named : part_of b ≡ Ok Pt6302) (k : Panel) (start : ℕ) (r : Answer) (met : Tells (part_of b) k start r) where
  promised : TellsSound (known_of Pt6302 k) start r
  promised = tells_as (part_of b) (Ok Pt6302) k start r named met

  -- "The f32 is exact."
  pub reading_exact : (f : Float) → r ≡ Reading f → ExactReading (known_of Pt6302 k) start f
  reading_exact f e = exact_sound (known_of Pt6302 k) start r f e promised

  -- A reading is given only where lights, digits and the five cells are known, the field is lit, within the digits in
  -- use, and spells it;
  pub reading_is_known : (h : ℤ) → Reads r h → KnownToShow start h (known_of Pt6302 k)
  reading_is_known h reads =
      let f = from_field (known_of Pt6302 k) start r h reads promised in
      to_show (known_of Pt6302 k) start h f.in_range (reading_known _ _ _ start h f.told)

  -- and it is given there, where what is known is in range and a field may start there.
  pub known_is_read : (h : ℤ) → Sound range (known_of Pt6302 k) → start ≤ 11 → KnownToShow start h (known_of Pt6302 k) → Reads r h
  known_is_read h sound few w = go promised
    where
      told : temperature_of (known_of Pt6302 k) start ≡ reading h
      told = known_reading _ _ _ start h (from_show (known_of Pt6302 k) start h w)

      go : TellsSound (known_of Pt6302 k) start r → Reads r h
      go (good _ (good _ a)) = by_said (reading h) r a.numbered (subst (Says r) told a.says)
      go (good _ (bad n a)) = absurd (n few)
      go (bad n a) = absurd (n sound)

  -- A reading is given only if every chip that fits shows that field, and no chip that fits shows another: there are five
  -- bytes that spell it, and every chip that fits has them in those five cells, lit and within the digits in use.
  pub reading_is_shown : (h : ℤ) → Reads r h → ShownBy start h (λ c. Fits (known_of Pt6302 k) c)
  reading_is_shown h reads = known_shown (known_of Pt6302 k) start h (reading_is_known h reads)

  -- If the answer is a reading of nought, then every chip that fits shows, in those five cells, lit and within the digits
  -- in use, a field that spells nought.
  pub nought_is_shown : (f : Float) → r ≡ Reading f → eq f (fin false 0 (pos 0)) ≡ true
      → (c : Fact → ℕ) → Fits (known_of Pt6302 k) c → Shows start (pos 0) c
  nought_is_shown f e nought c fits =
      let x = reading_exact f e in
      let reads : Reads r (pos 0) = (f, e, subst (InHalves f) (equals_nought f x.halves x.float nought) x.float) in
      (reading_is_shown (pos 0) reads).shown c fits

  -- A field whose five cells are 2DH, on any chip that fits, never reads as a number.
  pub dashes_never_read : (c : Fact → ℕ) → Fits (known_of Pt6302 k) c → FieldIs c start five_dashes
      → (f : Float) → r ≡ Reading f → ⊥
  dashes_never_read c fits dashed f e =
      let x = reading_exact f e in
      let s = reading_is_shown x.halves (f, e, x.float) in
      let same = one_field c start five_dashes s.field dash_bytes (reading_bytes s.field x.halves s.spells) dashed (s.same c fits) in
      dashes five_dashes x.halves refl (ap spelled same ∙ s.spells)

  -- "A cell with any bit unknown .. counts as unknown in M-103" (M-107): where a single bit of the five cells isn't
  -- known, and the field isn't known to be dark, the answer says unknown.
  pub bit_leaves_unknown : (i j : ℕ) → i < 5 → j < 8 → known_of Pt6302 k (dcram (start + i) j) ≡ Of.unknown
      → is_dark (known_of Pt6302 k lights) (known_of Pt6302 k digits) start ≡ false → Says r unknown
  bit_leaves_unknown i j few eight u seen = go promised
    where
      go : TellsSound (known_of Pt6302 k) start r → Says r unknown
      go (good _ (good _ a)) = subst (Says r) (bit_told (known_of Pt6302 k) start i j few eight u seen) a.says
      go (good _ (bad n a)) = a.says
      go (bad n a) = a.says

  -- By one who knows at least as much the same is told, unless the answer said unknown.
  module _ (more : Fact → Standing) (least : KnowsAtLeast (known_of Pt6302 k) more) (n : Says r unknown → ⊥) where
    same_told : TellsSound (known_of Pt6302 k) start r → (start ≤ 11) × Answers 0 (temperature_of more start) r
    same_told (good _ (good few a)) =
        let same = told_more _ _ _ _ _ _ start (least lights) (least digits) (λ i. in_more 8 (cell_of (known_of Pt6302 k) i) (cell_of more i) (λ j. least (dcram i j))) (λ u. n (subst (Says r) u a.says)) in
        (few, subst⁻¹ (λ (s : Said). Answers 0 s r) same a)
    same_told (good _ (bad m a)) = absurd (n a.says)
    same_told (bad m a) = absurd (n a.says)

  -- "More knowledge never changes an answer other than unknown."
  pub more_keeps : (k' : Panel) (r' : Answer) → Tells (part_of b) k' start r' → Fitting r → Fitting r'
      → Sound range (known_of Pt6302 k') → KnowsAtLeast (known_of Pt6302 k) (known_of Pt6302 k')
      → (Says r unknown → ⊥) → r' ≡ r
  more_keeps k' r' met' fit fit' sound' least n =
      go (same_told (known_of Pt6302 k') least n promised) (tells_as (part_of b) (Ok Pt6302) k' start r' named met')
    where
      go : (start ≤ 11) × Answers 0 (temperature_of (known_of Pt6302 k') start) r → TellsSound (known_of Pt6302 k') start r' → r' ≡ r
      go (few, a) (good _ (good _ q)) = same_said k' start r' r fit' fit _ q a
      go (few, a) (good _ (bad m q)) = absurd (m few)
      go (few, a) (bad m q) = absurd (m sound')

  -- So an answer other than unknown is what is told of every chip that fits, by one who knows all of it.
  pub answer_is_shown : (Says r unknown → ⊥) → (c : Fact → ℕ) → Fits (known_of Pt6302 k) c
      → Says r (temperature_of (wholly c) start)
  answer_is_shown n c fits = (same_told (wholly c) (fits_less (known_of Pt6302 k) c fits) n promised).1.says
