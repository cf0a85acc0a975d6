-- No premise of demand 3's last sentence is empty by the bits that a fact does not have (M-107): a start that knows
-- everything of its part knows all settings and the position; and for each part there is such a start, in range. The
-- argument: each setting is a fact of the part, and a code with all marks of its width knows every bit of it.
use Rattle.std.specs.Prelude.{ℕ, ◌<◌, ◌≡◌, refl, Bool, true, false, ◌&&◌, ltb, get_or, replicate}
use Rattle.std.proofs.Common.{arith, ap, ◌∙◌, ltb-true}
use Rattle.std.proofs.Math.Decide.{dec_lt}
use Rattle.std.proofs.Math.Path.{subst⁻¹}
use Rattle.std.proofs.lemmas.List.{get_or-replicate, length-replicate}
use Rattle.std.proofs.Math.ListN.{get_or-eq_default}
use Rattle.rules.specs.Choice.{whether, whether_all, both}
use Rattle.rules.specs.Digit.{digit, digit_small}
use Rattle.knowing.specs.Standing.{Standing, known, unknown, Within, Sound}
use Rattle.terms.specs.declared.Part.{Part}
use Rattle.terms.specs.declared.Part.TheVariants.{Pt6302, Pt6312, Pt6315}
use Rattle.fact.specs.declared.Single.TheVariants.{Known}
use Rattle.key_codes.specs.View.{coded}
use Rattle.lamps.specs.View.{shown, held, OfByte}
use Rattle.lamps.specs.Lamp.{wide8, wide7, wide4, wide2, none_shown, code_shown}
use Rattle.segment.specs.declared.Sizes.{Sizes}
use Rattle.segment.specs.declared.Family.{Family}
use Rattle.segment.specs.declared.Family.TheVariants as OfFamily
use Rattle.segment.specs.Family.{sizes}
use Rattle.segment.specs.Fact as Segment
use Rattle.segment.specs.Laws as SegmentLaws
use Rattle.character.specs.Fact as Character
use Rattle.character.specs.Laws as CharacterLaws
use Rattle.segment.specs.declared.Pointer.TheVariants.{At}
use Rattle.parts.specs.Facts.{Fact, range}
use Rattle.panel.specs.declared.Panel.{Panel}
use Rattle.panel.specs.View.{known_of}
use Rattle.whole.specs.Sentence.{IsKnown, StartKnows}
use Rattle.demand.specs.Met.{no_segment_setting, no_input_setting, no_character_setting, led_set, port_set}

-- The facts that a part has: its cells, its key bytes, its switches if any; eight bits of a cell, four of the LED.
abbrev segment_has : Sizes → Segment.Fact → Bool
segment_has s (Segment.cell i k) = ltb i s.cells && ltb k Segment.cell_bits
segment_has s Segment.address = true
segment_has s Segment.data_mode = true
segment_has s Segment.stepping = true
segment_has s Segment.mode = true
segment_has s Segment.dimming = true
segment_has s Segment.display = true
segment_has s (Segment.led k) = ltb k Segment.led_bits
segment_has s (Segment.key i) = ltb i s.keys
segment_has s Segment.switches = s.switched
segment_has s Segment.read_count = true
segment_has s Segment.position = true

-- Eight bits of a cell of DCRAM, seven of a column, two of a pair and of the port.
abbrev character_has : Character.Fact → Bool
character_has (Character.dcram i k) = ltb i 16 && ltb k Character.text_bits
character_has (Character.cgram i k) = ltb i 40 && ltb k Character.column_bits
character_has (Character.adram i k) = ltb i 16 && ltb k Character.pair_bits
character_has Character.dcram_at = true
character_has Character.cgram_at = true
character_has Character.adram_at = true
character_has Character.column = true
character_has (Character.port k) = ltb k Character.port_bits
character_has Character.duty = true
character_has Character.digits = true
character_has Character.lights = true
character_has Character.position = true

abbrev pub has : (p : Part) → Fact p → Bool
has Pt6302 f = character_has f
has Pt6312 f = segment_has (sizes OfFamily.Pt6312) f
has Pt6315 f = segment_has (sizes OfFamily.Pt6315) f

-- Everything of the part is known.
abbrev pub KnowsAll : (p : Part) → (Fact p → Standing) → Type 0
KnowsAll p k = (f : Fact p) → has p f ≡ true → IsKnown (k f)

segment_setting : (s : Sizes) (f : Segment.Fact) → Segment.sort f ≡ Segment.setting → segment_has s f ≡ true
segment_setting s =
    SegmentLaws.every _ (λ i j e. absurd (no_segment_setting e)) (λ e. refl) (λ e. refl) (λ e. refl) (λ e. refl) (λ e. refl) (λ e. refl)
    (λ j e. led_set (ltb j 4) e) (λ i e. absurd (no_input_setting e)) (λ e. absurd (no_input_setting e)) (λ e. refl) (λ e. refl)

character_setting : (f : Character.Fact) → Character.sort f ≡ Character.setting → character_has f ≡ true
character_setting =
    CharacterLaws.every _ (λ i j e. absurd (no_character_setting e)) (λ i j e. absurd (no_character_setting e)) (λ i j e. absurd (no_character_setting e))
    (λ e. refl) (λ e. refl) (λ e. refl) (λ e. refl) (λ j e. port_set (ltb j 2) e) (λ e. refl) (λ e. refl) (λ e. refl) (λ e. refl)

-- A start that knows everything of its part is such a start as the last sentence asks for.
pub all_known_starts : (p : Part) (k : Fact p → Standing) → KnowsAll p k → StartKnows p k
all_known_starts Pt6302 k all = record { settings = λ f e. all f (character_setting f e); position_known = all Character.position refl }
all_known_starts Pt6312 k all = record { settings = λ f e. all f (segment_setting (sizes OfFamily.Pt6312) f e); position_known = all Segment.position refl }
all_known_starts Pt6315 k all = record { settings = λ f e. all f (segment_setting (sizes OfFamily.Pt6315) f e); position_known = all Segment.position refl }

-- A panel of which everything is known: each value is 0, and all marks of each width are set.
abbrev pub everything : Panel
everything = record {
  segment = record {
    cells = replicate 36 0xFF00;
    control = record {
      address = Known (At (record { 0 = 0 }));
      «data» = Known 0;
      stepping = Known 0;
      mode = Known 0;
      dimming = Known 0;
      display = Known 0;
      led = 0x0F00;
      keys = replicate 4 0;
      switches = Known 0;
      count = Known 0;
      position = Known 0;
    };
  };
  character = record {
    dcram = replicate 16 0xFF00;
    cgram = replicate 40 0x7F00;
    adram = replicate 16 0x0300;
    control = record {
      dcram_at = Known (record { 0 = 0 });
      cgram_at = Known (record { 0 = 0 });
      adram_at = Known (record { 0 = 0 });
      column = Known 0;
      port = 0x0300;
      duty = Known 0;
      digits = Known 0;
      lights = Known 0;
      position = Known 0;
    };
  };
}

-- Those codes are of the byte 0.
zero8 : OfByte 8 0 0xFF00
zero8 = code_shown 8 0xFFFF wide8 0 (omega arith)

zero7 : OfByte 7 0 0x7F00
zero7 = code_shown 7 0x7F7F wide7 0 (omega arith)

zero4 : OfByte 4 0 0x0F00
zero4 = code_shown 4 0x0F0F wide4 0 (omega arith)

zero2 : OfByte 2 0 0x0300
zero2 = code_shown 2 0x0303 wide2 0 (omega arith)

-- Each bit of such a code is known, and in range.
module _ (w c : ℕ) (o : OfByte w 0 c) where
  bit_known : (k : ℕ) → ltb k w ≡ true → IsKnown (shown w c k)
  bit_known k e = (digit k 0, o k ∙ rw e refl)

  bit_in : (k : ℕ) → Within 2 (shown w c k)
  bit_in k =
      subst⁻¹ (Within 2) (o k)
      (whether_all (Within 2) (ltb k w) (known (digit k 0)) unknown (λ _. digit_small k 0) (λ _. tt))

  row_known : (n i k : ℕ) → i < n → ltb k w ≡ true → IsKnown (held w (replicate n c) i k)
  row_known n i k h e = subst⁻¹ (λ (x : ℕ). IsKnown (shown w x k)) (get_or-replicate n i c 0 h) (bit_known k e)

  row_in : (n i k : ℕ) → Within 2 (held w (replicate n c) i k)
  row_in n i k = go (dec_lt i n)
    where
      go : Dec (i < n) → Within 2 (held w (replicate n c) i k)
      go (yes h) = subst⁻¹ (λ (x : ℕ). Within 2 (shown w x k)) (get_or-replicate n i c 0 h) (bit_in k)
      go (no h) =
          let l = length-replicate n c in
          subst⁻¹ (Within 2) (ap (λ (x : ℕ). shown w x k) (get_or-eq_default (replicate n c) 0 (omega arith)) ∙ none_shown w k) tt

key_known : (i : ℕ) → i < 4 → IsKnown (coded (get_or (replicate 4 0) i 256))
key_known i h = subst⁻¹ (λ (c : ℕ). IsKnown (coded c)) (get_or-replicate 4 i 0 256 h) (0, refl)

-- What is 0 or unknown is in any range, and a bit in the range of what a part lacks, too.
key_in : (t : Bool) (i : ℕ) → Within (whether t 256 Segment.lacking) (coded (get_or (replicate 4 0) i 256))
key_in t i = go (dec_lt i 4)
  where
    low : (t : Bool) → 0 < whether t 256 Segment.lacking
    low true = omega arith
    low false = omega arith

    go : Dec (i < 4) → Within (whether t 256 Segment.lacking) (coded (get_or (replicate 4 0) i 256))
    go (yes h) = subst⁻¹ (λ (c : ℕ). Within (whether t 256 Segment.lacking) (coded c)) (get_or-replicate 4 i 0 256 h) (low t)
    go (no h) =
        let l = length-replicate {A = ℕ} 4 0 in
        subst⁻¹ (λ (c : ℕ). Within (whether t 256 Segment.lacking) (coded c)) (get_or-eq_default (replicate {A = ℕ} 4 0) 256 {n = i} (omega (arith, l))) tt

cell_in : (t : Bool) (s : Standing) → Within 2 s → Within (whether t 2 Segment.lacking) s
cell_in true s h = h
cell_in false (known v) h = omega arith
cell_in false unknown h = tt

segment_known : (q : Family) (f : Segment.Fact) → segment_has (sizes q) f ≡ true → IsKnown (known_of Pt6312 everything f)
segment_known q =
    SegmentLaws.every _
    (λ i j e.
    let t = both (ltb i (sizes q).cells) (ltb j 8) e in
    row_known 8 0xFF00 zero8 36 i j (omega (arith, ltb-true i (sizes q).cells t.0, (SegmentLaws.room q).0)) t.1)
    (λ e. (_, refl)) (λ e. (_, refl)) (λ e. (_, refl)) (λ e. (_, refl)) (λ e. (_, refl)) (λ e. (_, refl)) (λ j e. bit_known 4 0x0F00 zero4 j e)
    (λ i e. key_known i (omega (arith, ltb-true i (sizes q).keys e, (SegmentLaws.room q).1))) (λ e. (_, refl)) (λ e. (_, refl)) (λ e. (_, refl))

segment_in : (q : Family) (f : Segment.Fact) → Within (Segment.range (sizes q) f) (known_of Pt6312 everything f)
unfolding sizes
segment_in OfFamily.Pt6312 =
    SegmentLaws.every _ (λ i j. cell_in (ltb i 22) (known_of Pt6312 everything (Segment.cell i j)) (row_in 8 0xFF00 zero8 36 i j)) (omega arith) (omega arith) (omega arith) (omega arith) (omega arith) (omega arith)
    (λ j. bit_in 4 0x0F00 zero4 j) (λ i. key_in (ltb i 3) i) (omega arith) (omega arith) (omega arith)
segment_in OfFamily.Pt6315 =
    SegmentLaws.every _ (λ i j. cell_in (ltb i 36) (known_of Pt6312 everything (Segment.cell i j)) (row_in 8 0xFF00 zero8 36 i j)) (omega arith) (omega arith) (omega arith) (omega arith) (omega arith) (omega arith)
    (λ j. bit_in 4 0x0F00 zero4 j) (λ i. key_in (ltb i 4) i) (omega arith) (omega arith) (omega arith)

character_known : (f : Character.Fact) → character_has f ≡ true → IsKnown (known_of Pt6302 everything f)
character_known =
    CharacterLaws.every _
    (λ i j e. let t = both (ltb i 16) (ltb j 8) e in row_known 8 0xFF00 zero8 16 i j (ltb-true i 16 t.0) t.1)
    (λ i j e. let t = both (ltb i 40) (ltb j 7) e in row_known 7 0x7F00 zero7 40 i j (ltb-true i 40 t.0) t.1)
    (λ i j e. let t = both (ltb i 16) (ltb j 2) e in row_known 2 0x0300 zero2 16 i j (ltb-true i 16 t.0) t.1)
    (λ e. (_, refl)) (λ e. (_, refl)) (λ e. (_, refl)) (λ e. (_, refl)) (λ j e. bit_known 2 0x0300 zero2 j e) (λ e. (_, refl)) (λ e. (_, refl)) (λ e. (_, refl)) (λ e. (_, refl))

character_in : (f : Character.Fact) → Within (Character.range f) (known_of Pt6302 everything f)
character_in =
    CharacterLaws.every _ (row_in 8 0xFF00 zero8 16) (row_in 7 0x7F00 zero7 40) (row_in 2 0x0300 zero2 16) (omega arith) (omega arith) (omega arith) (omega arith)
    (bit_in 2 0x0300 zero2) (omega arith) (omega arith) (omega arith) (omega arith)

-- It knows everything of each part, and is in range.
pub everything_known : (p : Part) → KnowsAll p (known_of p everything) × Sound (range p) (known_of p everything)
everything_known Pt6302 = (character_known, character_in)
everything_known Pt6312 = (segment_known OfFamily.Pt6312, segment_in OfFamily.Pt6312)
everything_known Pt6315 = (segment_known OfFamily.Pt6315, segment_in OfFamily.Pt6315)
