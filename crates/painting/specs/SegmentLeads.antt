-- From every chip of a part, whatever its state, the painting leads to the painted chip. The argument: each strobe
-- begins with a fall, so its first byte is read as a command, whatever stood before; the walk over the cells is one
-- induction, from cell 0 to the last; what a later strobe does not set, it leaves alone.
use Rattle.std.specs.Prelude.{ℕ, suc, ◌+◌, ◌*◌, ◌/◌, ◌%◌, ◌<◌, ◌≤◌, min, ◌≡◌, Bool, true, false, get_or, take, ltb, eqb}
use Rattle.std.proofs.Common.{arith, add-one, ap, ◌∙◌, true≢false, get_or-take, eqb-true, lt-ltb, le-ltb}
use Rattle.std.proofs.Math.Path.{refl, sym, subst⁻¹}
use mathlib.Core.List.{List, [], ◌∷◌, ◌++◌, map, map-map}
use Rattle.std.proofs.Math.ListN.{length}
use Rattle.std.proofs.Math.Seq.{length-take-le}
use Rattle.rules.specs.Choice.{whether}
use Rattle.rules.specs.Rule.{Rule, gives, becomes, run}
use Rattle.rules.specs.Change.{keep}
use Rattle.rules.specs.Laws.{says_by_value}
use Rattle.rules.specs.Turn.{Surely, Leads, leads_append, surely_to, put, put_bits, bits_put, change_put, change_bits}
use Rattle.rules.specs.Digit.{digit}
use Rattle.rules.specs.Walk.{Walked, Next, Row, walk_row, row_ends}
use Rattle.terms.specs.declared.Event.{Event}
use Rattle.terms.specs.declared.Event.TheVariants.{Falls, ByteIn, Rises}
use Rattle.terms.specs.Event.{strobe}
use Rattle.segment.specs.declared.Family.{Family}
use Rattle.segment.specs.declared.Family.TheVariants.{Pt6312, Pt6315}
use Rattle.segment.specs.declared.Sizes.{Sizes}
use Rattle.segment.specs.declared.Pointer.TheVariants.{At}
use Rattle.segment.specs.declared.Data.TheVariants.{WriteDisplay, WriteLed}
use Rattle.segment.specs.declared.Stepping.TheVariants.{Increment}
use Rattle.segment.specs.declared.Display.{Display}
use Rattle.segment.specs.declared.Display.TheVariants.{Off, On}
use Rattle.segment.specs.declared.Position.TheVariants.{Ignoring}
use Rattle.segment.specs.declared.command.Command.{Command}
use Rattle.segment.specs.declared.command.Command.TheVariants.{Mode, Setting, Control, Start}
use Rattle.segment.specs.Family.{sizes}
use Rattle.segment.specs.Fact.{Fact, same?, cell, address, data_mode, stepping, mode, dimming, display, led, key, switches, read_count, position}
use Rattle.segment.specs.Value.{pointer, shows}
use Rattle.segment.specs.Command.{command_of}
use Rattle.segment.specs.Move.{sets, stores, then, to_mode, commanded, after, stored_at, stored, written, byte_in, move}
use Rattle.segment.specs.Laws.{every, cells_apart, leds_apart}
use Rattle.painting.specs.declared.SegmentPicture.{SegmentPicture}
use Rattle.painting.specs.Segment.{InRanges, control, painting, painted}

abbrev pub Chip : Type 0
Chip = Fact → ℕ

abbrev pub put' : Fact → ℕ → Chip → Chip
put' g v c = put same? g v c

-- What a part's sizes must be for the painting's bytes to be read as they are meant.
pub record Paintable (s : Sizes) : Type 0 where
  pub mode_read : (m : ℕ) → m < suc s.top → command_of s m ≡ Mode m
  pub start_read : (i : ℕ) → i < s.cells → command_of s (0xC0 + i) ≡ Start (At (record { 0 = i }))
  pub some : 0 < s.cells
  pub room : s.cells ≤ 36

pub paintable : (q : Family) → Paintable (sizes q)
unfolding sizes
paintable Pt6312 = record { mode_read = small; start_read = starts; some = omega arith; room = omega arith }
  where
    small : (m : ℕ) → m < 8 → command_of (sizes Pt6312) m ≡ Mode m
    small m h =
        let top : m / 64 ≡ 0 = omega arith in
        let low : min (m % 8) 7 ≡ m = omega arith in
        rw (top, low)

    starts : (i : ℕ) → i < 22 → command_of (sizes Pt6312) (0xC0 + i) ≡ Start (At (record { 0 = i }))
    starts i h =
        let top : (0xC0 + i) / 64 ≡ 3 = omega arith in
        let low : (0xC0 + i) % 32 ≡ i = omega arith in
        rw (top, low, lt-ltb i 22 h)
paintable Pt6315 = record { mode_read = small; start_read = starts; some = omega arith; room = omega arith }
  where
    small : (m : ℕ) → m < 9 → command_of (sizes Pt6315) m ≡ Mode m
    small m h =
        let top : m / 64 ≡ 0 = omega arith in
        let low : min (m % 16) 8 ≡ m = omega arith in
        rw (top, low)

    starts : (i : ℕ) → i < 36 → command_of (sizes Pt6315) (0xC0 + i) ≡ Start (At (record { 0 = i }))
    starts i h =
        let top : (0xC0 + i) / 64 ≡ 3 = omega arith in
        let low : (0xC0 + i) % 64 ≡ i = omega arith in
        rw (top, low, lt-ltb i 36 h)

control_read : (s : Sizes) (o : Display) (d : ℕ) → d < 8 → command_of s (0x80 + shows o * 8 + d) ≡ Control d o
control_read s Off d h =
    let top : (128 + d) / 64 ≡ 2 = omega arith in
    let low : (128 + d) % 8 ≡ d = omega arith in
    let bit : (128 + d) / 8 ≡ 16 = omega arith in
    rw (top, low, bit)
control_read s On d h =
    let top : (136 + d) / 64 ≡ 2 = omega arith in
    let low : (136 + d) % 8 ≡ d = omega arith in
    let bit : (136 + d) / 8 ≡ 17 = omega arith in
    rw (top, low, bit)

module _ (s : Sizes) where
  -- The strobe falls, whatever stood before; at the end it rises.
  pub falls : (c : Chip) (f : Fact) → run (move s Falls) c f ≡ becomes (put' position 1 c f)
  falls c f = change_put same? c c position 1 keep f refl

  pub rises : (c : Chip) (f : Fact) → run (move s Rises) c f ≡ becomes (put' position 0 c f)
  rises c f = change_put same? c c position 0 keep f refl

  -- A first byte that is read as the command k.
  pub first : (b : ℕ) (k : Command) (c y : Chip) → command_of s b ≡ k → ((f : Fact) → run (commanded k) (put' position 1 c) f ≡ becomes (y f))
      → (f : Fact) → run (move s (ByteIn b)) (put' position 1 c) f ≡ becomes (y f)
  first b k c y e h f = subst⁻¹ (λ (m : Command). run (commanded m) (put' position 1 c) f ≡ becomes (y f)) e (h f)

  -- A strobe with one byte, that is read as the command k.
  single : (b : ℕ) (k : Command) (c y : Chip) → command_of s b ≡ k → ((f : Fact) → run (commanded k) (put' position 1 c) f ≡ becomes (y f))
      → Leads (move s) (strobe (b ∷ [])) c (put' position 0 y)
  single b k c y e h = (put' position 1 c, falls c, (y, first b k c y e h, (put' position 0 y, rises y, λ f. refl)))

  -- Mode: whichever mode stood there, it is now m; the display may have gone off.
  abbrev in_mode : ℕ → Bool → Chip → Chip
  in_mode m t c = put' mode m (put' display (whether t (c display) 0) (put' position 3 c))

  mode_moves : (m : ℕ) (c : Chip) (t : Bool) → eqb (c mode) m ≡ t → (f : Fact) → run (to_mode m (c mode)) c f ≡ becomes (in_mode m t c f)
  mode_moves m c true e =
      subst⁻¹ (λ (t : Bool). (f : Fact) → run (whether t (gives (then Ignoring)) (gives (sets mode m (sets display 0 (then Ignoring))))) c f ≡ becomes (in_mode m true c f)) e
      (every _ (λ i k. refl) refl refl refl (ap becomes (eqb-true (c mode) m e)) refl refl (λ k. refl) (λ i. refl) refl refl refl)
  mode_moves m c false e =
      subst⁻¹ (λ (t : Bool). (f : Fact) → run (whether t (gives (then Ignoring)) (gives (sets mode m (sets display 0 (then Ignoring))))) c f ≡ becomes (in_mode m false c f)) e
      (every _ (λ i k. refl) refl refl refl refl refl refl (λ k. refl) (λ i. refl) refl refl refl)

  -- A data setting, the start at a cell, and the control byte.
  abbrev pub in_setting : ℕ → Chip → Chip
  in_setting d c = put' data_mode d (put' stepping 0 (put' read_count 0 (put' position 2 c)))

  pub display_set : (c : Chip) (f : Fact) → run (commanded (Setting WriteDisplay Increment)) c f ≡ becomes (in_setting 0 c f)
  display_set c = every _ (λ i k. refl) refl refl refl refl refl refl (λ k. refl) (λ i. refl) refl refl refl

  led_set : (c : Chip) (f : Fact) → run (commanded (Setting WriteLed Increment)) c f ≡ becomes (in_setting 1 c f)
  led_set c = every _ (λ i k. refl) refl refl refl refl refl refl (λ k. refl) (λ i. refl) refl refl refl

  abbrev pub at_start : ℕ → Chip → Chip
  at_start i c = put' address (suc i) (put' position 2 c)

  pub started : (i : ℕ) (c : Chip) (f : Fact) → run (commanded (Start (At (record { 0 = i })))) c f ≡ becomes (at_start i c f)
  started i c = every _ (λ i k. refl) refl refl refl refl refl refl (λ k. refl) (λ i. refl) refl refl refl

  abbrev under_control : ℕ → Display → Chip → Chip
  under_control d o c = put' dimming d (put' display (shows o) (put' position 3 c))

  controlled : (d : ℕ) (o : Display) (c : Chip) (f : Fact) → run (commanded (Control d o)) c f ≡ becomes (under_control d o c f)
  controlled d o c = every _ (λ i k. refl) refl refl refl refl refl refl (λ k. refl) (λ i. refl) refl refl refl

-- The facts that the walk over the cells changes.
abbrev walked : Fact → Bool
walked (cell i k) = true
walked address = true
walked data_mode = false
walked stepping = false
walked mode = false
walked dimming = false
walked display = false
walked (led k) = false
walked (key i) = false
walked switches = false
walked read_count = false
walked position = false

module _ (s : Sizes) where
  -- The address of cell i, or of cell 0 behind the last.
  abbrev to_cell : ℕ → ℕ
  to_cell i = pointer (At (record { 0 = whether (ltb i s.cells) i 0 }))

  abbrev count_to : ℕ → Chip → Chip
  count_to i c = put' address (to_cell i) c

  abbrev At_cell : ℕ → Chip → Type 0
  At_cell i c = c address ≡ to_cell i

  -- A byte is stored at cell i, bit by bit, and the address steps on.
  pub cell_moves : (i b : ℕ) (c : Chip) → i < s.cells → c position ≡ 2 → c data_mode ≡ 0 → c stepping ≡ 0 → c address ≡ suc i
      → (f : Fact) → run (move s (ByteIn b)) c f ≡ becomes (put' address (pointer (after s i)) (put_bits same? (cell i) 8 b c) f)
  cell_moves i b c h q d n a f =
      says_by_value (byte_in s b) c f _ (c position) 2 q
      (says_by_value (written s b) c f _ (c data_mode) 0 d
      (says_by_value (stored s b) c f _ (c address) (suc i) a
      (rw (lt-ltb i s.cells h)
      (says_by_value (stored_at s b i) c f _ (c stepping) 0 n
      (change_put same? c (put_bits same? (cell i) 8 b c) address (pointer (after s i)) (stores i b keep) f
      (change_bits same? (cell i) c c 8 b keep f refl))))))

  -- The cells are a row, where the chip is open, writes the display and increments.
  cell_row : (base : Chip) → base position ≡ 2 → base data_mode ≡ 0 → base stepping ≡ 0
      → Row same? cell (λ b. move s (ByteIn b)) 8 s.cells walked count_to At_cell base
  cell_row base q d n = record {
    apart = cells_apart;
    touches = λ i k. refl;
    counted = λ k c. refl;
    spares = λ k c. every _ (λ j m e. refl) (λ e. absurd (true≢false e)) (λ e. refl) (λ e. refl) (λ e. refl) (λ e. refl) (λ e. refl) (λ m e. refl) (λ j e. refl) (λ e. refl) (λ e. refl) (λ e. refl);
    spares_row = λ k c j m. refl;
    stores = λ i b c h p f.
        let valid : to_cell i ≡ suc i = rw (lt-ltb i s.cells h) refl in
        rw (← add-one i) (cell_moves i b c h (p.rest position refl ∙ q) (p.rest data_mode refl ∙ d) (p.rest stepping refl ∙ n) (p.counts ∙ valid) f);
  }

module _ (s : Sizes) (ok : Paintable s) where
  -- A whole strobe of cells, from a chip that is set to write the display and increment.
  over_cells : (bs : List ℕ) (c : Chip) → length bs ≤ s.cells → c data_mode ≡ 0 → c stepping ≡ 0
      → Walked cell (λ b. move s (ByteIn b)) 8 (Next walked (At_cell s) (at_start s 0 (put' position 1 c))) 0 bs (at_start s 0 (put' position 1 c))
  over_cells bs c h d i =
      walk_row same? cell (λ b. move s (ByteIn b)) 8 s.cells walked (count_to s) (At_cell s) (at_start s 0 (put' position 1 c))
      (cell_row s (at_start s 0 (put' position 1 c)) refl d i) bs h (rw (lt-ltb 0 s.cells ok.some) refl)

  cells_lead : (bs : List ℕ) (c : Chip) (h : length bs ≤ s.cells) (d : c data_mode ≡ 0) (i : c stepping ≡ 0)
      → Leads (move s) (strobe (0xC0 ∷ bs)) c (put' position 0 (over_cells bs c h d i).chip)
  cells_lead bs c h d i =
      let w = over_cells bs c h d i in
      let base = at_start s 0 (put' position 1 c) in
      let bytes : Leads (move s) (map ByteIn bs) base w.chip =
      subst⁻¹ (λ (rs : List (Rule Fact Fact)). Surely rs base w.chip) (map-map (move s) ByteIn bs) w.moves in (
        put' position 1 c,
        falls s c,
        (
          base,
          first s 0xC0 (Start (At (record { 0 = 0 }))) c base (ok.start_read 0 ok.some) (started s 0 (put' position 1 c)),
          leads_append (move s) (map ByteIn bs) (Rises ∷ []) base w.chip (put' position 0 w.chip) bytes
              (put' position 0 w.chip, rises s w.chip, λ f. refl),
        ),
      )

  abbrev with_led : ℕ → Chip → Chip
  with_led v c = put_bits same? led 4 v (in_setting s 1 (put' position 1 c))

  led_leads : (v : ℕ) (c : Chip) → Leads (move s) (strobe (0x41 ∷ v ∷ [])) c (put' position 0 (with_led v c))
  led_leads v c =
      let y = in_setting s 1 (put' position 1 c) in (
        put' position 1 c,
        falls s c,
        (
          y,
          first s 0x41 (Setting WriteLed Increment) c y refl (led_set s (put' position 1 c)),
          (
            with_led v c,
            (λ f. change_bits same? led y y 4 v keep f refl),
            (put' position 0 (with_led v c), rises s (with_led v c), λ f. refl),
          ),
        ),
      )

module _ (s : Sizes) (ok : Paintable s) (p : SegmentPicture) (fits : InRanges s p) (whole : length p.cells ≡ 36) (c : Chip) where
  -- The chip after each of the five strobes.
  same_mode : Bool
  same_mode = eqb (c mode) p.mode

  bytes : List ℕ
  bytes = take s.cells p.cells

  all_cells : length bytes ≡ s.cells
  unfolding bytes
  all_cells = length-take-le s.cells p.cells (omega (arith, ok.room))

  abbrev c₁ : Chip
  c₁ = put' position 0 (in_mode s p.mode same_mode (put' position 1 c))

  abbrev c₂ : Chip
  c₂ = put' position 0 (in_setting s 0 (put' position 1 c₁))

  w : Walked cell (λ b. move s (ByteIn b)) 8 (Next walked (At_cell s) (at_start s 0 (put' position 1 c₂))) 0 bytes (at_start s 0 (put' position 1 c₂))
  w = over_cells s ok bytes c₂ (omega (arith, all_cells)) refl refl

  abbrev c₃ : Chip
  c₃ = put' position 0 w.chip

  abbrev c₄ : Chip
  c₄ = put' position 0 (with_led s ok p.led c₃)

  abbrev c₅ : Chip
  c₅ = put' position 0 (under_control s p.dimming p.display (put' position 1 c₄))

  leads_five : Leads (move s) (painting s p) c c₅
  unfolding same_mode bytes w
  leads_five =
      let fifth : List Event = strobe (control p ∷ []) in
      let fourth : List Event = strobe (0x41 ∷ p.led ∷ []) ++ fifth in
      let third : List Event = strobe (0xC0 ∷ bytes) ++ fourth in
      let second : List Event = strobe (0x40 ∷ []) ++ third in
      leads_append (move s) (strobe (p.mode ∷ [])) second c c₁ c₅
      (single s p.mode (Mode p.mode) c (in_mode s p.mode same_mode (put' position 1 c)) (ok.mode_read p.mode fits.mode_in)
      (mode_moves s p.mode (put' position 1 c) same_mode refl))
      (leads_append (move s) (strobe (0x40 ∷ [])) third c₁ c₂ c₅
      (single s 0x40 (Setting WriteDisplay Increment) c₁ (in_setting s 0 (put' position 1 c₁)) refl (display_set s (put' position 1 c₁)))
      (leads_append (move s) (strobe (0xC0 ∷ bytes)) fourth c₂ c₃ c₅
      (cells_lead s ok bytes c₂ (omega (arith, all_cells)) refl refl)
      (leads_append (move s) (strobe (0x41 ∷ p.led ∷ [])) fifth c₃ c₄ c₅
      (led_leads s ok p.led c₃)
      (single s (control p) (Control p.dimming p.display) c₄ (under_control s p.dimming p.display (put' position 1 c₄))
      (control_read s p.display p.dimming fits.dimming_in) (controlled s p.dimming p.display (put' position 1 c₄))))))

  cell_ends : (i k : ℕ) → painted s p c (cell i k) ≡ w.chip (cell i k)
  unfolding bytes
  cell_ends i k =
      row_ends cell _ 8 _ bytes _ w s.cells (get_or p.cells i 0) (c (cell i k)) i k all_cells refl
      (get_or-take s.cells p.cells i 0) (ltb i s.cells) refl

  led_ends : (k : ℕ) → painted s p c (led k) ≡ c₅ (led k)
  led_ends k = sym (bits_put same? led leds_apart 4 p.led _ k ∙ ap (λ (d : ℕ). whether (ltb k 4) (digit k p.led) d) (w.next.rest (led k) refl))

  address_ends : pointer (At (record { 0 = 0 })) ≡ w.chip address
  unfolding bytes
  address_ends =
      let n : 0 + length bytes ≡ s.cells = omega (arith, all_cells) in
      let e : w.chip address ≡ to_cell s s.cells = rw n at w.next.counts in
      sym (e ∙ rw (le-ltb s.cells s.cells (omega arith)) refl)

  ends : (f : Fact) → painted s p c f ≡ c₅ f
  unfolding put_bits
  ends =
      every _ cell_ends address_ends refl refl (sym (w.next.rest mode refl)) refl refl
      led_ends
      (λ i. sym (w.next.rest (key i) refl)) (sym (w.next.rest switches refl)) refl refl

-- The painting leads every chip to the painted one.
pub paints : (q : Family) (p : SegmentPicture) → InRanges (sizes q) p → length p.cells ≡ 36 → (c : Chip)
    → Leads (move (sizes q)) (painting (sizes q) p) c (painted (sizes q) p c)
paints q p fits whole c =
    surely_to (map (move (sizes q)) (painting (sizes q) p)) c _ _
    (leads_five (sizes q) (paintable q) p fits whole c) (ends (sizes q) (paintable q) p fits whole c)
