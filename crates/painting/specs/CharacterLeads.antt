-- From every PT6302, whatever its state, the painting leads to the painted chip. The argument: each strobe begins
-- with a fall, so its first byte is read as a command, whatever stood before; each RAM is a row that is walked from
-- its first cell to its last; what a later strobe does not set, it leaves alone.
use Rattle.std.specs.Prelude.{ℕ, suc, ◌+◌, ◌*◌, ◌/◌, ◌%◌, ◌<◌, ◌≡◌, Bool, true, false, List, [], ◌∷◌, ◌++◌, map, length, get_or, ltb, eqb}
use Rattle.std.proofs.Common.{arith, add-one, sym, ap, ◌∙◌, true≢false, eqb-true}
use Rattle.std.proofs.Math.Path.{refl, subst⁻¹}
use Rattle.std.proofs.lemmas.Simd.{map-map}
use Rattle.std.proofs.lemmas.Bool.{eqb-false}
use Rattle.rules.specs.Rule.{Rule, gives, look, becomes, run}
use Rattle.rules.specs.Change.{keep}
use Rattle.rules.specs.Laws.{says_by_value}
use Rattle.rules.specs.Choice.{whether}
use Rattle.rules.specs.Digit.{digit}
use Rattle.rules.specs.Turn.{Surely, Leads, leads_append, surely_to, put, put_same, put_other, put_kept, put_bits, bits_put, change_put, change_bits}
use Rattle.rules.specs.Walk.{Walked, Next, Row, walk_row, row_ends}
use Rattle.terms.specs.declared.Event.{Event}
use Rattle.terms.specs.declared.Event.TheVariants.{Falls, ByteIn, Rises}
use Rattle.terms.specs.Event.{strobe}
use Rattle.character.specs.declared.Lights.{Lights}
use Rattle.character.specs.declared.Lights.TheVariants.{Normal, Off, On}
use Rattle.character.specs.declared.command.Command.{Command}
use Rattle.character.specs.declared.command.Command.TheVariants.{Dcram, Cgram, Adram, Port, Duty, Digits, Light}
use Rattle.character.specs.Fact.{Fact, same?, dcram, cgram, adram, dcram_at, cgram_at, adram_at, column, port, duty, digits, lights, position}
use Rattle.character.specs.Value.{lit}
use Rattle.character.specs.Command.{command_of}
use Rattle.character.specs.Move.{sets, spells, commanded, drawn, byte_in, move}
use Rattle.character.specs.Laws.{every, dcram_apart, cgram_apart, adram_apart, ports_apart}
use Rattle.painting.specs.declared.CharacterPicture.{CharacterPicture}
use Rattle.painting.specs.Character.{InRanges, painting, painted}

abbrev Chip : Type 0
Chip = Fact → ℕ

abbrev put' : Fact → ℕ → Chip → Chip
put' g v c = put same? g v c

abbrev put_bits' : (ℕ → Fact) → ℕ → ℕ → Chip → Chip
put_bits' at w b c = put_bits same? at w b c

-- The painting's command bytes are read as they are meant.
port_read : (v : ℕ) → v < 4 → command_of (0x40 + v) ≡ Port v
port_read v h =
    let n : (64 + v) / 16 ≡ 4 = omega arith in
    let m : (64 + v) % 4 ≡ v = omega arith in
    rw (n, m)

duty_read : (v : ℕ) → v < 8 → command_of (0x50 + v) ≡ Duty v
duty_read v h =
    let n : (80 + v) / 16 ≡ 5 = omega arith in
    let m : (80 + v) % 8 ≡ v = omega arith in
    rw (n, m)

digits_read : (v : ℕ) → v < 8 → command_of (0x60 + v) ≡ Digits v
digits_read v h =
    let n : (96 + v) / 16 ≡ 6 = omega arith in
    let m : (96 + v) % 8 ≡ v = omega arith in
    rw (n, m)

lights_read : (l : Lights) → command_of (0x70 + lit l) ≡ Light l
lights_read Normal = refl
lights_read Off = refl
lights_read On = refl

-- The strobe falls, whatever stood before; at the end it rises.
falls : (c : Chip) (f : Fact) → run (move Falls) c f ≡ becomes (put' position 1 c f)
falls c f = change_put same? c c position 1 keep f refl

rises : (c : Chip) (f : Fact) → run (move Rises) c f ≡ becomes (put' position 0 c f)
rises c f = change_put same? c c position 0 keep f refl

-- A first byte that is read as the command k.
first : (b : ℕ) (k : Command) (c y : Chip) → command_of b ≡ k → ((f : Fact) → run (gives (commanded k)) (put' position 1 c) f ≡ becomes (y f))
    → (f : Fact) → run (move (ByteIn b)) (put' position 1 c) f ≡ becomes (y f)
first b k c y e h f = subst⁻¹ (λ (m : Command). run (gives (commanded m)) (put' position 1 c) f ≡ becomes (y f)) e (h f)

-- A strobe with one byte, that is read as the command k.
single : (b : ℕ) (k : Command) (c y : Chip) → command_of b ≡ k → ((f : Fact) → run (gives (commanded k)) (put' position 1 c) f ≡ becomes (y f))
    → Leads move (strobe (b ∷ [])) c (put' position 0 y)
single b k c y e h = (put' position 1 c, falls c, (y, first b k c y e h, (put' position 0 y, rises y, λ f. refl)))

-- A command that stores one setting, or the bits of the port, then ignores.
abbrev with_setting : Fact → ℕ → Chip → Chip
with_setting g v c = put' g v (put' position 5 (put' position 1 c))

set_moves : (g : Fact) (v : ℕ) (c : Chip) (f : Fact) → run (gives (sets g v (sets position 5 keep))) (put' position 1 c) f ≡ becomes (with_setting g v c f)
set_moves g v c f =
    change_put same? (put' position 1 c) (put' position 5 (put' position 1 c)) g v (sets position 5 keep) f
    (change_put same? (put' position 1 c) (put' position 1 c) position 5 keep f refl)

abbrev with_port : ℕ → Chip → Chip
with_port v c = put_bits' port 2 v (put' position 5 (put' position 1 c))

port_moves : (v : ℕ) (c : Chip) (f : Fact) → run (gives (commanded (Port v))) (put' position 1 c) f ≡ becomes (with_port v c f)
port_moves v c f =
    change_bits same? port (put' position 1 c) (put' position 5 (put' position 1 c)) 2 v (sets position 5 keep) f
    (change_put same? (put' position 1 c) (put' position 1 c) position 5 keep f refl)

-- A strobe that walks over a row: the command leads to `base`, from which the bytes lead on.
over : (ram : ℕ → ℕ → Fact) (w : ℕ) (N : ℕ → Chip → Type 0) (b : ℕ) (k : Command) (bs : List ℕ) (c base : Chip) → command_of b ≡ k
    → ((f : Fact) → run (gives (commanded k)) (put' position 1 c) f ≡ becomes (base f))
    → (l : Walked ram (λ v. move (ByteIn v)) w N 0 bs base)
    → Leads move (strobe (b ∷ bs)) c (put' position 0 l.chip)
over ram w N b k bs c base e h l =
    let bytes : Leads move (map ByteIn bs) base l.chip =
    subst⁻¹ (λ (rs : List (Rule Fact Fact)). Surely rs base l.chip) (map-map move ByteIn bs) l.moves in (
      put' position 1 c,
      falls c,
      (
        base,
        first b k c base e h,
        leads_append move (map ByteIn bs) (Rises ∷ []) base l.chip (put' position 0 l.chip) bytes (put' position 0 l.chip, rises l.chip, λ f. refl),
      ),
    )

-- DCRAM and ADRAM are rows of sixteen, whose address goes round.
abbrev round : (ℕ → ℕ → Fact) → ℕ → Fact → ℕ → ℕ → Rule Fact Fact
round ram w to b a = gives (sets to ((a % 16 + 1) % 16) (spells (ram (a % 16)) w b keep))

abbrev count_to : Fact → ℕ → Chip → Chip
count_to to i c = put' to (i % 16) c

abbrev Counts_to : Fact → ℕ → Chip → Type 0
Counts_to to i c = c to ≡ i % 16

round_moves : (ram : ℕ → ℕ → Fact) (w : ℕ) (to : Fact) (b i : ℕ) (c : Chip) → i < 16 → Counts_to to i c
    → (f : Fact) → run (look to (round ram w to b)) c f ≡ becomes (count_to to (suc i) (put_bits' (ram i) w b c) f)
round_moves ram w to b i c h a f =
    let m : i % 16 ≡ i = omega arith in
    says_by_value (round ram w to b) c f _ (c to) i (a ∙ m)
    (rw (m, ← add-one i)
    (change_put same? c (put_bits' (ram i) w b c) to ((i + 1) % 16) (spells (ram i) w b keep) f (change_bits same? (ram i) c c w b keep f refl)))

round_row : (ram : ℕ → ℕ → Fact) (w : ℕ) (to : Fact) (touched : Fact → Bool) (q : ℕ) (base : Chip)
    → ((b : ℕ) → byte_in b q ≡ look to (round ram w to b))
    → ((i k j n : ℕ) → ram i k ≡ ram j n → (i ≡ j) × (k ≡ n)) → ((i k : ℕ) → ¬ (ram i k ≡ to)) → ((i k : ℕ) → touched (ram i k) ≡ true)
    → touched to ≡ true → touched position ≡ false → base position ≡ q
    → Row same? ram (λ v. move (ByteIn v)) w 16 touched (count_to to) (Counts_to to) base
round_row ram w to touched q base reads apart other touches touches-to free e = record {
  apart = apart;
  touches = touches;
  counted = λ k c. put_same same? to (k % 16) c;
  spares = λ k c f h. put_other same? to f (k % 16) c (λ p. true≢false (sym touches-to ∙ ap touched (sym p) ∙ h));
  spares_row = λ k c j m. put_other same? to (ram j m) (k % 16) c (other j m);
  stores = λ i b c h p f. says_by_value (byte_in b) c f _ (c position) q (p.rest position free ∙ e)
      (subst⁻¹ (λ (r : Rule Fact Fact). run r c f ≡ becomes (count_to to (suc i) (put_bits' (ram i) w b c) f)) (reads b)
      (round_moves ram w to b i c h p.counts f));
}

abbrev in_dcram : Fact → Bool
in_dcram (dcram i k) = true
in_dcram (cgram i k) = false
in_dcram (adram i k) = false
in_dcram dcram_at = true
in_dcram cgram_at = false
in_dcram adram_at = false
in_dcram column = false
in_dcram (port k) = false
in_dcram duty = false
in_dcram digits = false
in_dcram lights = false
in_dcram position = false

abbrev in_adram : Fact → Bool
in_adram (dcram i k) = false
in_adram (cgram i k) = false
in_adram (adram i k) = true
in_adram dcram_at = false
in_adram cgram_at = false
in_adram adram_at = true
in_adram column = false
in_adram (port k) = false
in_adram duty = false
in_adram digits = false
in_adram lights = false
in_adram position = false

abbrev in_cgram : Fact → Bool
in_cgram (dcram i k) = false
in_cgram (cgram i k) = true
in_cgram (adram i k) = false
in_cgram dcram_at = false
in_cgram cgram_at = true
in_cgram adram_at = false
in_cgram column = true
in_cgram (port k) = false
in_cgram duty = false
in_cgram digits = false
in_cgram lights = false
in_cgram position = false

dcram_row : (base : Chip) → base position ≡ 2 → Row same? dcram (λ v. move (ByteIn v)) 8 16 in_dcram (count_to dcram_at) (Counts_to dcram_at) base
dcram_row base q = round_row dcram 8 dcram_at in_dcram 2 base (λ b. refl) dcram_apart (λ i k e. no_cell i k e) (λ i k. refl) refl refl q
  where
    no_cell : (i k : ℕ) → ¬ (dcram i k ≡ dcram_at)
    no_cell i k e =
        let z : ◌≡◌ {A = ℕ} 0 1 = cc in
        omega arith

adram_row : (base : Chip) → base position ≡ 4 → Row same? adram (λ v. move (ByteIn v)) 2 16 in_adram (count_to adram_at) (Counts_to adram_at) base
adram_row base q = round_row adram 2 adram_at in_adram 4 base (λ b. refl) adram_apart (λ i k e. no_cell i k e) (λ i k. refl) refl refl q
  where
    no_cell : (i k : ℕ) → ¬ (adram i k ≡ adram_at)
    no_cell i k e =
        let z : ◌≡◌ {A = ℕ} 0 1 = cc in
        omega arith

-- CGRAM is a row of forty: five columns a character.
abbrev column_to : ℕ → Chip → Chip
column_to i c = put' cgram_at (i / 5 % 8) (put' column (i % 5) c)

abbrev At_column : ℕ → Chip → Type 0
At_column i c = (c cgram_at ≡ i / 5 % 8) × (c column ≡ i % 5)

drawn_moves : (i b : ℕ) (c : Chip) → i < 40 → At_column i c → (t : Bool) → eqb (i % 5 % 5) 4 ≡ t
    → (f : Fact) → run (drawn b (i / 5) (i % 5)) c f ≡ becomes (column_to (suc i) (put_bits' (cgram i) 7 b c) f)
unfolding put_bits
drawn_moves i b c h a true e f =
    let k : i % 5 % 5 ≡ 4 = eqb-true (i % 5 % 5) 4 e in
    let r : i % 5 ≡ 4 = omega arith in
    let g : i / 5 < 8 = omega arith in
    let m : i / 5 % 8 ≡ i / 5 = omega arith in
    let n : i / 5 % 8 * 5 + i % 5 % 5 ≡ i = rw (m, k) (omega arith) in
    let d : suc i / 5 ≡ i / 5 + 1 = omega arith in
    let x : (i / 5 % 8 + 1) % 8 ≡ suc i / 5 % 8 = rw (m, d) refl in
    let y : suc i % 5 ≡ 0 = omega arith in
    rw (e, n, x, y)
    (change_put same? c (put' column 0 (put_bits' (cgram i) 7 b c)) cgram_at (suc i / 5 % 8) (sets column 0 (spells (cgram i) 7 b keep)) f
    (change_put same? c (put_bits' (cgram i) 7 b c) column 0 (spells (cgram i) 7 b keep) f
    (change_bits same? (cgram i) c c 7 b keep f refl)))
drawn_moves i b c h a false e f =
    let k : i % 5 % 5 ≡ 4 → ⊥ = eqb-false (i % 5 % 5) 4 e in
    let l : i % 5 % 5 ≡ i % 5 = omega arith in
    let r : i % 5 < 4 = omega arith in
    let g : i / 5 < 8 = omega arith in
    let m : i / 5 % 8 ≡ i / 5 = omega arith in
    let n : i / 5 % 8 * 5 + i % 5 % 5 ≡ i = rw (m, l) (omega arith) in
    let d : suc i / 5 ≡ i / 5 = omega arith in
    let y : i % 5 % 5 + 1 ≡ suc i % 5 = omega arith in
    rw (e, n, y)
    (change_put same? c (put_bits' (cgram i) 7 b c) column (suc i % 5) (spells (cgram i) 7 b keep) f
    (change_bits same? (cgram i) c c 7 b keep f refl)
    ∙ ap becomes (sym (put_kept same? cgram_at f (suc i / 5 % 8) (put' column (suc i % 5) (put_bits' (cgram i) 7 b c)) (a.0 ∙ rw d refl))))

column_moves : (i b : ℕ) (c : Chip) → i < 40 → c position ≡ 3 → At_column i c
    → (f : Fact) → run (move (ByteIn b)) c f ≡ becomes (column_to (suc i) (put_bits' (cgram i) 7 b c) f)
column_moves i b c h q a f =
    let m : i / 5 % 8 ≡ i / 5 = omega arith in
    says_by_value (byte_in b) c f _ (c position) 3 q
    (says_by_value (λ (v : ℕ). look column (drawn b v)) c f _ (c cgram_at) (i / 5) (a.0 ∙ m)
    (says_by_value (drawn b (i / 5)) c f _ (c column) (i % 5) a.1
    (drawn_moves i b c h a (eqb (i % 5 % 5) 4) refl f)))

cgram_row : (base : Chip) → base position ≡ 3 → Row same? cgram (λ v. move (ByteIn v)) 7 40 in_cgram column_to At_column base
cgram_row base q = record {
  apart = cgram_apart;
  touches = λ i k. refl;
  counted = λ k c. (refl, refl);
  spares = λ k c. every _ (λ j m e. refl) (λ j m e. refl) (λ j m e. refl) (λ e. refl) (λ e. absurd (true≢false e)) (λ e. refl) (λ e. absurd (true≢false e))
      (λ m e. refl) (λ e. refl) (λ e. refl) (λ e. refl) (λ e. refl);
  spares_row = λ k c j m. refl;
  stores = λ i b c h p. column_moves i b c h (p.rest position refl ∙ q) p.counts;
}

module _ (p : CharacterPicture) (fits : InRanges p) (d16 : length p.dcram ≡ 16) (g40 : length p.cgram ≡ 40) (a16 : length p.adram ≡ 16) (c : Chip) where
  -- The chip after each of the seven strobes; the first three walk over a RAM, from a chip that their command leads to.
  abbrev to_d : Chip
  to_d = put' dcram_at 0 (put' position 2 (put' position 1 c))

  d : Walked dcram (λ v. move (ByteIn v)) 8 (Next in_dcram (Counts_to dcram_at) to_d) 0 p.dcram to_d
  d = walk_row same? dcram (λ v. move (ByteIn v)) 8 16 in_dcram (count_to dcram_at) (Counts_to dcram_at) to_d (dcram_row to_d refl) p.dcram (omega arith) refl

  abbrev c₁ : Chip
  c₁ = put' position 0 d.chip

  abbrev to_g : Chip
  to_g = put' cgram_at 0 (put' column 0 (put' position 3 (put' position 1 c₁)))

  g : Walked cgram (λ v. move (ByteIn v)) 7 (Next in_cgram At_column to_g) 0 p.cgram to_g
  g = walk_row same? cgram (λ v. move (ByteIn v)) 7 40 in_cgram column_to At_column to_g (cgram_row to_g refl) p.cgram (omega arith) (refl, refl)

  abbrev c₂ : Chip
  c₂ = put' position 0 g.chip

  abbrev to_a : Chip
  to_a = put' adram_at 0 (put' position 4 (put' position 1 c₂))

  a : Walked adram (λ v. move (ByteIn v)) 2 (Next in_adram (Counts_to adram_at) to_a) 0 p.adram to_a
  a = walk_row same? adram (λ v. move (ByteIn v)) 2 16 in_adram (count_to adram_at) (Counts_to adram_at) to_a (adram_row to_a refl) p.adram (omega arith) refl

  abbrev c₃ : Chip
  c₃ = put' position 0 a.chip

  abbrev c₄ : Chip
  c₄ = put' position 0 (with_port p.port c₃)

  abbrev c₅ : Chip
  c₅ = put' position 0 (with_setting duty p.duty c₄)

  abbrev c₆ : Chip
  c₆ = put' position 0 (with_setting digits p.digits c₅)

  abbrev c₇ : Chip
  c₇ = put' position 0 (with_setting lights (lit p.lights) c₆)

  to_d_moves : (f : Fact) → run (gives (commanded (Dcram (record { 0 = 0 })))) (put' position 1 c) f ≡ becomes (to_d f)
  to_d_moves = every _ (λ i k. refl) (λ i k. refl) (λ i k. refl) refl refl refl refl (λ k. refl) refl refl refl refl

  to_g_moves : (f : Fact) → run (gives (commanded (Cgram (record { 0 = 0 })))) (put' position 1 c₁) f ≡ becomes (to_g f)
  to_g_moves = every _ (λ i k. refl) (λ i k. refl) (λ i k. refl) refl refl refl refl (λ k. refl) refl refl refl refl

  to_a_moves : (f : Fact) → run (gives (commanded (Adram (record { 0 = 0 })))) (put' position 1 c₂) f ≡ becomes (to_a f)
  to_a_moves = every _ (λ i k. refl) (λ i k. refl) (λ i k. refl) refl refl refl refl (λ k. refl) refl refl refl refl

  leads_seven : Leads move (painting p) c c₇
  leads_seven =
      let seventh : List Event = strobe ((0x70 + lit p.lights) ∷ []) in
      let sixth : List Event = strobe ((0x60 + p.digits) ∷ []) ++ seventh in
      let fifth : List Event = strobe ((0x50 + p.duty) ∷ []) ++ sixth in
      let fourth : List Event = strobe ((0x40 + p.port) ∷ []) ++ fifth in
      let third : List Event = strobe (0x30 ∷ p.adram) ++ fourth in
      let second : List Event = strobe (0x20 ∷ p.cgram) ++ third in
      leads_append move (strobe (0x10 ∷ p.dcram)) second c c₁ c₇
      (over dcram 8 _ 0x10 (Dcram (record { 0 = 0 })) p.dcram c to_d refl to_d_moves d)
      (leads_append move (strobe (0x20 ∷ p.cgram)) third c₁ c₂ c₇
      (over cgram 7 _ 0x20 (Cgram (record { 0 = 0 })) p.cgram c₁ to_g refl to_g_moves g)
      (leads_append move (strobe (0x30 ∷ p.adram)) fourth c₂ c₃ c₇
      (over adram 2 _ 0x30 (Adram (record { 0 = 0 })) p.adram c₂ to_a refl to_a_moves a)
      (leads_append move (strobe ((0x40 + p.port) ∷ [])) fifth c₃ c₄ c₇
      (single (0x40 + p.port) (Port p.port) c₃ _ (port_read p.port fits.port_in) (port_moves p.port c₃))
      (leads_append move (strobe ((0x50 + p.duty) ∷ [])) sixth c₄ c₅ c₇
      (single (0x50 + p.duty) (Duty p.duty) c₄ _ (duty_read p.duty fits.duty_in) (set_moves duty p.duty c₄))
      (leads_append move (strobe ((0x60 + p.digits) ∷ [])) seventh c₅ c₆ c₇
      (single (0x60 + p.digits) (Digits p.digits) c₅ _ (digits_read p.digits fits.digits_in) (set_moves digits p.digits c₅))
      (single (0x70 + lit p.lights) (Light p.lights) c₆ _ (lights_read p.lights) (set_moves lights (lit p.lights) c₆)))))))

  dcram_ends : (i k : ℕ) → painted p c (dcram i k) ≡ a.chip (dcram i k)
  dcram_ends i k =
      row_ends dcram _ 8 _ p.dcram _ d 16 (get_or p.dcram i 0) (c (dcram i k)) i k d16 refl (λ h. refl) (ltb i 16) refl
      ∙ sym (g.next.rest (dcram i k) refl) ∙ sym (a.next.rest (dcram i k) refl)

  cgram_ends : (i k : ℕ) → painted p c (cgram i k) ≡ a.chip (cgram i k)
  cgram_ends i k =
      row_ends cgram _ 7 _ p.cgram _ g 40 (get_or p.cgram i 0) (c (cgram i k)) i k g40 (d.next.rest (cgram i k) refl) (λ h. refl) (ltb i 40) refl
      ∙ sym (a.next.rest (cgram i k) refl)

  adram_ends : (i k : ℕ) → painted p c (adram i k) ≡ a.chip (adram i k)
  adram_ends i k =
      row_ends adram _ 2 _ p.adram _ a 16 (get_or p.adram i 0) (c (adram i k)) i k a16 (g.next.rest (adram i k) refl ∙ d.next.rest (adram i k) refl)
      (λ h. refl) (ltb i 16) refl

  port_ends : (k : ℕ) → painted p c (port k) ≡ c₇ (port k)
  port_ends k =
      sym (bits_put same? port ports_apart 2 p.port _ k
      ∙ ap (λ (v : ℕ). whether (ltb k 2) (digit k p.port) v) (a.next.rest (port k) refl ∙ g.next.rest (port k) refl ∙ d.next.rest (port k) refl))

  dcram_at_ends : 0 ≡ a.chip dcram_at
  dcram_at_ends =
      let e : d.chip dcram_at ≡ (0 + length p.dcram) % 16 = d.next.counts in
      sym (a.next.rest dcram_at refl ∙ g.next.rest dcram_at refl ∙ e ∙ rw d16 refl)

  cgram_at_ends : 0 ≡ a.chip cgram_at
  cgram_at_ends =
      let e : g.chip cgram_at ≡ (0 + length p.cgram) / 5 % 8 = g.next.counts.0 in
      sym (a.next.rest cgram_at refl ∙ e ∙ rw g40 refl)

  column_ends : 0 ≡ a.chip column
  column_ends =
      let e : g.chip column ≡ (0 + length p.cgram) % 5 = g.next.counts.1 in
      sym (a.next.rest column refl ∙ e ∙ rw g40 refl)

  adram_at_ends : 0 ≡ a.chip adram_at
  adram_at_ends =
      let e : a.chip adram_at ≡ (0 + length p.adram) % 16 = a.next.counts in
      sym (e ∙ rw a16 refl)

  ends : (f : Fact) → painted p c f ≡ c₇ f
  unfolding put_bits
  ends = every _ dcram_ends cgram_ends adram_ends dcram_at_ends cgram_at_ends adram_at_ends column_ends port_ends refl refl refl refl

-- The painting leads every chip to the painted one.
pub paints : (p : CharacterPicture) → InRanges p → length p.dcram ≡ 16 → length p.cgram ≡ 40 → length p.adram ≡ 16 → (c : Chip)
    → Leads move (painting p) c (painted p c)
paints p fits d16 g40 a16 c =
    surely_to (map move (painting p)) c _ _ (leads_seven p fits d16 g40 a16 c) (ends p fits d16 g40 a16 c)
