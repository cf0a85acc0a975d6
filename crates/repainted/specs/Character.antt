-- What is known of a PT6302 after a painting, whatever was known before. The argument: each strobe begins with a
-- fall, so that its first byte is known to be a command; the command sets the position, and the address of the RAM
-- whose bytes follow, so that each of these looks at what is known too. So the knowledge goes as every chip goes, and
-- every chip ends painted.
use Rattle.std.specs.Prelude.{ℕ, ◌+◌, ◌*◌, ◌/◌, ◌%◌, ◌≡◌, refl, List, [], ◌∷◌, ◌++◌, map, length, ltb, eqb}
use Rattle.std.proofs.Common.{arith, ◌∙◌}
use Rattle.rules.specs.Choice.{whether_all}
use Rattle.rules.specs.Rule.{Rule, gives, look}
use Rattle.rules.specs.Change.{keep, set_bits}
use Rattle.rules.specs.Touch.{AllSettle, keep_settles, bits_settle}
use Rattle.knowing.specs.Standing.{Standing, known}
use Rattle.knowing.specs.Know.{lifted}
use Rattle.knowing.specs.Fill.{fill, filled}
use Rattle.knowing.specs.Changed.{set_same}
use Rattle.knowing.specs.Turn.{in_turn}
use Rattle.whole.specs.Sentence.{IsKnown}
use Rattle.terms.specs.declared.Event.{Event}
use Rattle.terms.specs.declared.Event.TheVariants.{ByteIn}
use Rattle.terms.specs.Event.{strobe}
use Rattle.character.specs.Fact.{Fact, same?, range, dcram, cgram, adram, dcram_at, cgram_at, adram_at, column, position}
use Rattle.character.specs.declared.Lights.{Lights}
use Rattle.character.specs.declared.Lights.TheVariants.{Normal, Off, On}
use Rattle.character.specs.Value.{lit}
use Rattle.character.specs.Command.{command_of, Defined}
use Rattle.character.specs.Move.{Forms, sets, spells, commanded, drawn, byte_in, move}
use Rattle.character.specs.Laws.{every}
use Rattle.character.specs.Touch.{settled}
use Rattle.painting.specs.declared.CharacterPicture.{CharacterPicture}
use Rattle.painting.specs.Character.{InRanges, painting, painted}
use Rattle.painting.specs.CharacterLeads.{paints}
use Rattle.repainted.specs.Repainted.{character_repainted as repainted}
use Rattle.repainted.specs.Follows.{set_settles, filled_where, filled_bits, Comes, comes, comes_by, known_at_end, one_end}
use Rattle.repainted.specs.Strobe.{Bus, Always, no_more, begun, single, row}

abbrev Knowledge : Type 0
Knowledge = Fact → Standing

abbrev bus : Bus Fact
bus = record { same? = same?; range = range; move = move; position = position; byte_in = byte_in; falls = refl; bytes = λ b. refl; rises = refl }

abbrev Into : Rule Fact Fact → Knowledge → (Knowledge → Type 0) → Type 0
Into rule k I = Comes same? range rule k I

-- A strobe that sets one setting.
set : {es : List Event} (b : ℕ) → Defined (command_of b) → Always bus es → Always bus (strobe (b ∷ []) ++ es)
set b h rest = single bus (λ _. Unit) b (commanded (command_of b)) refl (λ f. settled (ByteIn b) h f 1) (λ k _. tt) rest

-- A strobe that goes over a RAM, at the position q.
over : {es : List Event} (q : ℕ) (I : Knowledge → Type 0) (b : ℕ) (bs : List ℕ) → Defined (command_of b) → ((k : Knowledge) → I k → k position ≡ known q)
    → ((k : Knowledge) → I (begun bus (commanded (command_of b)) k)) → ((v : ℕ) (k : Knowledge) → I k → Into (byte_in v q) k I) → Always bus es → Always bus (strobe (b ∷ bs) ++ es)
over q I b bs h there begins each rest =
    row bus (λ _. Unit) I b bs (commanded (command_of b)) refl (λ f. settled (ByteIn b) h f 1) (λ k _. begins k)
    (λ v k i. comes_by same? range position (byte_in v) k I q (there k i) (each v k i)) (λ k _. tt) rest

kept : AllSettle same? keep
kept = keep_settles same?

-- DCRAM and ADRAM go round; their cells have w bits. The position is known to be theirs, and their address is known.
abbrev Round : Fact → ℕ → Knowledge → Type 0
Round to q k = (k position ≡ known q) × IsKnown (k to)

abbrev round : (ℕ → ℕ → Fact) → ℕ → Fact → ℕ → ℕ → Rule Fact Fact
round ram w to v a = gives (sets to ((a % 16 + 1) % 16) (spells (ram (a % 16)) w v keep))

round_byte : (ram : ℕ → ℕ → Fact) (w : ℕ) (to : Fact) (q v : ℕ) (k : Knowledge) → ((x i : ℕ) → lifted k (sets to x (spells (ram i) w v keep) position) ≡ k position) → Round to q k
    → Into (look to (round ram w to v)) k (Round to q)
round_byte ram w to q v k e (p, (a, h)) =
    let cells : Forms = spells (ram (a % 16)) w v keep in
    comes_by same? range to (round ram w to v) k (Round to q) a h
    (comes same? range (sets to ((a % 16 + 1) % 16) cells) k (Round to q) (set_settles same? to _ cells (bits_settle same? (ram (a % 16)) w v keep kept))
    (e _ (a % 16) ∙ p, (_, set_same same? k to _ cells)))

-- CGRAM has a column beside its address.
abbrev Drawing : Knowledge → Type 0
Drawing k = (k position ≡ known 3) × IsKnown (k cgram_at) × IsKnown (k column)

drawn_byte : (v a i : ℕ) (k : Knowledge) → Drawing k → Into (drawn v a i) k Drawing
unfolding set_bits
drawn_byte v a i k (p, at, at_column) =
    let cells : Forms = spells (cgram (a % 8 * 5 + i % 5)) 7 v keep in
    let h = bits_settle same? (cgram (a % 8 * 5 + i % 5)) 7 v keep kept in
    whether_all (λ (r : Rule Fact Fact). Into r k Drawing) (eqb (i % 5) 4) _ _
    (λ _. comes same? range (sets cgram_at ((a % 8 + 1) % 8) (sets column 0 cells)) k Drawing
    (set_settles same? cgram_at _ (sets column 0 cells) (set_settles same? column 0 cells h)) (p, (_, refl), (_, refl)))
    (λ _. comes same? range (sets column (i % 5 + 1) cells) k Drawing (set_settles same? column _ cells h) (p, at, (_, refl)))

column_byte : (v : ℕ) (k : Knowledge) → Drawing k → Into (byte_in v 3) k Drawing
column_byte v k w =
    comes_by same? range cgram_at (λ a. look column (drawn v a)) k Drawing w.1.0 w.1.1
    (comes_by same? range column (drawn v w.1.0) k Drawing w.2.0 w.2.1 (drawn_byte v w.1.0 w.2.0 k w))

lights_defined : (l : Lights) → Defined (command_of (0x70 + lit l))
lights_defined Normal = tt
lights_defined Off = tt
lights_defined On = tt

-- The seven strobes, from whatever is known.
seven : (p : CharacterPicture) → InRanges p → Always bus (painting p)
unfolding set_bits
seven p fits =
    over 2 (Round dcram_at 2) 0x10 p.dcram tt (λ k w. w.0) (λ k. (refl, (_, refl))) (λ v k w. round_byte dcram 8 dcram_at 2 v k (λ x i. refl) w)
    (over 3 Drawing 0x20 p.cgram tt (λ k w. w.0) (λ k. (refl, (_, refl), (_, refl))) column_byte
    (over 4 (Round adram_at 4) 0x30 p.adram tt (λ k w. w.0) (λ k. (refl, (_, refl))) (λ v k w. round_byte adram 2 adram_at 4 v k (λ x i. refl) w)
    (set (0x40 + p.port) (let e : (0x40 + p.port) / 16 ≡ 4 = omega (arith, fits.port_in) in rw e tt)
    (set (0x50 + p.duty) (let e : (0x50 + p.duty) / 16 ≡ 5 = omega (arith, fits.duty_in) in rw e tt)
    (set (0x60 + p.digits) (let e : (0x60 + p.digits) / 16 ≡ 6 = omega (arith, fits.digits_in) in rw e tt)
    (set (0x70 + lit p.lights) (lights_defined p.lights) (no_more bus)))))))

-- A chip that has d wherever nothing is known is painted as the knowledge is.
painted_filled : (p : CharacterPicture) (d : ℕ) (k : Knowledge) (f : Fact) → painted p (filled d k) f ≡ fill d (repainted p k f)
painted_filled p d k =
    every _ (λ i j. filled_bits d (ltb i 16) (ltb j 8) _ _) (λ i j. filled_bits d (ltb i 40) (ltb j 7) _ _) (λ i j. filled_bits d (ltb i 16) (ltb j 2) _ _)
    refl refl refl refl (λ j. filled_where d (ltb j 2) _ _) refl refl refl refl

module _ (p : CharacterPicture) (fits : InRanges p) (d16 : length p.dcram ≡ 16) (g40 : length p.cgram ≡ 40) (a16 : length p.adram ≡ 16) (k : Fact → Standing) where
  -- All that is known after the painting, whatever was known before.
  pub character_repainted_lem : (f : Fact) → in_turn same? range (map move (painting p)) k f ≡ repainted p k f
  character_repainted_lem =
      known_at_end same? range (map move (painting p)) k (repainted p k) ((seven p fits).from k tt)
      (λ d x h f. one_end same? range (map move (painting p)) (filled d k) x (painted p (filled d k)) h (paints p fits d16 g40 a16 (filled d k)) f
      ∙ painted_filled p d k f)
