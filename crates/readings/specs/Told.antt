-- Laws of what is told of a field. The argument: a reading is told only where lights, digits and the five cells are
-- known, and whoever knows more knows these with the same values; and what is known to be dark stays dark.
use Rattle.std.specs.Prelude.{ℕ, ◌+◌, ◌≡◌, Bool, ◌||◌, ℤ}
use Rattle.std.proofs.Common.{arith, sym, true≢false, eq-eqb}
use Rattle.std.proofs.Math.Path.{refl}
use Rattle.std.proofs.Math.Bool.{true, false}
use Rattle.rules.specs.Choice.{whether}
use Rattle.knowing.specs.Standing.{Standing, known}
use Rattle.knowing.specs.Standing as Of
use Rattle.knowing.specs.Holds.{is_known, is_known_lem}
use Rattle.character.specs.declared.Lights.TheVariants.{Off, On}
use Rattle.character.specs.Value.{lit}
use Rattle.field.specs.declared.spelling.Five.{Five}
use Rattle.field.specs.Said.{Said, reading, dark, unknown}
use Rattle.field.specs.Field.{reaches_past, is_dark, if_known, if_all, spelled, told}

-- Two things that may be said are not the same.
not_dark : {h : ℤ} → dark ≡ reading h → ⊥
not_dark e =
    let z : ◌≡◌ {A = ℕ} 0 1 = cc in
    omega arith

not_unknown : {h : ℤ} → unknown ≡ reading h → ⊥
not_unknown e =
    let z : ◌≡◌ {A = ℕ} 0 1 = cc in
    omega arith

-- ---- a reading

-- What was told of a reading was known.
was_known : (x : Standing) (rest : ℕ → Said) (h : ℤ) → if_known x rest ≡ reading h → (v : ℕ) × (x ≡ known v) × (rest v ≡ reading h)
was_known (Of.known v) rest h e = (v, refl, e)
was_known Of.unknown rest h e = absurd (not_unknown e)

pub record Known (l d : Standing) (cell : ℕ → Standing) (start : ℕ) (h : ℤ) : Type 0 where
  pub lit : is_dark l d start ≡ false
  pub light : ℕ
  pub lights : l ≡ known light
  pub code : ℕ
  pub digits : d ≡ known code
  pub five : Five
  pub sign : cell start ≡ known five.sign
  pub tens : cell (start + 1) ≡ known five.tens
  pub units : cell (start + 2) ≡ known five.units
  pub point : cell (start + 3) ≡ known five.point
  pub half : cell (start + 4) ≡ known five.half
  pub spells : spelled five ≡ reading h

module _ (lights digits : Standing) (cell : ℕ → Standing) (start : ℕ) (h : ℤ) where
  lit_then : (t : Bool) (s : Said) → whether t dark s ≡ reading h → (t ≡ false) × (s ≡ reading h)
  lit_then true s e = absurd (not_dark e)
  lit_then false s e = (refl, e)

  -- A reading is told only where all is known,
  pub reading_known : told lights digits cell start ≡ reading h → Known lights digits cell start h
  reading_known e =
      let (lit, rest) = lit_then (is_dark lights digits start) _ e in
      let (light, l, rest1) = was_known lights _ h rest in
      let (code, d, rest2) = was_known digits _ h rest1 in
      let (sign, a, rest3) = was_known (cell start) _ h rest2 in
      let (tens, b, rest4) = was_known (cell (start + 1)) _ h rest3 in
      let (units, c, rest5) = was_known (cell (start + 2)) _ h rest4 in
      let (point, p, rest6) = was_known (cell (start + 3)) _ h rest5 in
      let (half, q, rest7) = was_known (cell (start + 4)) _ h rest6 in
      record {
        lit = lit;
        light = light;
        lights = l;
        code = code;
        digits = d;
        five = record { sign = sign; tens = tens; units = units; point = point; half = half };
        sign = a;
        tens = b;
        units = c;
        point = p;
        half = q;
        spells = rest7;
      }

  -- and is told there.
  pub known_reading : Known lights digits cell start h → told lights digits cell start ≡ reading h
  known_reading k =
      rw k.lit (rw (k.lights, k.digits, k.sign, k.tens, k.units, k.point, k.half) k.spells)

-- ---- more knowledge

-- Whoever knows more knows at least as much of a fact, with the same value.
abbrev pub AtLeast : Standing → Standing → Type 0
AtLeast x y = (v : ℕ) → x ≡ known v → y ≡ known v

or_true : (a b c d : Bool) → (a ≡ true → c ≡ true) → (b ≡ true → d ≡ true) → (a || b) ≡ true → (c || d) ≡ true
or_true true b c d p q e = rw (p refl) refl
or_true false b true d p q e = refl
or_true false b false d p q e = q e

more_known : (x y : Standing) (v : ℕ) → AtLeast x y → is_known x v ≡ true → is_known y v ≡ true
more_known x y v more e = rw (more v (is_known_lem x v e)) (eq-eqb v v refl)

more_past : (x y : Standing) (start : ℕ) → AtLeast x y → reaches_past x start ≡ true → reaches_past y start ≡ true
more_past (Of.known code) y start more e = rw (more code refl) e
more_past Of.unknown y start more e = absurd (true≢false (sym e))

-- Once all is known of the rest, more knowledge tells the same of it.
more_told : (x y : Standing) (rest other : ℕ → Said) → AtLeast x y → ((v : ℕ) → (rest v ≡ unknown → ⊥) → other v ≡ rest v)
    → (if_known x rest ≡ unknown → ⊥) → if_known y other ≡ if_known x rest
more_told (Of.known v) y rest other more same n = rw (more v refl) (same v n)
more_told Of.unknown y rest other more same n = absurd (n refl)

module _ (l l' d d' : Standing) (cell cell' : ℕ → Standing) (start : ℕ) (lights-more : AtLeast l l') (digits_more : AtLeast d d')
    (cells-more : (i : ℕ) → AtLeast (cell i) (cell' i)) where
  more_dark : is_dark l d start ≡ true → is_dark l' d' start ≡ true
  more_dark =
      or_true _ _ _ _ (more_known l l' (lit Off) lights-more)
      (or_true _ _ _ _ (more_known l l' (lit On) lights-more) (more_past d d' start digits_more))

  cells_same : (if_all cell start spelled ≡ unknown → ⊥) → if_all cell' start spelled ≡ if_all cell start spelled
  cells_same =
      more_told (cell start) (cell' start) _ _ (cells-more start)
      (λ a. more_told (cell (start + 1)) (cell' (start + 1)) _ _ (cells-more (start + 1))
      (λ b. more_told (cell (start + 2)) (cell' (start + 2)) _ _ (cells-more (start + 2))
      (λ c. more_told (cell (start + 3)) (cell' (start + 3)) _ _ (cells-more (start + 3))
      (λ p. more_told (cell (start + 4)) (cell' (start + 4)) _ _ (cells-more (start + 4)) (λ q n. refl)))))

  rest : Standing → Standing → (ℕ → Standing) → Said
  rest x y c = if_known x (λ _. if_known y (λ _. if_all c start spelled))

  -- Where it is lit and all is told of it, lights and digits are known, and so it is lit for one who knows more.
  lit_more : is_dark l d start ≡ false → (rest l d cell ≡ unknown → ⊥) → is_dark l' d' start ≡ false
  unfolding rest
  lit_more e n = go l d lights-more digits_more e n
    where
      go : (x y : Standing) → AtLeast x l' → AtLeast y d' → is_dark x y start ≡ false → (rest x y cell ≡ unknown → ⊥) → is_dark l' d' start ≡ false
      go (Of.known v) (Of.known w) p q e n = rw (p v refl, q w refl) e
      go (Of.known v) Of.unknown p q e n = absurd (n refl)
      go Of.unknown y p q e n = absurd (n refl)

  -- More knowledge never changes what is told, unless that is unknown.
  pub told_more : (told l d cell start ≡ unknown → ⊥) → told l' d' cell' start ≡ told l d cell start
  unfolding rest
  told_more n = go (is_dark l d start) refl n
    where
      go : (t : Bool) → is_dark l d start ≡ t → (whether t dark (rest l d cell) ≡ unknown → ⊥) → told l' d' cell' start ≡ whether t dark (rest l d cell)
      go true e n = rw (more_dark e) refl
      go false e n =
          rw (lit_more e n)
          (more_told l l' _ _ lights-more (λ _. more_told d d' _ _ digits_more (λ _. cells_same)) n)
