-- A column to CGRAM where the character, the column or both are unknown. Each place that they leave open may be the one: each bit that stands there has in
-- common with the column's what it had, and what stands elsewhere stays.
use Rattle.std.specs.Prelude.{ℕ, ◌+◌, ◌*◌, ◌/◌, ◌%◌, ◌<◌, ◌≡◌, refl, Bool, true, false, eqb}
use Rattle.std.proofs.Common.{arith, sym, ap, ◌∙◌, subst, eqb-true, eq-eqb, ne_eqb}
use Rattle.std.proofs.Math.Decide.{ℕ_discrete}
use Rattle.std.proofs.lemmas.Bool.{eqb-false}
use Rattle.rules.specs.Choice.{whether}
use Rattle.rules.specs.Digit.{digit}
use Rattle.rules.specs.Rule.{gives, look}
use Rattle.rules.specs.Change.{keep}
use Rattle.rules.specs.Touch.{bits_at, bits_leave}
use Rattle.knowing.specs.Standing.{Standing, known, unknown}
use Rattle.knowing.specs.Know.{lifted, learn, join, common, know}
use Rattle.knowing.specs.Join.{join_swap, join_again, common_same, common_two, common_apart}
use Rattle.knowing.specs.Look.{look_known, look_unknown}
use Rattle.knowing.specs.Changed.{set_same, set_other, learn_here, learn_other}
use Rattle.character.specs.Fact.{Fact, same?, range, cgram, cgram_at, column}
use Rattle.character.specs.Laws.{cgram_apart}
use Rattle.character.specs.Move.{Forms, sets, spells, drawn}
use Rattle.character_known.specs.Row.{unlike}

pub not_at : (i n : ℕ) → ¬ (cgram i n ≡ cgram_at)
not_at i n = unlike (cgram i n) cgram_at (λ e. omega arith)

pub not_column : (i n : ℕ) → ¬ (cgram i n ≡ column)
not_column i n = unlike (cgram i n) column (λ e. omega arith)

at_not_column : ¬ (cgram_at ≡ column)
at_not_column = unlike cgram_at column (λ e. omega arith)

column_not_at : ¬ (column ≡ cgram_at)
column_not_at = unlike column cgram_at (λ e. omega arith)

-- One place: character a, column c.
module _ (b a c : ℕ) (l : Fact → Standing) where
  abbrev stores : Forms
  stores = spells (cgram (a % 8 * 5 + c % 5)) 7 b keep

  drawn_rest : (f : Fact) → ¬ (f ≡ cgram_at) → ¬ (f ≡ column) → ((n : ℕ) → n < 7 → ¬ (f ≡ cgram (a % 8 * 5 + c % 5) n)) → know same? range (drawn b a c) l f ≡ l f
  drawn_rest f p q o = go (eqb (c % 5) 4)
    where
      stays : lifted l (stores f) ≡ l f
      stays = ap (lifted l) (bits_leave same? (cgram (a % 8 * 5 + c % 5)) 7 b keep f o)

      go : (t : Bool) → know same? range (whether t (gives (sets cgram_at ((a % 8 + 1) % 8) (sets column 0 stores))) (gives (sets column (c % 5 + 1) stores))) l f ≡ l f
      go true = set_other same? l cgram_at ((a % 8 + 1) % 8) (sets column 0 stores) f p ∙ set_other same? l column 0 stores f q ∙ stays
      go false = set_other same? l column (c % 5 + 1) stores f q ∙ stays

  drawn_cell : (n : ℕ) → n < 7 → know same? range (drawn b a c) l (cgram (a % 8 * 5 + c % 5) n) ≡ known (digit n b)
  drawn_cell n h = go (eqb (c % 5) 4)
    where
      i : ℕ
      i = a % 8 * 5 + c % 5

      holds : lifted l (stores (cgram i n)) ≡ known (digit n b)
      holds = ap (lifted l) (bits_at same? (cgram i) (λ m o e. (cgram_apart i m i o e).1) 7 b keep n h)

      go : (t : Bool) → know same? range (whether t (gives (sets cgram_at ((a % 8 + 1) % 8) (sets column 0 stores))) (gives (sets column (c % 5 + 1) stores))) l (cgram i n) ≡ known (digit n b)
      go true =
          set_other same? l cgram_at ((a % 8 + 1) % 8) (sets column 0 stores) (cgram i n) (not_at i n)
          ∙ set_other same? l column 0 stores (cgram i n) (not_column i n) ∙ holds
      go false = set_other same? l column (c % 5 + 1) stores (cgram i n) (not_column i n) ∙ holds

  drawn_column : know same? range (drawn b a c) l column ≡ known ((c % 5 + 1) % 5)
  drawn_column = go (eqb (c % 5) 4) refl
    where
      go : (t : Bool) → eqb (c % 5) 4 ≡ t
          → know same? range (whether t (gives (sets cgram_at ((a % 8 + 1) % 8) (sets column 0 stores))) (gives (sets column (c % 5 + 1) stores))) l column ≡ known ((c % 5 + 1) % 5)
      go true e =
          let z = eqb-true (c % 5) 4 e in
          let y : 0 ≡ (c % 5 + 1) % 5 = omega arith in
          set_other same? l cgram_at ((a % 8 + 1) % 8) (sets column 0 stores) column column_not_at ∙ set_same same? l column 0 stores ∙ ap known y
      go false e =
          let z = eqb-false (c % 5) 4 e in
          let y : c % 5 + 1 ≡ (c % 5 + 1) % 5 = omega arith in
          set_same same? l column (c % 5 + 1) stores ∙ ap known y

  drawn_last : c % 5 ≡ 4 → know same? range (drawn b a c) l cgram_at ≡ known ((a % 8 + 1) % 8)
  drawn_last e = rw (eq-eqb (c % 5) 4 e) (set_same same? l cgram_at ((a % 8 + 1) % 8) (sets column 0 stores))

  drawn_before : ¬ (c % 5 ≡ 4) → know same? range (drawn b a c) l cgram_at ≡ l cgram_at
  drawn_before n =
      rw (ne_eqb (c % 5) 4 n)
      (set_other same? l column (c % 5 + 1) stores cgram_at at_not_column
      ∙ ap (lifted l) (bits_leave same? (cgram (a % 8 * 5 + c % 5)) 7 b keep cgram_at (λ o h e. not_at (a % 8 * 5 + c % 5) o (sym e))))

-- The character is a, the column unknown.
module _ (b a : ℕ) (l : Fact → Standing) (u : l column ≡ unknown) where
  abbrev inner : Fact → ℕ → Standing
  inner f w = know same? range (drawn b a w) (learn same? column w l) f

  all_columns : (f : Fact) → know same? range (look column (drawn b a)) l f ≡ common 5 (inner f)
  all_columns f = sym (look_unknown same? range column (drawn b a) l f (common 5 (inner f)) u refl)

  pub columns_rest : (f : Fact) → ¬ (f ≡ cgram_at) → ¬ (f ≡ column) → ((c : ℕ) → c < 5 → (n : ℕ) → n < 7 → ¬ (f ≡ cgram (a % 8 * 5 + c) n)) → know same? range (look column (drawn b a)) l f ≡ l f
  columns_rest f p q o =
      all_columns f
      ∙ common_same 5 (inner f) (l f) (omega arith) (λ w h. drawn_rest b a w (learn same? column w l) f p q (o (w % 5) (omega arith)) ∙ learn_other same? l column w f q)

  pub columns_cell : (c n : ℕ) → c < 5 → n < 7 → know same? range (look column (drawn b a)) l (cgram (a % 8 * 5 + c) n) ≡ join (l (cgram (a % 8 * 5 + c) n)) (known (digit n b))
  columns_cell c n h o =
      all_columns (cgram i n)
      ∙ common_two 5 (inner (cgram i n)) (known (digit n b)) (l (cgram i n)) c ((c + 1) % 5) h (omega arith) (λ e. omega arith) here there
      ∙ join_swap (known (digit n b)) (l (cgram i n))
    where
      i : ℕ
      i = a % 8 * 5 + c

      here : inner (cgram i n) c ≡ known (digit n b)
      here =
          let e : c % 5 ≡ c = omega arith in
          subst (λ (x : ℕ). inner (cgram (a % 8 * 5 + x) n) c ≡ known (digit n b)) e (drawn_cell b a c (learn same? column c l) n o)

      there : (w : ℕ) → w < 5 → ¬ (w ≡ c) → inner (cgram i n) w ≡ l (cgram i n)
      there w k d =
          drawn_rest b a w (learn same? column w l) (cgram i n) (not_at i n) (not_column i n)
          (λ m r e. d (let z = (cgram_apart (a % 8 * 5 + c) n (a % 8 * 5 + w % 5) m e).0 in omega arith))
          ∙ learn_other same? l column w (cgram i n) (not_column i n)

  pub columns_column : know same? range (look column (drawn b a)) l column ≡ unknown
  columns_column =
      all_columns column
      ∙ common_apart 5 (inner column) 0 1 1 2 (omega arith) (omega arith) (λ e. omega arith) (drawn_column b a 0 (learn same? column 0 l)) (drawn_column b a 1 (learn same? column 1 l))

  pub columns_at : l cgram_at ≡ known a → know same? range (look column (drawn b a)) l cgram_at ≡ unknown
  columns_at e =
      all_columns cgram_at
      ∙ common_apart 5 (inner cgram_at) 0 4 a ((a % 8 + 1) % 8) (omega arith) (omega arith) (λ z. omega arith)
      (drawn_before b a 0 (learn same? column 0 l) (λ z. omega arith) ∙ learn_other same? l column 0 cgram_at at_not_column ∙ e)
      (drawn_last b a 4 (learn same? column 4 l) refl)

-- The character is unknown.
module _ (b : ℕ) (k : Fact → Standing) where
  abbrev pub outer : Fact → ℕ → Standing
  outer f w = know same? range (look column (drawn b w)) (learn same? cgram_at w k) f

  -- The column is c.
  module _ (c : ℕ) (e : k column ≡ known c) where
    one_column : (f : Fact) (w : ℕ) → outer f w ≡ know same? range (drawn b w c) (learn same? cgram_at w k) f
    one_column f w =
        sym (look_known same? range column (drawn b w) (learn same? cgram_at w k) f c (know same? range (drawn b w c) (learn same? cgram_at w k) f) (learn_other same? k cgram_at w column column_not_at ∙ e) refl)

    pub characters_rest : (f : Fact) → ¬ (f ≡ cgram_at) → ¬ (f ≡ column) → ((w : ℕ) → w < 8 → (n : ℕ) → n < 7 → ¬ (f ≡ cgram (w * 5 + c % 5) n)) → k f ≡ common 8 (outer f)
    characters_rest f p q o =
        sym (common_same 8 (outer f) (k f) (omega arith)
        (λ w h. one_column f w ∙ drawn_rest b w c (learn same? cgram_at w k) f p q (o (w % 8) (omega arith)) ∙ learn_other same? k cgram_at w f p))

    pub characters_cell : (a n : ℕ) → a < 8 → n < 7 → join (k (cgram (a * 5 + c % 5) n)) (known (digit n b)) ≡ common 8 (outer (cgram (a * 5 + c % 5) n))
    characters_cell a n h o =
        join_swap (k (cgram i n)) (known (digit n b))
        ∙ sym (common_two 8 (outer (cgram i n)) (known (digit n b)) (k (cgram i n)) a ((a + 1) % 8) h (omega arith) (λ z. omega arith) here there)
      where
        i : ℕ
        i = a * 5 + c % 5

        here : outer (cgram i n) a ≡ known (digit n b)
        here =
            let z : a % 8 ≡ a = omega arith in
            one_column (cgram i n) a
            ∙ subst (λ (x : ℕ). know same? range (drawn b a c) (learn same? cgram_at a k) (cgram (x * 5 + c % 5) n) ≡ known (digit n b)) z (drawn_cell b a c (learn same? cgram_at a k) n o)

        apart : (w : ℕ) → w < 8 → a * 5 + c % 5 ≡ w % 8 * 5 + c % 5 → w ≡ a
        apart w l z =
            let y : w % 8 ≡ w = omega arith in
            omega arith

        there : (w : ℕ) → w < 8 → ¬ (w ≡ a) → outer (cgram i n) w ≡ k (cgram i n)
        there w l d =
            one_column (cgram i n) w
            ∙ drawn_rest b w c (learn same? cgram_at w k) (cgram i n) (not_at i n) (not_column i n) (λ m r z. d (apart w l (cgram_apart i n (w % 8 * 5 + c % 5) m z).0))
            ∙ learn_other same? k cgram_at w (cgram i n) (not_at i n)

    pub characters_column : known ((c % 5 + 1) % 5) ≡ common 8 (outer column)
    characters_column =
        sym (common_same 8 (outer column) (known ((c % 5 + 1) % 5)) (omega arith) (λ w h. one_column column w ∙ drawn_column b w c (learn same? cgram_at w k)))

    pub characters_at : unknown ≡ common 8 (outer cgram_at)
    characters_at = go (ℕ_discrete (c % 5) 4)
      where
        go : Dec (c % 5 ≡ 4) → unknown ≡ common 8 (outer cgram_at)
        go (yes p) =
            sym (common_apart 8 (outer cgram_at) 0 1 1 2 (omega arith) (omega arith) (λ z. omega arith)
            (one_column cgram_at 0 ∙ drawn_last b 0 c (learn same? cgram_at 0 k) p) (one_column cgram_at 1 ∙ drawn_last b 1 c (learn same? cgram_at 1 k) p))
        go (no p) =
            sym (common_apart 8 (outer cgram_at) 0 1 0 1 (omega arith) (omega arith) (λ z. omega arith)
            (one_column cgram_at 0 ∙ drawn_before b 0 c (learn same? cgram_at 0 k) p ∙ learn_here same? k cgram_at 0)
            (one_column cgram_at 1 ∙ drawn_before b 1 c (learn same? cgram_at 1 k) p ∙ learn_here same? k cgram_at 1))

  -- The column is unknown too.
  module _ (u : k column ≡ unknown) where
    lost : (w : ℕ) → learn same? cgram_at w k column ≡ unknown
    lost w = learn_other same? k cgram_at w column column_not_at ∙ u

    pub places_rest : (f : Fact) → ¬ (f ≡ cgram_at) → ¬ (f ≡ column) → ((i : ℕ) → i < 40 → (n : ℕ) → n < 7 → ¬ (f ≡ cgram i n)) → k f ≡ common 8 (outer f)
    places_rest f p q o =
        sym (common_same 8 (outer f) (k f) (omega arith)
        (λ w h. columns_rest b w (learn same? cgram_at w k) (lost w) f p q (λ c l. o (w % 8 * 5 + c) (omega arith)) ∙ learn_other same? k cgram_at w f p))

    pub places_cell : (i n : ℕ) → i < 40 → n < 7 → join (k (cgram i n)) (known (digit n b)) ≡ common 8 (outer (cgram i n))
    places_cell i n h o =
        sym (join_again_here)
        ∙ sym (common_two 8 (outer (cgram i n)) (join (k (cgram i n)) (known (digit n b))) (k (cgram i n)) (i / 5) ((i / 5 + 1) % 8) (omega arith) (omega arith) (λ z. omega arith) here there)
      where
        join_again_here : join (join (k (cgram i n)) (known (digit n b))) (k (cgram i n)) ≡ join (k (cgram i n)) (known (digit n b))
        join_again_here =
            ap (λ (s : Standing). join s (k (cgram i n))) (join_swap (k (cgram i n)) (known (digit n b))) ∙ join_again (known (digit n b)) (k (cgram i n)) ∙ join_swap (known (digit n b)) (k (cgram i n))

        here : outer (cgram i n) (i / 5) ≡ join (k (cgram i n)) (known (digit n b))
        here =
            let z : i / 5 % 8 * 5 + i % 5 ≡ i = omega arith in
            subst (λ (x : ℕ). outer (cgram x n) (i / 5) ≡ join (learn same? cgram_at (i / 5) k (cgram x n)) (known (digit n b))) z
            (columns_cell b (i / 5) (learn same? cgram_at (i / 5) k) (lost (i / 5)) (i % 5) n (omega arith) o)
            ∙ ap (λ (s : Standing). join s (known (digit n b))) (learn_other same? k cgram_at (i / 5) (cgram i n) (not_at i n))

        there : (w : ℕ) → w < 8 → ¬ (w ≡ i / 5) → outer (cgram i n) w ≡ k (cgram i n)
        there w l d =
            columns_rest b w (learn same? cgram_at w k) (lost w) (cgram i n) (not_at i n) (not_column i n)
            (λ c p m r z. d (let y = (cgram_apart i n (w % 8 * 5 + c) m z).0 in omega arith))
            ∙ learn_other same? k cgram_at w (cgram i n) (not_at i n)

    pub places_column : unknown ≡ common 8 (outer column)
    places_column = sym (common_same 8 (outer column) unknown (omega arith) (λ w h. columns_column b w (learn same? cgram_at w k) (lost w)))

    pub places_at : unknown ≡ common 8 (outer cgram_at)
    places_at = sym (common_same 8 (outer cgram_at) unknown (omega arith) (λ w h. columns_at b w (learn same? cgram_at w k) (lost w) (learn_here same? k cgram_at w)))

-- The column goes on to the next, whatever the character.
pub column_next : (b : ℕ) (k : Fact → Standing) (c : ℕ) → k column ≡ known c → known ((c % 5 + 1) % 5) ≡ know same? range (look cgram_at (λ a. look column (drawn b a))) k column
column_next b k c e = go (k cgram_at) refl
  where
    go : (t : Standing) → k cgram_at ≡ t → known ((c % 5 + 1) % 5) ≡ know same? range (look cgram_at (λ a. look column (drawn b a))) k column
    go (known a) p = look_known same? range cgram_at (λ a. look column (drawn b a)) k column a _ p (look_known same? range column (drawn b a) k column c _ e (sym (drawn_column b a c k)))
    go unknown p = look_unknown same? range cgram_at (λ a. look column (drawn b a)) k column _ p (characters_column b k c e)
