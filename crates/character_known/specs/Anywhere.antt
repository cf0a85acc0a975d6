-- A byte in at an unknown position: a command, data to one of three RAMs, or nothing. The argument: since idle and ignoring do nothing, all ways have in common what was known,
-- weakened by the four others; each of those leaves most facts alone, and an address that goes on is another one, and so unknown.
use Rattle.std.specs.Prelude.{ℕ, ◌+◌, ◌*◌, ◌%◌, ◌≡◌, eqb, Bool, true, false}
use Rattle.std.proofs.Common.{arith, sym, ◌∙◌, eq-eqb, ne_eqb}
use Rattle.std.proofs.Math.Path.{refl, ap}
use Rattle.std.proofs.Math.Decide.{ℕ_discrete}
use Rattle.rules.specs.Choice.{whether, whether_all}
use Rattle.rules.specs.Rule.{Rule, value, free, gives, look}
use Rattle.rules.specs.Change.{keep, change}
use Rattle.rules.specs.Touch.{Leaves, change_leaves, bits_leave}
use Rattle.knowing.specs.Standing.{Standing, known, unknown}
use Rattle.knowing.specs.Know.{join, learn, lifted, common, know}
use Rattle.knowing.specs.Join.{not_known, same_standing, join_other, join_not, join_nor, join_itself, join_late, join_both, join_known, common_apart}
use Rattle.knowing.specs.Look.{look_known, idle_ways}
use Rattle.knowing.specs.Lost.{common_lost, know_leaves}
use Rattle.fact.specs.View.{stands}
use Rattle.fact.specs.declared.Single.{Single}
use Rattle.fact.specs.declared.Single.TheVariants.{Known, Unknown}
use Rattle.terms.specs.declared.Address.{Address}
use Rattle.changes.specs.declared.Change.{Change}
use Rattle.changes.specs.Change.{seen, Inside, loose}
use Rattle.changes.specs.Laws.{loose_seen, loose_inside}
use Rattle.character.specs.declared.command.Command.{Command}
use Rattle.character.specs.declared.command.Command.TheVariants.{Undefined}
use Rattle.character.specs.Command.{command_of}
use Rattle.character.specs.Fact.{Fact, same?, range, dcram, cgram, adram, dcram_at, cgram_at, adram_at, column, port, duty, digits, lights, position}
use Rattle.character.specs.Laws.{every, port_undefined}
use Rattle.character.specs.Range.{two}
use Rattle.character.specs.Move.{spells, commanded, shown, marked, drawn, byte_in}
use Rattle.character_knowledge.specs.declared.Control.{Control}
use Rattle.character_knowledge.specs.View.{Memory, cview, points}
use Rattle.character_steps.specs.declared.Step.{Step}
use Rattle.character_steps.specs.Step.{sview, Steps}
use Rattle.character_steps.specs.Steps.{known_step, goes, all_steps}
use Rattle.character_known.specs.Ram.{text, columns, pairs, changed_in, put_in}
use Rattle.character_known.specs.Open.{open_step}
use Rattle.character_known.specs.Places.{placed, shown_at, marked_at, drawn_at, column_step, character_step}
use Rattle.character_known.specs.Weakened.{met_at, met_column, stays, Weakens}
use Rattle.character_known.specs.Row.{ram_of, elsewhere}
use Rattle.character_known.specs.Drawn.{column_next}

-- The last of six ways may come second.
second_last : (a b p q r t : Standing) → join (join (join (join (join a b) p) q) r) t ≡ join (join (join (join (join a p) q) r) t) b
second_last a b p q r t =
    ap (λ (s : Standing). join (join (join s q) r) t) (join_late a b p)
    ∙ ap (λ (s : Standing). join (join s r) t) (join_late (join a p) b q)
    ∙ ap (λ (s : Standing). join s t) (join_late (join (join a p) q) b r)
    ∙ join_late (join (join (join a p) q) r) b t

absorbed : (s t : Standing) → join (join s t) s ≡ join s t
absorbed s t = join_late s t s ∙ ap (λ (x : Standing). join x t) (join_itself s)

-- What s was, with what the command w, and a byte to DCRAM x, to CGRAM y and to ADRAM z make of it. Ways that leave it do not count.
module _ (s w x y z : Standing) where
  abbrev all : Standing
  all = join (join (join (join s w) x) y) z

  by_command : s ≡ x → s ≡ y → s ≡ z → join s w ≡ all
  by_command p q r = let a = absorbed s w in cc

  by_text : s ≡ join s w → s ≡ y → s ≡ z → join s x ≡ all
  by_text p q r = let a = absorbed s x in cc

  by_column : s ≡ join s w → s ≡ x → s ≡ z → join s y ≡ all
  by_column p q r =
      let i = join_itself s in
      let a = absorbed s y in
      cc

  by_pair : s ≡ join s w → s ≡ x → s ≡ y → join s z ≡ all
  by_pair p q r = let i = join_itself s in cc

  by_character : s ≡ x → s ≡ z → join (join s y) w ≡ all
  by_character p q =
      let a = absorbed s w in
      let b = join_late (join s w) y s in
      let d = join_late s y w in
      cc

  -- What is known there is known each way.
  all_known : (v : ℕ) → all ≡ known v → (s ≡ known v) × ((x ≡ known v) × ((y ≡ known v) × (z ≡ known v)))
  all_known v e =
      let a = join_known _ z v e in
      let b = join_known _ y v a.0 in
      let d = join_known _ x v b.0 in
      ((join_known s w v d.0).0, (d.1, (b.1, a.1)))

  gone : ((v : ℕ) → all ≡ known v → unknown ≡ known v) → unknown ≡ all
  gone h = sym (same_standing all unknown (λ v e. absurd (not_known v (h v e))) (λ v e. absurd (not_known v e)))

  no_text : unknown ≡ join s x → unknown ≡ all
  no_text u = gone (λ v e. let k = all_known v e in u ∙ join_both s x v k.0 k.1.0)

  no_column : unknown ≡ join s y → unknown ≡ all
  no_column u = gone (λ v e. let k = all_known v e in u ∙ join_both s y v k.0 k.1.1.0)

  no_pair : unknown ≡ join s z → unknown ≡ all
  no_pair u = gone (λ v e. let k = all_known v e in u ∙ join_both s z v k.0 k.1.1.1)

  not_before : s ≡ unknown → unknown ≡ all
  not_before u = gone (λ v e. sym u ∙ (all_known v e).0)

-- A place that goes on to another one is unknown, where it may have gone on or not.
next_lost : (at : Fact) (rule : Rule Fact Fact) (v : Fact → Standing) (next : ℕ → ℕ) → ((x : ℕ) → v at ≡ known x → known (next x) ≡ know same? range rule v at) → ((x : ℕ) → ¬ (x ≡ next x))
    → unknown ≡ join (v at) (know same? range rule v at)
next_lost at rule v next to apart = go (v at) refl
  where
    go : (t : Standing) → v at ≡ t → unknown ≡ join (v at) (know same? range rule v at)
    go (known x) e = join_other (v at) (know same? range rule v at) x (next x) e (sym (to x e)) (apart x)
    go unknown e = join_not (v at) (know same? range rule v at) e

module _ (b : ℕ) (f : Fact) where
  -- A byte to a RAM leaves the facts of the others, and those of none.
  showing : ¬ (ram_of f ≡ 0) → Leaves f (look dcram_at (shown b))
  showing n w = change_leaves same? dcram_at (value ((w % 16 + 1) % 16)) (spells (dcram (w % 16)) 8 b keep) f (elsewhere f dcram_at n) (bits_leave same? (dcram (w % 16)) 8 b keep f (λ k l. elsewhere f (dcram (w % 16) k) n))

  drawing : ¬ (ram_of f ≡ 1) → Leaves f (look cgram_at (λ a. look column (drawn b a)))
  drawing n a w =
      whether_all (λ (x : Rule Fact Fact). Leaves f x) (eqb (w % 5) 4) _ _
      (λ _. change_leaves same? cgram_at (value ((a % 8 + 1) % 8)) (change same? column (value 0) (spells (cgram (a % 8 * 5 + w % 5)) 7 b keep)) f (elsewhere f cgram_at n) (stays 0)) (λ _. stays (w % 5 + 1))
    where
      stays : (v : ℕ) → change same? column (value v) (spells (cgram (a % 8 * 5 + w % 5)) 7 b keep) f ≡ keep f
      stays v = change_leaves same? column (value v) (spells (cgram (a % 8 * 5 + w % 5)) 7 b keep) f (elsewhere f column n) (bits_leave same? (cgram (a % 8 * 5 + w % 5)) 7 b keep f (λ k l. elsewhere f (cgram (a % 8 * 5 + w % 5) k) n))

  marking : ¬ (ram_of f ≡ 2) → Leaves f (look adram_at (marked b))
  marking n w = change_leaves same? adram_at (value ((w % 16 + 1) % 16)) (spells (adram (w % 16)) 2 b keep) f (elsewhere f adram_at n) (bits_leave same? (adram (w % 16)) 2 b keep f (λ k l. elsewhere f (adram (w % 16) k) n))

-- The same with the position known.
abbrev stood : Control → ℕ → Control
stood c n = record {
  dcram_at = c.dcram_at;
  cgram_at = c.cgram_at;
  adram_at = c.adram_at;
  column = c.column;
  port = c.port;
  duty = c.duty;
  digits = c.digits;
  lights = c.lights;
  position = Known n;
}

stands_so : (c : Control) (n : ℕ) (m : Memory) (f : Fact) → cview m (stood c n) f ≡ learn same? position n (cview m c) f
stands_so c n m = every _ (λ i k. refl) (λ i k. refl) (λ i k. refl) refl refl refl refl (λ k. refl) refl refl refl refl

nowhere : (t : Bool) → whether {A = Single Address} t Unknown Unknown ≡ Unknown
nowhere true = refl
nowhere false = refl

-- The step of a byte: each RAM meets it where it may have gone to, and r is what is left beside the memory.
abbrev pub met_all : ℕ → Control → Control → Step
met_all b c r = record { control = r; dcram = met_at c.dcram_at b; cgram = met_column c.cgram_at c.column b; adram = met_at c.adram_at b }

-- The six ways of a byte.
module _ (b : ℕ) (c : Control) where
  abbrev ways : Memory → Fact → ℕ → Standing
  ways m f n = know same? range (byte_in b n) (learn same? position n (cview m c)) f

  -- What a way leaves.
  kept : (m : Memory) (n : ℕ) (f : Fact) → Leaves f (byte_in b n) → learn same? position n (cview m c) f ≡ ways m f n
  kept m n f h = know_leaves same? range two f (byte_in b n) (learn same? position n (cview m c)) h

  -- What each RAM has in common with a byte that may have gone there, by a step for the way that it did.
  pub record Texts (x : Change) : Type 0 where
    pub meets : (m : Memory) (i k : ℕ) → seen 8 x i k (m.dcram i k) ≡ join (m.dcram i k) (ways m (dcram i k) 2)
    pub inside : Inside 16 x

  pub record Draws (x : Change) (at : Single Address) : Type 0 where
    pub meets : (m : Memory) (i k : ℕ) → seen 7 x i k (m.cgram i k) ≡ join (m.cgram i k) (ways m (cgram i k) 3)
    pub goes_on : (m : Memory) → points at ≡ join (points c.cgram_at) (ways m cgram_at 3)
    pub inside : Inside 40 x

  pub record Marks (x : Change) : Type 0 where
    pub meets : (m : Memory) (i k : ℕ) → seen 2 x i k (m.adram i k) ≡ join (m.adram i k) (ways m (adram i k) 4)
    pub inside : Inside 16 x

  texts : Texts (met_at c.dcram_at b)
  texts = go c.dcram_at refl
    where
      by : (d : Control) (x : Change) → Steps (look dcram_at (shown b)) (stood c 2) (changed_in text d x) → Texts (loose x)
      by d x h =
          let w = goes position (byte_in b) c 2 (stood c 2) (changed_in text d x) (stands_so c 2) h in
          record { meets = λ m i k. loose_seen 8 x i k (m.dcram i k) ∙ ap (join (m.dcram i k)) (w.ways m (dcram i k)); inside = loose_inside 16 x h.inside.0 }

      go : (at : Single Address) → c.dcram_at ≡ at → Texts (met_at at b)
      go (Known a) e = by _ _ (known_step dcram_at (shown b) (stood c 2) _ a.0 (λ m. ap points e) (shown_at b (stood c 2) a.0))
      go Unknown e = by _ _ (open_step b text (ap points e))

  marks : Marks (met_at c.adram_at b)
  marks = go c.adram_at refl
    where
      by : (d : Control) (x : Change) → Steps (look adram_at (marked b)) (stood c 4) (changed_in pairs d x) → Marks (loose x)
      by d x h =
          let w = goes position (byte_in b) c 4 (stood c 4) (changed_in pairs d x) (stands_so c 4) h in
          record { meets = λ m i k. loose_seen 2 x i k (m.adram i k) ∙ ap (join (m.adram i k)) (w.ways m (adram i k)); inside = loose_inside 16 x h.inside.1.1 }

      go : (at : Single Address) → c.adram_at ≡ at → Marks (met_at at b)
      go (Known a) e = by _ _ (known_step adram_at (marked b) (stood c 4) _ a.0 (λ m. ap points e) (marked_at b (stood c 4) a.0))
      go Unknown e = by _ _ (open_step b pairs (ap points e))

  draws : Draws (met_column c.cgram_at c.column b) (stays c.cgram_at c.column)
  draws = go c.cgram_at c.column refl refl
    where
      by : (d : Control) (x : Change) (at : Single Address) → Steps (look cgram_at (λ a. look column (drawn b a))) (stood c 3) (changed_in columns d x) → points at ≡ join (points c.cgram_at) (points d.cgram_at) → Draws (loose x) at
      by d x at h e =
          let w = goes position (byte_in b) c 3 (stood c 3) (changed_in columns d x) (stands_so c 3) h in
          record {
            meets = λ m i k. loose_seen 7 x i k (m.cgram i k) ∙ ap (join (m.cgram i k)) (w.ways m (cgram i k));
            goes_on = λ m. e ∙ ap (join (points c.cgram_at)) (w.ways m cgram_at);
            inside = loose_inside 40 x h.inside.1.0;
          }

      -- The character is known.
      in_character : (a n to : ℕ) → c.cgram_at ≡ Known (record { 0 = a }) → stands c.column ≡ known n → (n % 5 ≡ 4 → to ≡ (a % 8 + 1) % 8) → (¬ (n % 5 ≡ 4) → to ≡ a)
          → Steps (look cgram_at (λ a. look column (drawn b a))) (stood c 3) (changed_in columns (placed (stood c 3) (Known (record { 0 = to })) (Known ((n % 5 + 1) % 5))) (put_in (a % 8 * 5 + n % 5) b))
      in_character a n to e q f g =
          known_step cgram_at (λ a. look column (drawn b a)) (stood c 3) _ a (λ m. ap points e)
          (known_step column (drawn b a) (stood c 3) _ n (λ m. q) (drawn_at b (stood c 3) a n to (ap points e) f g))

      at_column : (a n : ℕ) → c.cgram_at ≡ Known (record { 0 = a }) → c.column ≡ Known n → Dec (n % 5 ≡ 4) → Draws (met_column (Known (record { 0 = a })) (Known n) b) (stays (Known (record { 0 = a })) (Known n))
      at_column a n e q (yes z) =
          rw (eq-eqb (n % 5) 4 z)
          (by _ _ Unknown (in_character a n ((a % 8 + 1) % 8) e (ap stands q) (λ y. refl) (λ y. absurd (y z))) (join_other (points c.cgram_at) (known ((a % 8 + 1) % 8)) a ((a % 8 + 1) % 8) (ap points e) refl (λ y. omega arith)))
      at_column a n e q (no z) =
          rw (ne_eqb (n % 5) 4 z)
          (by _ _ (Known (record { 0 = a })) (in_character a n a e (ap stands q) (λ y. absurd (z y)) (λ y. refl)) (sym (ap (λ (s : Standing). join s (known a)) (ap points e) ∙ join_itself (known a))))

      go : (at : Single Address) (col : Single ℕ) → c.cgram_at ≡ at → c.column ≡ col → Draws (met_column at col b) (stays at col)
      go (Known a) (Known n) e q = at_column a.0 n e q (ℕ_discrete (n % 5) 4)
      go (Known a) Unknown e q =
          by _ _ Unknown (known_step cgram_at (λ a. look column (drawn b a)) (stood c 3) _ a.0 (λ m. ap points e) (column_step b (stood c 3) a.0 c.column (ap points e) (ap stands q) (ap stands q)))
          (join_nor (points c.cgram_at) unknown refl)
      go Unknown (Known n) e q = rw (nowhere (eqb (n % 5) 4)) (by _ _ Unknown (character_step b (stood c 3) n (ap points e) (ap stands q)) (join_not (points c.cgram_at) unknown (ap points e)))
      go Unknown Unknown e q = by _ _ Unknown (open_step b columns (ap points e, ap stands q)) (join_not (points c.cgram_at) (points c.cgram_at) (ap points e))

  -- A setting, which only a command sets.
  setting : (m : Memory) (f : Fact) → ram_of f ≡ 3 → ((v : ℕ) → cview m c f ≡ learn same? position v (cview m c) f)
      → join (cview m c f) (ways m f 1) ≡ all (cview m c f) (ways m f 1) (ways m f 2) (ways m f 3) (ways m f 4)
  setting m f e here =
      by_command (cview m c f) (ways m f 1) (ways m f 2) (ways m f 3) (ways m f 4)
      (here 2 ∙ kept m 2 f (showing b f (λ z. omega arith))) (here 3 ∙ kept m 3 f (drawing b f (λ z. omega arith))) (here 4 ∙ kept m 4 f (marking b f (λ z. omega arith)))

  module _ (u : stands c.position ≡ unknown) where
    weaker : (r : Control) → Weakens (command_of b) c r
        → (m : Memory) (f : Fact) → sview m (met_all b c r) f ≡ all (cview m c f) (ways m f 1) (ways m f 2) (ways m f 3) (ways m f 4)
    weaker r h m =
        every _
        (λ i k. texts.meets m i k ∙ by_text _ _ _ _ _ (h m (dcram i k)) (kept m 3 (dcram i k) (drawing b (dcram i k) (λ z. omega arith))) (kept m 4 (dcram i k) (marking b (dcram i k) (λ z. omega arith))))
        (λ i k. draws.meets m i k ∙ by_column _ _ _ _ _ (h m (cgram i k)) (kept m 2 (cgram i k) (showing b (cgram i k) (λ z. omega arith))) (kept m 4 (cgram i k) (marking b (cgram i k) (λ z. omega arith))))
        (λ i k. marks.meets m i k ∙ by_pair _ _ _ _ _ (h m (adram i k)) (kept m 2 (adram i k) (showing b (adram i k) (λ z. omega arith))) (kept m 3 (adram i k) (drawing b (adram i k) (λ z. omega arith))))
        (h m dcram_at ∙ no_text _ _ _ _ _ (next_lost dcram_at (byte_in b 2) (learn same? position 2 (cview m c)) (λ x. (x % 16 + 1) % 16) (λ x e. look_known same? range dcram_at (shown b) (learn same? position 2 (cview m c)) dcram_at x _ e refl) (λ x e. omega arith)))
        (h m cgram_at ∙ ap (λ (s : Standing). join s (ways m cgram_at 1)) (draws.goes_on m) ∙ by_character _ _ _ _ _ (kept m 2 cgram_at (showing b cgram_at (λ z. omega arith))) (kept m 4 cgram_at (marking b cgram_at (λ z. omega arith))))
        (h m adram_at ∙ no_pair _ _ _ _ _ (next_lost adram_at (byte_in b 4) (learn same? position 4 (cview m c)) (λ x. (x % 16 + 1) % 16) (λ x e. look_known same? range adram_at (marked b) (learn same? position 4 (cview m c)) adram_at x _ e refl) (λ x e. omega arith)))
        (h m column ∙ no_column _ _ _ _ _ (next_lost column (byte_in b 3) (learn same? position 3 (cview m c)) (λ x. (x % 5 + 1) % 5) (column_next b (learn same? position 3 (cview m c))) (λ x e. omega arith)))
        (λ k. h m (port k) ∙ setting m (port k) refl (λ v. refl))
        (h m duty ∙ setting m duty refl (λ v. refl))
        (h m digits ∙ setting m digits refl (λ v. refl))
        (h m lights ∙ setting m lights refl (λ v. refl))
        (h m position ∙ u ∙ not_before _ _ _ _ _ u)

    pub anywhere : (r : Control) → Weakens (command_of b) c r → Steps (look position (byte_in b)) c (met_all b c r)
    unfolding common
    anywhere r h =
        all_steps position (byte_in b) c 6 _ refl (λ m. u) (record {
          gathers = λ m y. weaker r h m y ∙ ap (λ (s : Standing). all s (ways m y 1) (ways m y 2) (ways m y 3) (ways m y 4)) (idle_ways same? position (cview m c) 0 5 (λ e. omega arith) u y) ∙ second_last _ _ _ _ _ _;
          inside = (texts.inside, (draws.inside, marks.inside));
        })

    -- Where the command is the undefined one, everything may be anything.
    pub lost_anywhere : {r : Step} → command_of b ≡ Undefined → Steps (gives (λ f. free)) c r → Steps (look position (byte_in b)) c r
    lost_anywhere {r} e h = all_steps position (byte_in b) c 6 r refl (λ m. u) (record { gathers = λ m y. h.knows m y ∙ sym (none m y); inside = h.inside })
      where
        undone : (m : Memory) (f : Fact) → commanded Undefined f ≡ free → common 6 (ways m f) ≡ unknown
        undone m f n = common_lost 6 (ways m f) 1 (omega arith) (ap (λ (x : Command). lifted (learn same? position 1 (cview m c)) (commanded x f)) e ∙ ap (lifted (learn same? position 1 (cview m c))) n)

        none : (m : Memory) (f : Fact) → common 6 (ways m f) ≡ unknown
        none m =
            every _ (λ i k. undone m (dcram i k) refl) (λ i k. undone m (cgram i k) refl) (λ i k. undone m (adram i k) refl) (undone m dcram_at refl) (undone m cgram_at refl) (undone m adram_at refl) (undone m column refl)
            (λ k. undone m (port k) (port_undefined k)) (undone m duty refl) (undone m digits refl) (undone m lights refl) (common_apart 6 (ways m position) 0 5 0 5 (omega arith) (omega arith) (λ z. omega arith) refl refl)
