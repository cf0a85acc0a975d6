-- A byte in at an unknown position: it may have been a command, or data, or nothing. The argument: the two ways that do nothing, idle and ignoring, have in common what was known, so that what is left
-- of each fact is what it has in common with what the data and the command make of it.
use Prim.Native.Nat.{ℕ, ◌≤◌}
use Rattle.std.proofs.Common.{arith, sym, ap₂, ◌∙◌, eq-eqb}
use Rattle.std.specs.Prelude.{◌≡◌, Bool, true, false, List}
use Rattle.std.proofs.Math.Path.{refl, ap, subst⁻¹}
use Rattle.rules.specs.Choice.{whether}
use Rattle.rules.specs.Rule.{look}
use Rattle.knowing.specs.Standing as Of
use Rattle.knowing.specs.Standing.{known, unknown}
use Rattle.knowing.specs.Know.{learn, join, common, know}
use Rattle.knowing.specs.Join.{join_itself, join_late, join_not, join_nor}
use Rattle.knowing.specs.Look.{know_same, idle_ways}
use Rattle.knowing.specs.Steps.{step_all}
use Rattle.fact.specs.View.{stands}
use Rattle.fact.specs.declared.Single.{Single}
use Rattle.fact.specs.declared.Single.TheVariants.{Known, Unknown}
use Rattle.lamps.specs.View.{shown, met}
use Rattle.lamps.specs.Lamp.{none_shown}
use Rattle.changes.specs.declared.Change.{Change}
use Rattle.changes.specs.declared.Change.TheVariants.{Meet, Forget}
use Rattle.changes.specs.Change.{among, seen, Inside, loose}
use Rattle.changes.specs.Laws.{loose_seen, loose_inside}
use Rattle.terms.specs.declared.Address.{Address}
use Rattle.segment.specs.declared.Family.{Family}
use Rattle.segment.specs.declared.Data.{Data}
use Rattle.segment.specs.declared.Display.{Display}
use Rattle.segment.specs.declared.Display.TheVariants.{Off}
use Rattle.segment.specs.declared.Pointer.{Pointer}
use Rattle.segment.specs.declared.Stepping.{Stepping}
use Rattle.segment.specs.declared.command.Command.{Command}
use Rattle.segment.specs.declared.command.Command.TheVariants.{Mode, Test, Setting, AnySetting, Control as Controls, Start}
use Rattle.segment.specs.Command.{command_of}
use Rattle.segment.specs.Family.{sizes}
use Rattle.segment.specs.Fact.{Fact, same?, range, cell, address, data_mode, stepping, mode, dimming, display, led, key, switches, read_count, position}
use Rattle.segment.specs.Laws.{every, led_tested}
use Rattle.segment.specs.Value.{pointer, data_mode_of, steps, shows}
use Rattle.segment.specs.Move.{written, to_mode, commanded, byte_in}
use Rattle.segment_knowledge.specs.declared.Control.{Control}
use Rattle.segment_knowledge.specs.View.{points, held, cview}
use Rattle.segment_steps.specs.declared.Step.{Step}
use Rattle.segment_steps.specs.Step.{sview, StaysInside, Steps}
use Rattle.segment_known.specs.declared.bytes.Written.{Written}
use Rattle.segment_known.specs.Ways.{display_in, in_mode, mode_set, mode_small, top_room}
use Rattle.segment_known.specs.Writes.{writing, placed, Writes}

-- What the command m makes of c, as a first byte.
abbrev pub commanded_as : Family → Command → Control → (ℕ → ℕ → Of.Standing) → Fact → Of.Standing
commanded_as p m c cells = know same? (range (sizes p)) (commanded m) (learn same? position 1 (cview cells c))

-- That of a mode command.
pub moded_as : (p : Family) (c : Control) (m : ℕ) (shown : Single ℕ) → m ≤ (sizes p).top → stands shown ≡ display_in (stands c.mode) m (stands c.display)
    → (cells : ℕ → ℕ → Of.Standing) (f : Fact) → cview cells (in_mode c m shown) f ≡ commanded_as p (Mode m) c cells f
moded_as p c m shown small e cells f =
    mode_set (sizes p) (placed c (Known 1)) m shown small (top_room p) e cells f
    ∙ know_same same? (range (sizes p)) (look mode (to_mode m)) (cview cells (placed c (Known 1))) (learn same? position 1 (cview cells c))
    (every _ (λ i k. refl) refl refl refl refl refl refl (λ k. refl) (λ i. refl) refl refl refl) f

-- Of three ways two are one: what is left is what it has in common with the other.
again : (t s w : Of.Standing) → t ≡ join s w → t ≡ join (join s w) s
again t s w e = e ∙ sym (join_late s w s ∙ ap (λ (x : Of.Standing). join x w) (join_itself s))

twice : (t s w : Of.Standing) → t ≡ join s w → t ≡ join (join s s) w
twice t s w e = e ∙ ap (λ (x : Of.Standing). join x w) (sym (join_itself s))

thrice : (s : Of.Standing) → s ≡ join (join s s) s
thrice s = again s s s (sym (join_itself s))

-- Of four ways, the last two of which are the third and the second, the second may come last.
in_order : (a b p q : Of.Standing) → join (join (join a b) q) p ≡ join (join (join a p) q) b
in_order a b p q = join_late (join a b) q p ∙ ap (λ (s : Of.Standing). join s q) (join_late a b p) ∙ join_late (join a p) b q

-- The step that does this to the cells and leaves these facts; keys, switches and position are those of c.
abbrev pub made : Control → Change → Single Pointer → ℕ → Single ℕ → Single ℕ → Single ℕ → Single ℕ → Single ℕ → Single ℕ → Step
made c x a l d i m o v n = record {
  control = record {
    address = a;
    «data» = d;
    stepping = i;
    mode = m;
    dimming = o;
    display = v;
    led = l;
    keys = c.keys;
    switches = c.switches;
    count = n;
    position = c.position;
  };
  change = x;
}

-- `next` is what data make of c, and x, a and l are what is left of the cells, the address and the LED where they may have come.
module _ (p : Family) (b : ℕ) (c : Control) (u : stands c.position ≡ unknown) (next : Written) (data_in : Writes (sizes p) b c next) where
  abbrev pub Perhaps : Step → Type 0
  Perhaps = Steps (sizes p) (look position (byte_in (sizes p) b)) c

  opened : Step
  opened = record { control = writing (placed c (Known 2)) next.address next.led; change = next.change }

  module _ (m : Command) (way : (ℕ → ℕ → Of.Standing) → Fact → Of.Standing) (is : m ≡ command_of (sizes p) b) (goes : (cells : ℕ → ℕ → Of.Standing) (f : Fact) → way cells f ≡ commanded_as p m c cells f) where
    perhaps_steps : (r : Step) → Inside 36 r.change → ((cells : ℕ → ℕ → Of.Standing) (f : Fact) → sview cells r f ≡ join (join (cview cells c f) (sview cells opened f)) (way cells f)) → Perhaps r
    unfolding common opened
    perhaps_steps r inside joins =
        step_all cview sview StaysInside same? (range (sizes p)) position (byte_in (sizes p) b) c 4 refl (λ cells. u) (record { gathers = gathered; inside = inside })
      where
        second : (cells : ℕ → ℕ → Of.Standing) (f : Fact) → sview cells opened f ≡ know same? (range (sizes p)) (byte_in (sizes p) b 2) (learn same? position 2 (cview cells c)) f
        second cells f =
            (data_in (Known 2)).knows cells f
            ∙ know_same same? (range (sizes p)) (look data_mode (written (sizes p) b)) (cview cells (placed c (Known 2))) (learn same? position 2 (cview cells c))
            (every _ (λ i k. refl) refl refl refl refl refl refl (λ k. refl) (λ i. refl) refl refl refl) f

        gathered : (cells : ℕ → ℕ → Of.Standing) (y : Fact) → sview cells r y ≡ common 4 (λ n. know same? (range (sizes p)) (byte_in (sizes p) b n) (learn same? position n (cview cells c)) y)
        gathered cells y =
            joins cells y
            ∙ ap₂ join (ap₂ join (idle_ways same? position (cview cells c) 0 3 (λ e. omega arith) u y) (second cells y)) (goes cells y ∙ ap (λ (n : Command). commanded_as p n c cells y) is)
            ∙ in_order _ _ _ _

  lost : (w : Of.Standing) → stands c.position ≡ join (join (stands c.position) (known 2)) w
  lost w = u ∙ join_not _ _ (sym (join_not _ _ u))

  -- Test mode forgets all but keys and switches.
  pub perhaps_test : Test ≡ command_of (sizes p) b → Perhaps (made c Forget Unknown 0 Unknown Unknown Unknown Unknown Unknown Unknown)
  unfolding opened
  perhaps_test is =
      perhaps_steps Test (commanded_as p Test c) is (λ cells f. refl) _ tt
      (λ cells. every _ (λ i k. join_nor _ _ refl) (join_nor _ _ refl) (join_nor _ _ refl) (join_nor _ _ refl) (join_nor _ _ refl) (join_nor _ _ refl) (join_nor _ _ refl)
      (λ k. rw (led_tested k) (none_shown 4 k ∙ join_nor _ _ refl)) (λ i. thrice _) (thrice _) (join_nor _ _ refl) (lost _))

  module _ (x : Change) (a : Single Pointer) (l : ℕ) (met : x ≡ loose next.change) (at : points a ≡ join (points c.address) (points next.address))
      (lit : (k : ℕ) → shown 4 l k ≡ join (shown 4 c.led k) (shown 4 next.led k)) where
    inside : Inside 36 x
    inside = subst⁻¹ (λ (y : Change). Inside 36 y) met (loose_inside 36 next.change (data_in (Known 2)).inside)

    cells_left : (cells : ℕ → ℕ → Of.Standing) (i k : ℕ) → seen 8 x i k (cells i k) ≡ join (join (cells i k) (seen 8 next.change i k (cells i k))) (cells i k)
    cells_left cells i k = again _ _ _ (ap (λ (y : Change). seen 8 y i k (cells i k)) met ∙ loose_seen 8 next.change i k (cells i k))

    -- An address that may have been set.
    pub perhaps_start : (to : Pointer) (start : Single Pointer) → Start to ≡ command_of (sizes p) b → points start ≡ join (points a) (known (pointer to))
        → Perhaps (made c x start l c.«data» c.stepping c.mode c.dimming c.display c.count)
    unfolding opened
    perhaps_start to start is e =
        perhaps_steps (Start to) (commanded_as p (Start to) c) is (λ cells f. refl) _ inside
        (λ cells. every _ (cells_left cells) (e ∙ ap (λ (s : Of.Standing). join s (known (pointer to))) at) (thrice _) (thrice _) (thrice _) (thrice _) (thrice _) (λ k. again _ _ _ (lit k)) (λ i. thrice _) (thrice _) (thrice _) (lost _))

    -- A data setting, with any data mode or with one.
    pub perhaps_setting : (d : Data) (i : Stepping) (new step count : Single ℕ) → Setting d i ≡ command_of (sizes p) b → stands new ≡ join (stands c.«data») (known (data_mode_of d))
        → stands step ≡ join (stands c.stepping) (known (steps i)) → stands count ≡ join (stands c.count) (known 0) → Perhaps (made c x a l new step c.mode c.dimming c.display count)
    unfolding opened
    perhaps_setting d i new step count is e f g =
        perhaps_steps (Setting d i) (commanded_as p (Setting d i) c) is (λ cells f. refl) _ inside
        (λ cells. every _ (cells_left cells) (again _ _ _ at) (twice _ _ _ e) (twice _ _ _ f) (thrice _) (thrice _) (thrice _) (λ k. again _ _ _ (lit k)) (λ i. thrice _) (thrice _) (twice _ _ _ g) (lost _))

    pub perhaps_any : (i : Stepping) (step count : Single ℕ) → AnySetting i ≡ command_of (sizes p) b → stands step ≡ join (stands c.stepping) (known (steps i)) → stands count ≡ join (stands c.count) (known 0)
        → Perhaps (made c x a l Unknown step c.mode c.dimming c.display count)
    unfolding opened
    perhaps_any i step count is f g =
        perhaps_steps (AnySetting i) (commanded_as p (AnySetting i) c) is (λ cells f. refl) _ inside
        (λ cells. every _ (cells_left cells) (again _ _ _ at) (join_nor _ _ refl) (twice _ _ _ f) (thrice _) (thrice _) (thrice _) (λ k. again _ _ _ (lit k)) (λ i. thrice _) (thrice _) (twice _ _ _ g) (lost _))

    pub perhaps_control : (n : ℕ) (o : Display) (dim shows' : Single ℕ) → Controls n o ≡ command_of (sizes p) b → stands dim ≡ join (stands c.dimming) (known n)
        → stands shows' ≡ join (stands c.display) (known (shows o)) → Perhaps (made c x a l c.«data» c.stepping c.mode dim shows' c.count)
    unfolding opened
    perhaps_control n o dim shows' is e f =
        perhaps_steps (Controls n o) (commanded_as p (Controls n o) c) is (λ cells f. refl) _ inside
        (λ cells. every _ (cells_left cells) (again _ _ _ at) (thrice _) (thrice _) (thrice _) (twice _ _ _ e) (twice _ _ _ f) (λ k. again _ _ _ (lit k)) (λ i. thrice _) (thrice _) (thrice _) (lost _))

    pub perhaps_mode : (n : ℕ) (off new shows' : Single ℕ) → Mode n ≡ command_of (sizes p) b → stands off ≡ display_in (stands c.mode) n (stands c.display) → stands new ≡ join (stands c.mode) (known n)
        → stands shows' ≡ join (stands c.display) (stands off) → Perhaps (made c x a l c.«data» c.stepping new c.dimming shows' c.count)
    unfolding opened
    perhaps_mode n off new shows' is h e f =
        perhaps_steps (Mode n) (λ cells. cview cells (in_mode c n off)) is (moded_as p c n off (mode_small (sizes p) b n is) h) _ inside
        (λ cells. every _ (cells_left cells) (again _ _ _ at) (thrice _) (thrice _) (twice _ _ _ e) (thrice _) (twice _ _ _ f) (λ k. again _ _ _ (lit k)) (λ i. thrice _) (thrice _) (thrice _) (lost _))

-- Said of the facts in other words.
pub perhaps_as : (P : Step → Type 0) (c : Control) {x x' : Change} {a a' : Single Pointer} {l l' : ℕ} {d d' i i' m m' o o' v v' n n' : Single ℕ} → a ≡ a' → l ≡ l' → x ≡ x' → d ≡ d' → i ≡ i' → m ≡ m' → o ≡ o' → v ≡ v' → n ≡ n'
    → P (made c x' a' l' d' i' m' o' v' n') → P (made c x a l d i m o v n)
perhaps_as P c ea el ex ed ei em eo ev en h = rw (ea, el, ex, ed, ei, em, eo, ev, en) h

-- As data the byte b leaves all as it is, where these are the cells.
pub record Quiet (p : Family) (b : ℕ) (c : Control) (row : List ℕ) : Type 0 where
  pub next : Written
  pub data_in : Writes (sizes p) b c next
  pub kept : (i k : ℕ) → held row i k ≡ seen 8 (loose next.change) i k (held row i k)
  pub pointed : points c.address ≡ join (points c.address) (points next.address)
  pub lit : (k : ℕ) → shown 4 c.led k ≡ join (shown 4 c.led k) (shown 4 next.led k)

-- Cells that agree with the byte of a change keep what they have.
pub met_kept : (row : List ℕ) (from : Address) (by n b : ℕ) → ((i k : ℕ) → held row i k ≡ met 8 b k (held row i k)) → (i k : ℕ) → held row i k ≡ seen 8 (Meet from by n b) i k (held row i k)
met_kept row from by n b h i k = go (among from.0 by n i)
  where
    go : (t : Bool) → held row i k ≡ whether t (met 8 b k (held row i k)) (held row i k)
    go true = h i k
    go false = refl

-- A mode command leaves mode and display.
abbrev pub StaysModed : Of.Standing → ℕ → Of.Standing → Type 0
StaysModed m n v = (m ≡ join m (known n)) × (v ≡ join v (display_in m n v))

pub same_mode : (n : ℕ) (m v : Of.Standing) → m ≡ known n → StaysModed m n v
same_mode n m v e = rw (e, eq-eqb n n refl) (sym (join_itself (known n)), sym (join_itself v))

pub any_mode : (n : ℕ) (m v : Of.Standing) → m ≡ unknown → v ≡ join v (known (shows Off)) → StaysModed m n v
any_mode n m v u e = rw u (join_not _ _ refl, sym (ap (join v) (sym e) ∙ join_itself v))

-- A fact of which that is known.
said : Of.Standing → Single ℕ
said (known v) = Known v
said unknown = Unknown

said_so : (t : Of.Standing) → stands (said t) ≡ t
unfolding said
said_so (known v) = refl
said_so unknown = refl

-- The byte b, at an unknown position, leaves all that is known as it is.
abbrev pub Unmoved : Family → ℕ → Control → List ℕ → Type 0
Unmoved p b c row = (f : Fact) → cview (held row) c f ≡ know same? (range (sizes p)) (look position (byte_in (sizes p) b)) (cview (held row) c) f

-- So it is where the command, too, leaves all that it would set.
module _ (p : Family) (b : ℕ) (c : Control) (row : List ℕ) (u : stands c.position ≡ unknown) (q : Quiet p b c row) where
  left : Step
  left = made c (loose q.next.change) c.address c.led c.«data» c.stepping c.mode c.dimming c.display c.count

  as_it_was : Steps (sizes p) (look position (byte_in (sizes p) b)) c left → Unmoved p b c row
  unfolding left
  as_it_was h =
      let e = h.knows (held row) in
      every _ (λ i k. q.kept i k ∙ e (cell i k)) (e address) (e data_mode) (e stepping) (e mode) (e dimming) (e display) (λ k. e (led k)) (λ i. e (key i)) (e switches) (e read_count) (e position)

  pub unmoved_mode : (n : ℕ) → Mode n ≡ command_of (sizes p) b → StaysModed (stands c.mode) n (stands c.display) → Unmoved p b c row
  unfolding left
  unmoved_mode n is h =
      let dark = display_in (stands c.mode) n (stands c.display) in
      as_it_was (perhaps_mode p b c u q.next q.data_in _ c.address c.led refl q.pointed q.lit n (said dark) c.mode c.display is (said_so dark) h.0 (h.1 ∙ ap (join (stands c.display)) (sym (said_so dark))))

  pub unmoved_control : (n : ℕ) (o : Display) → Controls n o ≡ command_of (sizes p) b → stands c.dimming ≡ join (stands c.dimming) (known n) → stands c.display ≡ join (stands c.display) (known (shows o))
      → Unmoved p b c row
  unfolding left
  unmoved_control n o is h v = as_it_was (perhaps_control p b c u q.next q.data_in _ c.address c.led refl q.pointed q.lit n o c.dimming c.display is h v)

  pub unmoved_start : (to : Pointer) → Start to ≡ command_of (sizes p) b → points c.address ≡ unknown → Unmoved p b c row
  unfolding left
  unmoved_start to is v = as_it_was (perhaps_start p b c u q.next q.data_in _ c.address c.led refl q.pointed q.lit to c.address is (v ∙ join_not _ _ v))
