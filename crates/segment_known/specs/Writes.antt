-- A data byte, by what is known of the data mode, the address and the stepping. The argument: where all three are known it goes its one way; an unknown stepping leaves
-- the address unknown, since the address behind a cell is another; in an unknown data mode the byte may have been stored, or gone to the LED, and there is
-- a mode in which it does nothing, so that each fact has in common with what it was what one of the two makes of it.
use Rattle.std.specs.Prelude.{ℕ, zero, suc, ◌+◌, ◌<◌, ◌≤◌, ◌≡◌, refl, ltb}
use Rattle.std.proofs.Common.{arith, sym, ap, ap₂, ◌∙◌, lt-ltb, le-ltb}
use Rattle.std.proofs.Math.Decide.{dec_lt}
use Rattle.rules.specs.Choice.{whether}
use Rattle.rules.specs.Rule.{Rule, look}
use Rattle.rules.specs.Change.{keep, set_bits}
use Rattle.knowing.specs.Standing as Of
use Rattle.knowing.specs.Standing.{known, unknown}
use Rattle.knowing.specs.Know.{lifted, learn, join, common, know}
use Rattle.knowing.specs.Join.{join_swap, join_itself, join_other, common_two, common_apart}
use Rattle.knowing.specs.Look.{look_unknown, know_same}
use Rattle.fact.specs.View.{stands}
use Rattle.fact.specs.declared.Single.{Single}
use Rattle.fact.specs.declared.Single.TheVariants.{Known}
use Rattle.segment.specs.declared.Pointer.{Pointer}
use Rattle.lamps.specs.View.{shown, told, met, OfByte, Puts, Meets}
use Rattle.lamps.specs.Lamp.{wide4, byte_none_past, byte_met_code}
use Rattle.changes.specs.declared.Change.{Change}
use Rattle.changes.specs.declared.Change.TheVariants.{Keep, Put, Meet}
use Rattle.changes.specs.Change.{seen, loose}
use Rattle.changes.specs.Laws.{put_told, met_told, loose_seen, loose_inside, bits_told, code_told}
use Rattle.terms.specs.declared.Address.{Address}
use Rattle.segment.specs.declared.Sizes.{Sizes}
use Rattle.segment.specs.declared.Family.{Family}
use Rattle.segment.specs.declared.Family.TheVariants.{Pt6312, Pt6315}
use Rattle.segment.specs.Value.{pointer}
use Rattle.segment.specs.Family.{sizes}
use Rattle.segment.specs.Fact.{Fact, same?, range, cell, address, data_mode, stepping, mode, dimming, display, led, key, switches, read_count, position}
use Rattle.segment.specs.Laws.{every, room, cells_apart, leds_apart}
use Rattle.segment.specs.Move.{nothing, lights, after, stored_at, stored, written}
use Rattle.segment_knowledge.specs.declared.Control.{Control}
use Rattle.segment_knowledge.specs.View.{points, cview}
use Rattle.segment_known.specs.declared.stored.Stored.{Stored}
use Rattle.segment_known.specs.declared.bytes.Written.{Written}
use Rattle.segment_steps.specs.declared.Step.{Step}
use Rattle.segment_steps.specs.Step.{sview, Steps}
use Rattle.segment_steps.specs.StepLaws.{as_steps, kept_steps}
use Rattle.segment_steps.specs.StepWays.{step_known}
use Rattle.segment_known.specs.Cells.{somewhere_steps}
use Rattle.segment_known.specs.Ways.{other_written}

-- The same with another address and another LED.
abbrev pub writing : Control → Single Pointer → ℕ → Control
writing c at light = record {
  address = at;
  «data» = c.«data»;
  stepping = c.stepping;
  mode = c.mode;
  dimming = c.dimming;
  display = c.display;
  led = light;
  keys = c.keys;
  switches = c.switches;
  count = c.count;
  position = c.position;
}

abbrev pub pointing : Control → Single Pointer → Control
pointing c at = writing c at c.led

-- What a data byte makes of the address and of the cells where it is stored, whatever else is known.
abbrev pub Stores : Sizes → ℕ → Single Pointer → Single ℕ → Stored → Type 0
Stores s b at step r = (c : Control) → points c.address ≡ points at → stands c.stepping ≡ stands step
    → Steps s (look address (stored s b)) c (record { control = pointing c r.address; change = r.change })

-- The same at another position.
abbrev pub placed : Control → Single ℕ → Control
placed c q = record {
  address = c.address;
  «data» = c.«data»;
  stepping = c.stepping;
  mode = c.mode;
  dimming = c.dimming;
  display = c.display;
  led = c.led;
  keys = c.keys;
  switches = c.switches;
  count = c.count;
  position = q;
}

-- What a data byte makes of the address, of the LED and of the cells, whatever is known of the position.
abbrev pub Writes : Sizes → ℕ → Control → Written → Type 0
Writes s b c r = (q : Single ℕ) → Steps s (look data_mode (written s b)) (placed c q) (record { control = writing (placed c q) r.address r.led; change = r.change })

-- The address behind a byte that is stored in cell i, by the stepping.
abbrev pub stepped_on : Sizes → ℕ → Of.Standing → Of.Standing
stepped_on s i (known zero) = known (pointer (after s i))
stepped_on s i (known (suc v)) = known (suc i)
stepped_on s i unknown = unknown

pub other_stepped : (s : Sizes) (i v : ℕ) → ¬ (v ≡ 0) → known (suc i) ≡ stepped_on s i (known v)
other_stepped s i zero d = absurd (d refl)
other_stepped s i (suc v) d = refl

pub past_cells : (s : Sizes) (b i : ℕ) → s.cells ≤ i → stored s b (suc i) ≡ nothing
past_cells s b i h = rw (le-ltb i s.cells h) refl

-- The LED with a byte put there, fact by fact, and where it may have been put.
pub lit_told : (c : Control) (b light : ℕ) → Puts 3855 b c.led light → (cells : ℕ → ℕ → Of.Standing) (f : Fact) → cview cells (writing c c.address light) f ≡ lifted (cview cells c) (lights b keep f)
unfolding set_bits
lit_told c b light h cells =
    every _ (λ i k. refl) refl refl refl refl refl refl (λ k. code_told same? led leds_apart (cview cells c) 4 3855 b c.led light k wide4 refl h) (λ i. refl) refl refl refl

-- A data byte that goes to the LED, nowhere, or to any cell.
pub writes_led : (s : Sizes) (c : Control) (b light : ℕ) → stands c.«data» ≡ known 1 → Puts 3855 b c.led light → Writes s b c (record { address = c.address; led = light; change = Keep })
writes_led s c b light w h q = step_known s data_mode (written s b) (placed c q) 1 (λ cells. w) (kept_steps s refl (lit_told (placed c q) b light h))

pub writes_none : (s : Sizes) (c : Control) (b m : ℕ) → stands c.«data» ≡ known m → ¬ (m ≡ 0) → ¬ (m ≡ 1) → Writes s b c (record { address = c.address; led = c.led; change = Keep })
writes_none s c b m w other more q = step_known s data_mode (written s b) (placed c q) m (λ cells. w) (as_steps s (other_written _ _ m other more) (kept_steps s refl (λ cells f. refl)))

pub writes_anywhere : (p : Family) (c : Control) (b : ℕ) → stands c.«data» ≡ known 0 → points c.address ≡ unknown
    → Writes (sizes p) b c (record { address = c.address; led = c.led; change = Meet (record { 0 = 0 }) 1 (sizes p).cells b })
writes_anywhere p c b w u q = step_known (sizes p) data_mode (written (sizes p) b) (placed c q) 0 (λ cells. w) (somewhere_steps p (placed c q) b u)

pub met_led : (b code old light : ℕ) → OfByte 4 b code → Meets 3855 code old light → (k : ℕ) → shown 4 light k ≡ met 4 b k (shown 4 old k)
met_led b code old light o h k = h 4 wide4 (byte_none_past 4 b code o) k ∙ byte_met_code 4 b code o k (shown 4 old k)

-- Each part has several cells, and several data modes.
several : (p : Family) → 2 ≤ (sizes p).cells
unfolding sizes
several Pt6312 = omega arith
several Pt6315 = omega arith

pub several_modes : (p : Family) → 3 ≤ range (sizes p) data_mode
unfolding sizes
several_modes Pt6312 = omega arith
several_modes Pt6315 = omega arith

-- The address behind a cell is not that cell's.
pub moves_on : (p : Family) (i : ℕ) → ¬ (pointer (after (sizes p) i) ≡ suc i)
moves_on p i e = go (dec_lt (i + 1) (sizes p).cells) e
  where
    go : Dec (i + 1 < (sizes p).cells) → suc (whether (ltb (i + 1) (sizes p).cells) (i + 1) 0) ≡ suc i → ⊥
    go (yes h) e = let z : suc (i + 1) ≡ suc i = rw (lt-ltb _ _ h) at e in omega (arith, z)
    go (no h) e = let z : suc 0 ≡ suc i = rw (le-ltb (i + 1) (sizes p).cells (omega (arith, h))) at e in omega (arith, z, h, several p)

-- A byte stored in a cell of the part.
pub stored_in : (p : Family) (c : Control) (to : Address) (b : ℕ) (next : Single Pointer) → to.0 < (sizes p).cells → points c.address ≡ known (suc to.0)
    → points next ≡ stepped_on (sizes p) to.0 (stands c.stepping) → Steps (sizes p) (look address (stored (sizes p) b)) c (record { control = pointing c next; change = Put to b })
unfolding set_bits common
stored_in p c to b next h a e =
    step_known s address (stored s b) c (suc to.0) (λ cells. a) (simp (lt-ltb to.0 s.cells h) (go (stands c.stepping) refl e))
  where
    s : Sizes
    s = sizes p

    inside : to.0 < 36
    inside = omega (arith, h, (room p).0)

    next_is : Step
    next_is = record { control = pointing c next; change = Put to b }

    put : (v : Fact → Of.Standing) (i k : ℕ) → seen 8 (Put to b) i k (v (cell i k)) ≡ lifted v (set_bits same? (cell to.0) 8 b keep (cell i k))
    put v i k = put_told same? cell cells_apart v 8 to.0 b i k

    go : (t : Of.Standing) → stands c.stepping ≡ t → points next ≡ stepped_on s to.0 t → Steps s (look stepping (stored_at s b to.0)) c next_is
    go (known zero) u e =
        step_known s stepping (stored_at s b to.0) c 0 (λ cells. u)
        (record { knows = λ cells. every _ (put (cview cells c)) e refl refl refl refl refl (λ k. refl) (λ j. refl) refl refl refl; inside = inside })
    go (known (suc v)) u e =
        step_known s stepping (stored_at s b to.0) c (suc v) (λ cells. u)
        (record { knows = λ cells. every _ (put (cview cells c)) (e ∙ sym a) refl refl refl refl refl (λ k. refl) (λ j. refl) refl refl refl; inside = inside })
    go unknown u e = record { knows = λ cells f. look_unknown same? (range s) stepping (stored_at s b to.0) (cview cells c) f (sview cells next_is f) u (each cells f); inside = inside }
      where
        each : (cells : ℕ → ℕ → Of.Standing) (f : Fact) → sview cells next_is f ≡ common 2 (λ (w : ℕ). know same? (range s) (stored_at s b to.0 w) (learn same? stepping w (cview cells c)) f)
        each cells =
            every (λ (f : Fact). sview cells next_is f ≡ join (know same? (range s) (stored_at s b to.0 0) (learn same? stepping 0 (cview cells c)) f) (know same? (range s) (stored_at s b to.0 1) (learn same? stepping 1 (cview cells c)) f))
            (λ i k. sym (join_itself _) ∙ ap₂ join (put (learn same? stepping 0 (cview cells c)) i k) (put (learn same? stepping 1 (cview cells c)) i k))
            (e ∙ join_other _ _ (pointer (after s to.0)) (suc to.0) refl a (moves_on p to.0))
            (sym (join_itself _)) (u ∙ join_other _ _ 0 1 refl refl (λ z. omega (arith, z))) (sym (join_itself _)) (sym (join_itself _)) (sym (join_itself _)) (λ k. sym (join_itself _)) (λ i. sym (join_itself _)) (sym (join_itself _)) (sym (join_itself _)) (sym (join_itself _))

-- An address that says the same.
pub pointed : (s : Sizes) {rule : Rule Fact Fact} {c : Control} {at : Single Pointer} {x : Change} → points at ≡ points c.address → Steps s rule c (record { control = c; change = x })
    → Steps s rule c (record { control = pointing c at; change = x })
pointed s e h = record {
  knows = λ cells.
      let k = h.knows cells in
      every _ (λ i k'. k (cell i k')) (e ∙ k address) (k data_mode) (k stepping) (k mode) (k dimming) (k display) (λ i. k (led i)) (λ i. k (key i)) (k switches) (k read_count) (k position);
  inside = h.inside;
}

-- A byte that is not stored, since the address is not that of a cell.
pub stored_nowhere : (s : Sizes) (c : Control) (b v : ℕ) (at : Single Pointer) → points c.address ≡ points at → points at ≡ known v → stored s b v ≡ nothing
    → Steps s (look address (stored s b)) c (record { control = pointing c at; change = Keep })
stored_nowhere s c b v at e a n = pointed s (sym e) (step_known s address (stored s b) c v (λ cells. e ∙ a) (as_steps s n (kept_steps s refl (λ cells f. refl))))

-- The data mode is unknown.
pub perhaps_written : (p : Family) (c : Control) (b : ℕ) (at : Stored) (next : Single Pointer) (light : ℕ) → Stores (sizes p) b c.address c.stepping at → stands c.«data» ≡ unknown
    → points next ≡ join (points at.address) (points c.address) → ((k : ℕ) → shown 4 light k ≡ met 4 b k (shown 4 c.led k))
    → Steps (sizes p) (look data_mode (written (sizes p) b)) c (record { control = writing c next light; change = loose at.change })
unfolding set_bits
perhaps_written p c b at next light h u e l = record {
  knows = λ cells f. look_unknown same? (range s) data_mode (written s b) (cview cells c) f (sview cells r f) u (each cells f);
  inside = loose_inside 36 at.change (h c refl refl).inside;
}
  where
    s : Sizes
    s = sizes p

    r : Step
    r = record { control = writing c next light; change = loose at.change }

    -- Write display.
    writes : Control
    writes = record {
      address = c.address;
      «data» = Known 0;
      stepping = c.stepping;
      mode = c.mode;
      dimming = c.dimming;
      display = c.display;
      led = c.led;
      keys = c.keys;
      switches = c.switches;
      count = c.count;
      position = c.position;
    }

    modes : 3 ≤ range s data_mode
    modes = several_modes p

    way : (ℕ → ℕ → Of.Standing) → Fact → ℕ → Of.Standing
    way cells f w = know same? (range s) (written s b w) (learn same? data_mode w (cview cells c)) f

    first : (cells : ℕ → ℕ → Of.Standing) (f : Fact) → sview cells (record { control = pointing writes at.address; change = at.change }) f ≡ way cells f 0
    first cells f =
        (h writes refl refl).knows cells f
        ∙ know_same same? (range s) (look address (stored s b)) (cview cells writes) (learn same? data_mode 0 (cview cells c))
        (every _ (λ i k. refl) refl refl refl refl refl refl (λ k. refl) (λ i. refl) refl refl refl) f

    -- What only write display changes.
    written_only : (cells : ℕ → ℕ → Of.Standing) (f : Fact) (t : Of.Standing) → ((w : ℕ) → way cells f (suc w) ≡ t)
        → join (sview cells (record { control = pointing writes at.address; change = at.change }) f) t ≡ common (range s data_mode) (way cells f)
    written_only cells f t o = sym (common_two (range s data_mode) (way cells f) _ t 0 1 (omega (arith, modes)) (omega (arith, modes)) (λ z. omega (arith, z)) (sym (first cells f)) other)
      where
        other : (w : ℕ) → w < range s data_mode → ¬ (w ≡ 0) → way cells f w ≡ t
        other zero g d = absurd (d refl)
        other (suc w) g d = o w

    -- What none of the modes changes.
    unwritten : (cells : ℕ → ℕ → Of.Standing) (f : Fact) (t : Of.Standing) → sview cells (record { control = pointing writes at.address; change = at.change }) f ≡ t
        → ((w : ℕ) → way cells f (suc w) ≡ t) → t ≡ common (range s data_mode) (way cells f)
    unwritten cells f t z o = sym (join_itself t) ∙ ap (λ x. join x t) (sym z) ∙ written_only cells f t o

    lit : (cells : ℕ → ℕ → Of.Standing) (k : ℕ) → shown 4 light k ≡ common (range s data_mode) (way cells (led k))
    lit cells k =
        l k ∙ met_told 4 b k (shown 4 c.led k) ∙ join_swap (shown 4 c.led k) (told 4 b k (shown 4 c.led k))
        ∙ sym (common_two (range s data_mode) (way cells (led k)) _ (shown 4 c.led k) 1 0 (omega (arith, modes)) (omega (arith, modes)) (λ z. omega (arith, z)) (sym (bits_told same? led leds_apart (learn same? data_mode 1 (cview cells c)) 4 b k)) other)
      where
        other : (w : ℕ) → w < range s data_mode → ¬ (w ≡ 1) → way cells (led k) w ≡ shown 4 c.led k
        other zero g d = sym (first cells (led k))
        other (suc zero) g d = absurd (d refl)
        other (suc (suc zero)) g d = refl
        other (suc (suc (suc w))) g d = refl

    after_one : (cells : ℕ → ℕ → Of.Standing) (f : Fact) → way cells f 1 ≡ cview cells c f → ((w : ℕ) → learn same? data_mode (suc (suc w)) (cview cells c) f ≡ cview cells c f) → (w : ℕ) → way cells f (suc w) ≡ cview cells c f
    after_one cells f one more zero = one
    after_one cells f one more (suc zero) = more 0
    after_one cells f one more (suc (suc w)) = more (suc w)

    same : (cells : ℕ → ℕ → Of.Standing) (f : Fact) → sview cells (record { control = pointing writes at.address; change = at.change }) f ≡ cview cells c f → way cells f 1 ≡ cview cells c f
        → ((w : ℕ) → learn same? data_mode (suc (suc w)) (cview cells c) f ≡ cview cells c f) → cview cells c f ≡ common (range s data_mode) (way cells f)
    same cells f z one more = unwritten cells f (cview cells c f) z (after_one cells f one more)

    each : (cells : ℕ → ℕ → Of.Standing) (f : Fact) → sview cells r f ≡ common (range s data_mode) (way cells f)
    each cells =
        every (λ (f : Fact). sview cells r f ≡ common (range s data_mode) (way cells f))
        (λ i k. loose_seen 8 at.change i k (cells i k) ∙ join_swap _ _ ∙ written_only cells (cell i k) (cells i k) (after_one cells (cell i k) refl (λ w. refl)))
        (e ∙ written_only cells address (points c.address) (after_one cells address refl (λ w. refl)))
        (u ∙ sym (common_apart (range s data_mode) (way cells data_mode) 0 1 0 1 (omega (arith, modes)) (omega (arith, modes)) (λ z. omega (arith, z)) (sym (first cells data_mode)) refl))
        (same cells stepping refl refl (λ w. refl)) (same cells mode refl refl (λ w. refl)) (same cells dimming refl refl (λ w. refl)) (same cells display refl refl (λ w. refl))
        (lit cells) (λ i. same cells (key i) refl refl (λ w. refl)) (same cells switches refl refl (λ w. refl)) (same cells read_count refl refl (λ w. refl)) (same cells position refl refl (λ w. refl))
