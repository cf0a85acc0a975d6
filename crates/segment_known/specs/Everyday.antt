-- Bytes clocked in, by where they go, one behind the other: what each run of them makes of a knowledge.
use Rattle.std.specs.Prelude.{ℕ, zero, suc, ◌+◌, ◌<◌, ◌≤◌, ◌≡◌, refl, Bool, true, false, ltb}
use Rattle.std.proofs.Common.{arith, sym, ap, ◌∙◌, lt-ltb, le-ltb}
use Rattle.std.proofs.Math.Path.{subst⁻¹}
use Rattle.rules.specs.Choice.{whether}
use Rattle.rules.specs.Change.{keep}
use Rattle.rules.specs.Rule.{gives, look}
use Rattle.knowing.specs.Standing.{Standing, known, unknown}
use Rattle.knowing.specs.Know.{join, know}
use Rattle.knowing.specs.Join.{join_itself, join_other, join_not}
use Rattle.knowing.specs.Lost.{look_lost, know_leaves}
use Rattle.rules.specs.Touch.{Leaves}
use Rattle.fact.specs.View.{stands}
use Rattle.lamps.specs.View.{shown, met, OfByte, Meets}
use Rattle.changes.specs.declared.Change.{Change}
use Rattle.changes.specs.declared.Change.TheVariants.{Keep, Put, Meet}
use Rattle.changes.specs.Change.{among, seen, stored_run, met_run}
use Rattle.terms.specs.declared.Address.{Address}
use Rattle.terms.specs.declared.Event.TheVariants.{ByteIn}
use Rattle.segment.specs.declared.Sizes.{Sizes}
use Rattle.segment.specs.declared.Family.{Family}
use Rattle.segment.specs.declared.Position.TheVariants.{First, Open}
use Rattle.segment.specs.declared.Data.TheVariants.{WriteDisplay, WriteLed}
use Rattle.segment.specs.declared.Stepping.TheVariants.{Increment}
use Rattle.segment.specs.Value.{pointer, at_position, data_mode_of, steps}
use Rattle.segment.specs.Family.{sizes}
use Rattle.segment.specs.Fact.{Fact, same?, range, cell, address, data_mode, stepping, mode, dimming, display, led, key, switches, read_count, position}
use Rattle.segment.specs.Laws.{every}
use Rattle.segment.specs.Range.{two}
use Rattle.segment.specs.Touch.{byte_in_leaves_inputs}
use Rattle.segment.specs.Move.{after, lights, stored, written, byte_in, move}
use Rattle.segment_knowledge.specs.declared.Control.{Control}
use Rattle.fact.specs.declared.Single.{Single}
use Rattle.fact.specs.declared.Single.TheVariants.{Known, Unknown}
use Rattle.segment.specs.declared.Pointer.{Pointer}
use Rattle.segment.specs.declared.Pointer.TheVariants.{At}
use Rattle.segment_knowledge.specs.View.{points, cview}
use Rattle.segment_known.specs.declared.everyday.Target.{Target}
use Rattle.segment_known.specs.declared.everyday.Target.TheVariants.{Cell, Anywhere, Perhaps, PerhapsCell, PerhapsLed, Nowhere, Led, Elsewhere}
use Rattle.segment_known.specs.Cells.{somewhere_steps}
use Rattle.segment_known.specs.Writes.{writing, pointing, stepped_on, moves_on, stored_in, stored_nowhere, perhaps_written, met_led}
use Rattle.segment_known.specs.Ways.{other_in, other_written}
use Rattle.segment_steps.specs.Step.{Steps, Keeps, kept_of}
use Rattle.segment_steps.specs.StepLaws.{as_steps, kept_steps}
use Rattle.segment_steps.specs.StepWays.{step_known}

-- Open, write display, increment, and the address is a cell of the part.
pub record Counting (s : Sizes) (c : Control) (n : ℕ) : Type 0 where
  pub opened : stands c.position ≡ known (at_position Open)
  pub writing : stands c.«data» ≡ known (data_mode_of WriteDisplay)
  pub stepping : stands c.stepping ≡ known (steps Increment)
  pub address : points c.address ≡ known (suc n)
  pub inside : n < s.cells

-- Open, write display, and the address unknown.
pub record Roaming (c : Control) : Type 0 where
  pub opened : stands c.position ≡ known (at_position Open)
  pub writing : stands c.«data» ≡ known (data_mode_of WriteDisplay)
  pub address : points c.address ≡ unknown

-- Open, the data mode unknown, and that known of the address.
pub record Drifting (c : Control) (at : Standing) : Type 0 where
  pub opened : stands c.position ≡ known (at_position Open)
  pub writing : stands c.«data» ≡ unknown
  pub address : points c.address ≡ at

-- Open, and write LED.
pub record Lighting (c : Control) : Type 0 where
  pub opened : stands c.position ≡ known (at_position Open)
  pub writing : stands c.«data» ≡ known (data_mode_of WriteLed)

-- No byte clocked in changes what is known.
abbrev pub Deaf : Sizes → Control → Type 0
Deaf s c = (b : ℕ) → Steps s (move s (ByteIn b)) c (kept_of c)

-- What a target says of the control.
abbrev pub Hits : Sizes → Control → Target → Type 0
Hits s c (Cell a) = Counting s c a.0
Hits s c Anywhere = Roaming c
Hits s c Perhaps = Drifting c unknown
Hits s c (PerhapsCell a) = Drifting c (known (suc a.0)) × (a.0 < s.cells)
Hits s c PerhapsLed = Drifting c (known 0)
Hits s c Nowhere = Deaf s c
Hits s c Led = Lighting c
Hits s c Elsewhere = Unit

-- The same in write display, of the address and of whether the stepping is known to be increment; and in an unknown data mode, of the address.
abbrev pub HitsAt : Sizes → Standing → Bool → Target → Type 0
HitsAt s at counting (Cell a) = (counting ≡ true) × ((at ≡ known (suc a.0)) × (a.0 < s.cells))
HitsAt s at counting Anywhere = at ≡ unknown
HitsAt s at counting Perhaps = ⊥
HitsAt s at counting (PerhapsCell a) = ⊥
HitsAt s at counting PerhapsLed = ⊥
HitsAt s at counting Nowhere = at ≡ known 0
HitsAt s at counting Led = ⊥
HitsAt s at counting Elsewhere = Unit

abbrev pub PerhapsAt : Sizes → Standing → Target → Type 0
PerhapsAt s at (Cell a) = ⊥
PerhapsAt s at Anywhere = ⊥
PerhapsAt s at Perhaps = at ≡ unknown
PerhapsAt s at (PerhapsCell a) = (at ≡ known (suc a.0)) × (a.0 < s.cells)
PerhapsAt s at PerhapsLed = at ≡ known 0
PerhapsAt s at Nowhere = ⊥
PerhapsAt s at Led = ⊥
PerhapsAt s at Elsewhere = Unit

-- A byte while the strobe is open goes by the data mode.
data_step : (p : Family) (c : Control) (b : ℕ) {at : Single Pointer} {light : ℕ} {x : Change} → stands c.position ≡ known (at_position Open)
    → Steps (sizes p) (look data_mode (written (sizes p) b)) c (record { control = writing c at light; change = x })
    → Steps (sizes p) (move (sizes p) (ByteIn b)) c (record { control = writing c at light; change = x })
data_step p c b o h = step_known (sizes p) position (byte_in (sizes p) b) c 2 (λ cells. o) h

-- Write LED.
pub lights_in : (p : Family) (c r : Control) (b : ℕ) → Lighting c → Keeps (sizes p) (gives (lights b keep)) c r → Steps (sizes p) (move (sizes p) (ByteIn b)) c (kept_of r)
lights_in p c r b h k =
    step_known (sizes p) position (byte_in (sizes p) b) c 2 (λ cells. h.opened)
    (step_known (sizes p) data_mode (written (sizes p) b) c 1 (λ cells. h.writing) (kept_steps (sizes p) refl k))

-- The LED where what a code says may have gone there.
pub record PerhapsLit (code : ℕ) (c r : Control) : Type 0 where
  pub others : r ≡ writing c c.address r.led
  pub lit : Meets 3855 code c.led r.led

-- The address is invalid: the byte may have gone to the LED.
pub drifts_lit : (p : Family) (c r : Control) (b code : ℕ) → Drifting c (known 0) → OfByte 4 b code → PerhapsLit code c r → Steps (sizes p) (move (sizes p) (ByteIn b)) c (kept_of r)
drifts_lit p c r b code h o l =
    subst⁻¹ (λ (x : Control). Steps (sizes p) (move (sizes p) (ByteIn b)) c (kept_of x)) l.others
    (data_step p c b h.opened
    (perhaps_written p c b (record { address = c.address; change = Keep }) c.address r.led
    (λ d e i. stored_nowhere (sizes p) d b 0 c.address e h.address refl) h.writing (sym (join_itself (points c.address))) (met_led b code c.led r.led o l.lit)))

-- The address where it was that of cell i, and the byte may have gone there.
abbrev pub perhaps_on : ℕ → Standing → Standing
perhaps_on i (known zero) = unknown
perhaps_on i (known (suc v)) = known (suc i)
perhaps_on i unknown = unknown

pub other_perhaps : (i v : ℕ) → ¬ (v ≡ 0) → known (suc i) ≡ perhaps_on i (known v)
other_perhaps i zero d = absurd (d refl)
other_perhaps i (suc v) d = refl

pub record PerhapsStepped (i : ℕ) (c r : Control) : Type 0 where
  pub others : r ≡ pointing c r.address
  pub address : points r.address ≡ perhaps_on i (stands c.stepping)

-- The byte may have gone to that cell, to the LED or nowhere.
pub drifts_at : (p : Family) (c l r : Control) (b code : ℕ) (to : Address) → Drifting c (known (suc to.0)) → to.0 < (sizes p).cells → OfByte 4 b code → PerhapsLit code c l → PerhapsStepped to.0 l r
    → Steps (sizes p) (move (sizes p) (ByteIn b)) c (record { control = r; change = Meet to 1 1 b })
drifts_at p c l r b code to h inside o lit step =
    subst⁻¹ (λ (x : Control). Steps (sizes p) (move (sizes p) (ByteIn b)) c (record { control = x; change = Meet to 1 1 b })) (step.others ∙ ap (λ (x : Control). pointing x r.address) lit.others)
    (data_step p c b h.opened (go (stands c.stepping) refl (step.address ∙ ap (λ (x : Control). perhaps_on to.0 (stands x.stepping)) lit.others)))
  where
    s : Sizes
    s = sizes p

    through : (next : Single Pointer) → points next ≡ stepped_on s to.0 (stands c.stepping) → points r.address ≡ join (points next) (points c.address)
        → Steps s (look data_mode (written s b)) c (record { control = writing c r.address l.led; change = Meet to 1 1 b })
    through next e j =
        perhaps_written p c b (record { address = next; change = Put to b }) r.address l.led
        (λ d a i. stored_in p d to b next inside (a ∙ h.address) (e ∙ ap (stepped_on s to.0) (sym i))) h.writing j (met_led b code c.led l.led o lit.lit)

    go : (t : Standing) → stands c.stepping ≡ t → points r.address ≡ perhaps_on to.0 (stands c.stepping) → Steps s (look data_mode (written s b)) c (record { control = writing c r.address l.led; change = Meet to 1 1 b })
    go (known zero) u a =
        through (Known (At (record { 0 = whether (ltb (to.0 + 1) s.cells) (to.0 + 1) 0 }))) (rw u refl) ((rw u at a) ∙ join_other _ _ _ _ refl h.address (moves_on p to.0))
    go (known (suc v)) u a = through (Known (At to)) (rw u refl) ((rw u at a) ∙ sym (join_itself _) ∙ ap (join (known (suc to.0))) (sym h.address))
    go unknown u a = through Unknown (rw u refl) ((rw u at a) ∙ join_not unknown _ refl)

module _ (p : Family) (c : Control) where
  -- Neither first byte nor open.
  pub shut_deaf : (place : ℕ) → stands c.position ≡ known place → ¬ (place ≡ at_position First) → ¬ (place ≡ at_position Open) → Deaf (sizes p) c
  shut_deaf place there other more b =
      step_known (sizes p) position (byte_in (sizes p) b) c place (λ cells. there) (as_steps (sizes p) (other_in _ _ place other more) (kept_steps (sizes p) refl (λ cells f. refl)))

  -- Open, and neither write display nor write LED.
  pub reading_deaf : (m : ℕ) → stands c.position ≡ known (at_position Open) → stands c.«data» ≡ known m → ¬ (m ≡ 0) → ¬ (m ≡ 1) → Deaf (sizes p) c
  reading_deaf m o w other more b =
      step_known (sizes p) position (byte_in (sizes p) b) c 2 (λ cells. o)
      (step_known (sizes p) data_mode (written (sizes p) b) c m (λ cells. w) (as_steps (sizes p) (other_written _ _ m other more) (kept_steps (sizes p) refl (λ cells f. refl))))

  -- Open, write display, and the address invalid.
  invalid_deaf : stands c.position ≡ known (at_position Open) → stands c.«data» ≡ known 0 → points c.address ≡ known 0 → Deaf (sizes p) c
  invalid_deaf o w a b =
      step_known (sizes p) position (byte_in (sizes p) b) c 2 (λ cells. o)
      (step_known (sizes p) data_mode (written (sizes p) b) c 0 (λ cells. w) (step_known (sizes p) address (stored (sizes p) b) c 0 (λ cells. a) (kept_steps (sizes p) refl (λ cells f. refl))))

  pub hits_at : (counting : Bool) (r : Target) → stands c.position ≡ known (at_position Open) → stands c.«data» ≡ known (data_mode_of WriteDisplay)
      → (counting ≡ true → stands c.stepping ≡ known (steps Increment)) → HitsAt (sizes p) (points c.address) counting r → Hits (sizes p) c r
  hits_at counting (Cell a) o w i h = record { opened = o; writing = w; stepping = i h.0; address = h.1.0; inside = h.1.1 }
  hits_at counting Anywhere o w i h = record { opened = o; writing = w; address = h }
  hits_at counting Perhaps o w i h = absurd h
  hits_at counting (PerhapsCell a) o w i h = absurd h
  hits_at counting PerhapsLed o w i h = absurd h
  hits_at counting Nowhere o w i h = invalid_deaf o w h
  hits_at counting Led o w i h = absurd h
  hits_at counting Elsewhere o w i h = tt

  pub perhaps_at : (r : Target) → stands c.position ≡ known (at_position Open) → stands c.«data» ≡ unknown → PerhapsAt (sizes p) (points c.address) r → Hits (sizes p) c r
  perhaps_at (Cell a) o w h = absurd h
  perhaps_at Anywhere o w h = absurd h
  perhaps_at Perhaps o w h = record { opened = o; writing = w; address = h }
  perhaps_at (PerhapsCell a) o w h = (record { opened = o; writing = w; address = h.0 }, h.1)
  perhaps_at PerhapsLed o w h = record { opened = o; writing = w; address = h }
  perhaps_at Nowhere o w h = absurd h
  perhaps_at Led o w h = absurd h
  perhaps_at Elsewhere o w h = tt

-- The address of cell a, and 00H behind the last.
abbrev pub ring : Sizes → ℕ → Single Pointer
ring s a = Known (At (record { 0 = whether (ltb a s.cells) a 0 }))

pub ring_within : (s : Sizes) (a : ℕ) → a < s.cells → Known (At (record { 0 = a })) ≡ ring s a
ring_within s a h = rw (lt-ltb a s.cells h) refl

pub ring_round : (s : Sizes) (a : ℕ) → s.cells ≤ a → Known (At (record { 0 = 0 })) ≡ ring s a
ring_round s a h = rw (le-ltb a s.cells h) refl

-- Bytes are stored one behind the other from a cell on, and not past the last one.
module _ (p : Family) (c : Control) (from n : ℕ) (b : ℕ → ℕ) (m : ℕ → ℕ → Standing) (h : Counting (sizes p) c from) (end : from + n ≤ (sizes p).cells) where
  abbrev pub counted_known : ℕ → Fact → Standing
  counted_known j = cview (stored_run 8 from b j m) (pointing c (ring (sizes p) (from + j)))

  pub counted_first : (f : Fact) → cview m c f ≡ counted_known 0 f
  counted_first =
      let z : from + 0 ≡ from = omega arith in
      every _ (λ i k. refl) (rw (z, lt-ltb from (sizes p).cells h.inside) h.address) refl refl refl refl refl (λ k. refl) (λ i. refl) refl refl refl

  pub counted_each : (j : ℕ) → j < n → (f : Fact) → counted_known (suc j) f ≡ know same? (range (sizes p)) (move (sizes p) (ByteIn (b j))) (counted_known j) f
  counted_each j o =
      let l : from + j < (sizes p).cells = omega (arith, o, end) in
      let z : from + suc j ≡ from + j + 1 = omega arith in
      let now = pointing c (ring (sizes p) (from + j)) in
      let there : points now.address ≡ known (suc (from + j)) = rw (lt-ltb (from + j) (sizes p).cells l) refl in
      let to : Address = record { 0 = from + j } in
      let next : points (ring (sizes p) (from + suc j)) ≡ known (pointer (after (sizes p) (from + j))) = rw z refl in
      (step_known (sizes p) position (byte_in (sizes p) (b j)) now 2 (λ cells. h.opened)
      (step_known (sizes p) data_mode (written (sizes p) (b j)) now 0 (λ cells. h.writing) (stored_in p now to (b j) (ring (sizes p) (from + suc j)) l there (rw h.stepping next)))).knows (stored_run 8 from b j m)

-- Each of n bytes may have gone to any cell.
module _ (p : Family) (c : Control) (b : ℕ → ℕ) (m : ℕ → ℕ → Standing) (h : Roaming c) where
  abbrev pub roamed_known : ℕ → Fact → Standing
  roamed_known j = cview (λ i k. whether (among 0 1 (sizes p).cells i) (met_run 8 b j k (m i k)) (m i k)) c

  pub roamed_first : (f : Fact) → cview m c f ≡ roamed_known 0 f
  roamed_first = every _ (λ i k. go (among 0 1 (sizes p).cells i) (m i k)) refl refl refl refl refl refl (λ k. refl) (λ i. refl) refl refl refl
    where
      go : (t : Bool) (s : Standing) → s ≡ whether t s s
      go true s = refl
      go false s = refl

  pub roamed_each : (j : ℕ) (f : Fact) → roamed_known (suc j) f ≡ know same? (range (sizes p)) (move (sizes p) (ByteIn (b j))) (roamed_known j) f
  roamed_each j f = again f ∙ step.knows (λ i k. whether (among 0 1 (sizes p).cells i) (met_run 8 b j k (m i k)) (m i k)) f
    where
      step : Steps (sizes p) (move (sizes p) (ByteIn (b j))) c (record { control = c; change = Meet (record { 0 = 0 }) 1 (sizes p).cells (b j) })
      step =
          step_known (sizes p) position (byte_in (sizes p) (b j)) c 2 (λ cells. h.opened)
          (step_known (sizes p) data_mode (written (sizes p) (b j)) c 0 (λ cells. h.writing) (somewhere_steps p c (b j) h.address))

      go : (t : Bool) (f : Standing → Standing) (x y : Standing) → whether t (f x) y ≡ whether t (f (whether t x y)) (whether t x y)
      go true f x y = refl
      go false f x y = refl

      again : (f : Fact) → roamed_known (suc j) f ≡ cview (λ i k. seen 8 (Meet (record { 0 = 0 }) 1 (sizes p).cells (b j)) i k (whether (among 0 1 (sizes p).cells i) (met_run 8 b j k (m i k)) (m i k))) c f
      again = every _ (λ i k. go (among 0 1 (sizes p).cells i) (met 8 (b j) k) (met_run 8 b j k (m i k)) (m i k)) refl refl refl refl refl refl (λ k. refl) (λ i. refl) refl refl refl

-- Nothing is known of what a byte clocked in could change, but for the cells.
pub record Lost (c : Control) : Type 0 where
  pub addressed : points c.address ≡ unknown
  pub writing : stands c.«data» ≡ unknown
  pub stepped : stands c.stepping ≡ unknown
  pub moded : stands c.mode ≡ unknown
  pub dimmed : stands c.dimming ≡ unknown
  pub displayed : stands c.display ≡ unknown
  pub lit : (k : ℕ) → shown 4 c.led k ≡ unknown
  pub counted : stands c.count ≡ unknown
  pub placed : stands c.position ≡ unknown

-- Then it changes nothing that is known: it may have come while idle, or while ignoring.
pub lost_deaf : (p : Family) (c : Control) (m : ℕ → ℕ → Standing) → Lost c → ((i k : ℕ) → m i k ≡ unknown) → (b : ℕ) (f : Fact) → cview m c f ≡ know same? (range (sizes p)) (move (sizes p) (ByteIn b)) (cview m c) f
lost_deaf p c m l none b =
    every _ (λ i k. gone (cell i k) (none i k)) (gone address l.addressed) (gone data_mode l.writing) (gone stepping l.stepped) (gone mode l.moded) (gone dimming l.dimmed) (gone display l.displayed) (λ k. gone (led k) (l.lit k))
    (λ i. left (key i) ((byte_in_leaves_inputs (sizes p) b).0 i)) (left switches (byte_in_leaves_inputs (sizes p) b).1) (gone read_count l.counted) (gone position l.placed)
  where
    gone : (f : Fact) → cview m c f ≡ unknown → cview m c f ≡ know same? (range (sizes p)) (move (sizes p) (ByteIn b)) (cview m c) f
    gone f u = look_lost same? (range (sizes p)) position (byte_in (sizes p) b) 0 3 (omega arith) (omega arith) (λ e. omega (arith, e)) refl refl (cview m c) l.placed f u

    left : (f : Fact) → Leaves f (move (sizes p) (ByteIn b)) → cview m c f ≡ know same? (range (sizes p)) (move (sizes p) (ByteIn b)) (cview m c) f
    left f h = know_leaves same? (range (sizes p)) (two p) f (move (sizes p) (ByteIn b)) (cview m c) h
