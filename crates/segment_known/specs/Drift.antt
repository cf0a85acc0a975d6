-- A run of bytes while the strobe is open, with both the data mode and the address unknown: each may have gone to any cell, or to the LED, or nowhere. The argument: there is a data
-- mode in which a byte does nothing, so that cells and LED have in common with each byte what they had, and nothing else changes; and then the next byte finds what this one found.
use Rattle.std.specs.Prelude.{ℕ, zero, suc, ◌<◌, ◌≤◌, ◌≡◌, refl, Bool, true, false}
use Rattle.std.proofs.Common.{arith, sym, ap, ◌∙◌}
use Rattle.rules.specs.Choice.{whether}
use Rattle.rules.specs.Change.{set_bits}
use Rattle.terms.specs.declared.Event.TheVariants.{ByteIn}
use Rattle.knowing.specs.Standing.{Standing, known, unknown}
use Rattle.knowing.specs.Know.{learn, join, common, know}
use Rattle.knowing.specs.Join.{join_swap, join_itself, common_two, common_apart}
use Rattle.knowing.specs.Look.{look_known, look_unknown}
use Rattle.lamps.specs.View.{told, met}
use Rattle.changes.specs.declared.Change.TheVariants.{Meet}
use Rattle.changes.specs.Change.{among, seen, met_run}
use Rattle.changes.specs.Laws.{met_told, loose_seen, bits_told}
use Rattle.segment.specs.declared.Sizes.{Sizes}
use Rattle.segment.specs.declared.Family.{Family}
use Rattle.segment.specs.declared.Position.TheVariants.{Open}
use Rattle.segment.specs.Value.{at_position}
use Rattle.segment.specs.Family.{sizes}
use Rattle.segment.specs.Fact.{Fact, same?, range, cell, address, data_mode, stepping, mode, dimming, display, led, key, switches, read_count, position}
use Rattle.segment.specs.Laws.{every, leds_apart}
use Rattle.segment.specs.Range.{proper}
use Rattle.segment.specs.Move.{written, byte_in, move}
use Rattle.segment_known.specs.Cells.{roams, somewhere}
use Rattle.segment_known.specs.Writes.{several_modes}

-- What is left of a knowledge then.
abbrev pub drifts_to : Sizes → ℕ → (Fact → Standing) → Fact → Standing
drifts_to s b v (cell i k) = seen 8 (Meet (record { 0 = 0 }) 1 s.cells b) i k (v (cell i k))
drifts_to s b v address = v address
drifts_to s b v data_mode = v data_mode
drifts_to s b v stepping = v stepping
drifts_to s b v mode = v mode
drifts_to s b v dimming = v dimming
drifts_to s b v display = v display
drifts_to s b v (led k) = met 4 b k (v (led k))
drifts_to s b v (key i) = v (key i)
drifts_to s b v switches = v switches
drifts_to s b v read_count = v read_count
drifts_to s b v position = v position

-- Open, and both unknown.
pub record Adrift (v : Fact → Standing) : Type 0 where
  pub opened : v position ≡ known (at_position Open)
  pub writing : v data_mode ≡ unknown
  pub pointed : v address ≡ unknown

pub drift : (p : Family) (b : ℕ) (v : Fact → Standing) → Adrift v → (f : Fact) → drifts_to (sizes p) b v f ≡ know same? (range (sizes p)) (move (sizes p) (ByteIn b)) v f
unfolding set_bits
drift p b v h f =
    look_known same? (range s) position (byte_in s b) v f 2 (drifts_to s b v f) h.opened
    (look_unknown same? (range s) data_mode (written s b) v f (drifts_to s b v f) h.writing (each f))
  where
    s : Sizes
    s = sizes p

    modes : 3 ≤ range s data_mode
    modes = several_modes p

    way : Fact → ℕ → Standing
    way f w = know same? (range s) (written s b w) (learn same? data_mode w v) f

    first : (f : Fact) → roams s b (learn same? data_mode 0 v) f ≡ way f 0
    first f = somewhere s b (learn same? data_mode 0 v) (proper p).some h.pointed f

    -- What only write display changes.
    written_only : (f : Fact) (t : Standing) → ((w : ℕ) → way f (suc w) ≡ t) → join (roams s b (learn same? data_mode 0 v) f) t ≡ common (range s data_mode) (way f)
    written_only f t o = sym (common_two (range s data_mode) (way f) _ t 0 1 (omega (arith, modes)) (omega (arith, modes)) (λ z. omega (arith, z)) (sym (first f)) other)
      where
        other : (w : ℕ) → w < range s data_mode → ¬ (w ≡ 0) → way f w ≡ t
        other zero g d = absurd (d refl)
        other (suc w) g d = o w

    later : (f : Fact) → way f 1 ≡ v f → ((w : ℕ) → learn same? data_mode (suc (suc w)) v f ≡ v f) → (w : ℕ) → way f (suc w) ≡ v f
    later f one more zero = one
    later f one more (suc zero) = more 0
    later f one more (suc (suc w)) = more (suc w)

    -- What none of the modes changes.
    same : (f : Fact) → roams s b (learn same? data_mode 0 v) f ≡ v f → way f 1 ≡ v f → ((w : ℕ) → learn same? data_mode (suc (suc w)) v f ≡ v f) → v f ≡ common (range s data_mode) (way f)
    same f z one more = sym (join_itself (v f)) ∙ ap (λ (x : Standing). join x (v f)) (sym z) ∙ written_only f (v f) (later f one more)

    lit : (k : ℕ) → met 4 b k (v (led k)) ≡ common (range s data_mode) (way (led k))
    lit k =
        met_told 4 b k (v (led k)) ∙ join_swap (v (led k)) (told 4 b k (v (led k)))
        ∙ sym (common_two (range s data_mode) (way (led k)) _ (v (led k)) 1 0 (omega (arith, modes)) (omega (arith, modes)) (λ z. omega (arith, z)) (sym (bits_told same? led leds_apart (learn same? data_mode 1 v) 4 b k)) other)
      where
        other : (w : ℕ) → w < range s data_mode → ¬ (w ≡ 1) → way (led k) w ≡ v (led k)
        other zero g d = sym (first (led k))
        other (suc zero) g d = absurd (d refl)
        other (suc (suc zero)) g d = refl
        other (suc (suc (suc w))) g d = refl

    each : (f : Fact) → drifts_to s b v f ≡ common (range s data_mode) (way f)
    each =
        every (λ (f : Fact). drifts_to s b v f ≡ common (range s data_mode) (way f))
        (λ i k. loose_seen 8 (Meet (record { 0 = 0 }) 1 s.cells b) i k (v (cell i k)) ∙ join_swap _ _ ∙ written_only (cell i k) (v (cell i k)) (later (cell i k) refl (λ w. refl)))
        (same address refl refl (λ w. refl))
        (h.writing ∙ sym (common_apart (range s data_mode) (way data_mode) 0 1 0 1 (omega (arith, modes)) (omega (arith, modes)) (λ z. omega (arith, z)) (sym (first data_mode)) refl))
        (same stepping refl refl (λ w. refl)) (same mode refl refl (λ w. refl)) (same dimming refl refl (λ w. refl)) (same display refl refl (λ w. refl))
        lit (λ i. same (key i) refl refl (λ w. refl)) (same switches refl refl (λ w. refl)) (same read_count refl refl (λ w. refl)) (same position refl refl (λ w. refl))

-- Byte after byte.
abbrev pub drifted : Sizes → (ℕ → ℕ) → (Fact → Standing) → ℕ → Fact → Standing
drifted s b v zero = v
drifted s b v (suc j) = drifts_to s (b j) (drifted s b v j)

module _ (p : Family) (b : ℕ → ℕ) (v : Fact → Standing) (h : Adrift v) where
  still : (j : ℕ) → Adrift (drifted (sizes p) b v j)
  still zero = h
  still (suc j) = let k = still j in record { opened = k.opened; writing = k.writing; pointed = k.pointed }

  pub drifted_each : (j : ℕ) (f : Fact) → drifted (sizes p) b v (suc j) f ≡ know same? (range (sizes p)) (move (sizes p) (ByteIn (b j))) (drifted (sizes p) b v j) f
  drifted_each j = drift p (b j) (drifted (sizes p) b v j) (still j)

-- What is known behind a run of them.
abbrev pub Ends : Sizes → (ℕ → ℕ) → (Fact → Standing) → ℕ → Fact → Type 0
Ends s b v n (cell i k) = drifted s b v n (cell i k) ≡ whether (among 0 1 s.cells i) (met_run 8 b n k (v (cell i k))) (v (cell i k))
Ends s b v n address = drifted s b v n address ≡ v address
Ends s b v n data_mode = drifted s b v n data_mode ≡ v data_mode
Ends s b v n stepping = drifted s b v n stepping ≡ v stepping
Ends s b v n mode = drifted s b v n mode ≡ v mode
Ends s b v n dimming = drifted s b v n dimming ≡ v dimming
Ends s b v n display = drifted s b v n display ≡ v display
Ends s b v n (led k) = drifted s b v n (led k) ≡ met_run 4 b n k (v (led k))
Ends s b v n (key i) = drifted s b v n (key i) ≡ v (key i)
Ends s b v n switches = drifted s b v n switches ≡ v switches
Ends s b v n read_count = drifted s b v n read_count ≡ v read_count
Ends s b v n position = drifted s b v n position ≡ v position

pub drifted_ends : (s : Sizes) (b : ℕ → ℕ) (v : Fact → Standing) (n : ℕ) (f : Fact) → Ends s b v n f
drifted_ends s b v zero = every (Ends s b v 0) (λ i k. go (among 0 1 s.cells i) (v (cell i k))) refl refl refl refl refl refl (λ k. refl) (λ i. refl) refl refl refl
  where
    go : (t : Bool) (x : Standing) → x ≡ whether t x x
    go true x = refl
    go false x = refl
drifted_ends s b v (suc n) =
    let e = drifted_ends s b v n in
    every (Ends s b v (suc n))
    (λ i k. ap (λ (x : Standing). seen 8 (Meet (record { 0 = 0 }) 1 s.cells (b n)) i k x) (e (cell i k)) ∙ go (among 0 1 s.cells i) (met 8 (b n) k) (met_run 8 b n k (v (cell i k))) (v (cell i k)))
    (e address) (e data_mode) (e stepping) (e mode) (e dimming) (e display) (λ k. ap (met 4 (b n) k) (e (led k))) (λ i. e (key i)) (e switches) (e read_count) (e position)
  where
    go : (t : Bool) (f : Standing → Standing) (x y : Standing) → whether t (f (whether t x y)) (whether t x y) ≡ whether t (f x) y
    go true f x y = refl
    go false f x y = refl
