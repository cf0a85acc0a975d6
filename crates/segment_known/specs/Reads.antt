-- A byte clocked out changes only the read count, which goes on in the read modes while the chip is open. Where the position or the data mode is unknown, it may
-- have gone on or not, and is known where both come to the same.
use Rattle.std.specs.Prelude.{ℕ, zero, suc, ◌+◌, ◌<◌, ◌≤◌, min, ◌≡◌, refl, ◌⊎◌}
use Rattle.std.proofs.Common.{arith, sym, ap, ◌∙◌, inl, inr, ⊎_elim}
use Rattle.rules.specs.Choice.{of4}
use Rattle.rules.specs.Rule.{Rule, look}
use Rattle.knowing.specs.Standing.{Standing, known, unknown}
use Rattle.knowing.specs.Know.{learn, join, common, know}
use Rattle.knowing.specs.Join.{join_both, join_known, common_all, common_each, same_standing, common_same, common_apart}
use Rattle.knowing.specs.Look.{look_known, look_unknown}
use Rattle.fact.specs.View.{stands}
use Rattle.fact.specs.declared.Single.{Single}
use Rattle.segment.specs.declared.Sizes.{Sizes}
use Rattle.segment.specs.declared.Family.{Family}
use Rattle.segment.specs.Family.{sizes}
use Rattle.segment.specs.Fact.{Fact, same?, range, cell, address, data_mode, stepping, mode, dimming, display, led, key, switches, read_count, position}
use Rattle.segment.specs.Laws.{every}
use Rattle.segment.specs.Move.{counted, read_out, byte_out}
use Rattle.segment_knowledge.specs.declared.Control.{Control}
use Rattle.segment_knowledge.specs.View.{cview}
use Rattle.segment_steps.specs.Step.{Keeps}
use Rattle.segment_known.specs.Writes.{several_modes}

-- The read count gone on; in a data mode; and at a position.
abbrev pub counts : Standing → Standing
counts (known n) = known (min (n + 1) 4)
counts unknown = unknown

abbrev pub mode_out : Standing → Standing → Standing
mode_out (known m) t = of4 t t (counts t) (counts t) m
mode_out unknown t = join t (counts t)

abbrev pub count_out : Standing → Standing → Standing → Standing
count_out (known p) d t = of4 t t (mode_out d t) t p
count_out unknown d t = join t (mode_out d t)

-- The choices of the code's tests.
pub low_mode : (t : Standing) (m : ℕ) → m < 2 → mode_out (known m) t ≡ t
low_mode t zero h = refl
low_mode t (suc zero) h = refl
low_mode t (suc (suc m)) h = absurd (omega arith)

pub high_mode : (t : Standing) (m : ℕ) → 2 ≤ m → mode_out (known m) t ≡ counts t
high_mode t zero h = absurd (omega arith)
high_mode t (suc zero) h = absurd (omega arith)
high_mode t (suc (suc zero)) h = refl
high_mode t (suc (suc (suc m))) h = refl

pub other_place : (d t : Standing) (p : ℕ) → ¬ (p ≡ 2) → count_out (known p) d t ≡ t
other_place d t zero h = refl
other_place d t (suc zero) h = refl
other_place d t (suc (suc zero)) h = absurd (h refl)
other_place d t (suc (suc (suc p))) h = refl

-- The same with another read count.
abbrev pub counting : Control → Single ℕ → Control
counting c n = record {
  address = c.address;
  «data» = c.«data»;
  stepping = c.stepping;
  mode = c.mode;
  dimming = c.dimming;
  display = c.display;
  led = c.led;
  keys = c.keys;
  switches = c.switches;
  count = n;
  position = c.position;
}

abbrev recount : (Fact → Standing) → Standing → Fact → Standing
recount v t (cell i k) = v (cell i k)
recount v t address = v address
recount v t data_mode = v data_mode
recount v t stepping = v stepping
recount v t mode = v mode
recount v t dimming = v dimming
recount v t display = v display
recount v t (led k) = v (led k)
recount v t (key i) = v (key i)
recount v t switches = v switches
recount v t read_count = t
recount v t position = v position

uncounted : (v : Fact → Standing) (f : Fact) → recount v (v read_count) f ≡ v f
uncounted v = every _ (λ i k. refl) refl refl refl refl refl refl (λ k. refl) (λ i. refl) refl refl refl

-- Ways of which each is one of two, and both are there.
two_of : (n : ℕ) (s : ℕ → Standing) (a b : Standing) (i j : ℕ) → i < n → j < n → s i ≡ a → s j ≡ b → ((w : ℕ) → (s w ≡ a) ⊎ (s w ≡ b)) → join a b ≡ common n s
two_of n s a b i j p q e f h =
    same_standing (join a b) (common n s)
    (λ v o.
    let z = join_known a b v o in
    common_all n s v (omega (arith, p)) (λ w l. ⊎_elim (λ x. x ∙ z.0) (λ x. x ∙ z.1) (h w)))
    (λ v o. join_both a b v (sym e ∙ common_each n s v o i p) (sym f ∙ common_each n s v o j q))

module _ (s : Sizes) (modes : 3 ≤ range s data_mode) where
  abbrev after : Rule Fact Fact → (Fact → Standing) → Fact → Standing
  after rule v f = know same? (range s) rule v f

  count_on : (v : Fact → Standing) (f : Fact) → recount v (counts (v read_count)) f ≡ after (look read_count counted) v f
  count_on v = go (v read_count) refl
    where
      each : (f : Fact) → ((w : ℕ) → after (counted w) (learn same? read_count w v) f ≡ v f) → v f ≡ common 5 (λ (w : ℕ). after (counted w) (learn same? read_count w v) f)
      each f h = sym (common_same 5 _ (v f) (omega arith) (λ w l. h w))

      go : (t : Standing) → v read_count ≡ t → (f : Fact) → recount v (counts t) f ≡ after (look read_count counted) v f
      go (known n) e f =
          look_known same? (range s) read_count counted v f n _ e
          (every (λ (f : Fact). recount v (known (min (n + 1) 4)) f ≡ after (counted n) v f) (λ i k. refl) refl refl refl refl refl refl (λ k. refl) (λ i. refl) refl refl refl f)
      go unknown e f =
          look_unknown same? (range s) read_count counted v f _ e
          (every (λ (f : Fact). recount v unknown f ≡ common 5 (λ (w : ℕ). after (counted w) (learn same? read_count w v) f))
          (λ i k. each (cell i k) (λ w. refl)) (each address (λ w. refl)) (each data_mode (λ w. refl)) (each stepping (λ w. refl)) (each mode (λ w. refl)) (each dimming (λ w. refl)) (each display (λ w. refl))
          (λ k. each (led k) (λ w. refl)) (λ i. each (key i) (λ w. refl)) (each switches (λ w. refl))
          (sym (common_apart 5 _ 0 1 1 2 (omega arith) (omega arith) (λ e. omega arith) refl refl))
          (each position (λ w. refl)) f)

  mode_on : (v : Fact → Standing) (f : Fact) (w : ℕ) → recount v (of4 (v read_count) (v read_count) (counts (v read_count)) (counts (v read_count)) w) f ≡ after (read_out w) v f
  mode_on v f zero = uncounted v f
  mode_on v f (suc zero) = uncounted v f
  mode_on v f (suc (suc zero)) = count_on v f
  mode_on v f (suc (suc (suc w))) = count_on v f

  mode_out_lem : (v : Fact → Standing) (f : Fact) → recount v (mode_out (v data_mode) (v read_count)) f ≡ after (look data_mode read_out) v f
  mode_out_lem v = go (v data_mode) refl
    where
      way : Fact → ℕ → Standing
      way f w = after (read_out w) (learn same? data_mode w v) f

      each : (f : Fact) → ((w : ℕ) (t : Standing) → recount (learn same? data_mode w v) t f ≡ v f) → v f ≡ common (range s data_mode) (way f)
      each f h = sym (common_same (range s data_mode) (way f) (v f) (omega (arith, modes)) (λ w l. sym (mode_on (learn same? data_mode w v) f w) ∙ h w _))

      one : (w : ℕ) → (way read_count w ≡ v read_count) ⊎ (way read_count w ≡ counts (v read_count))
      one zero = inl refl
      one (suc zero) = inl refl
      one (suc (suc zero)) = inr (sym (mode_on (learn same? data_mode 2 v) read_count 2))
      one (suc (suc (suc w))) = inr (sym (mode_on (learn same? data_mode (suc (suc (suc w))) v) read_count (suc (suc (suc w)))))

      go : (d : Standing) → v data_mode ≡ d → (f : Fact) → recount v (mode_out d (v read_count)) f ≡ after (look data_mode read_out) v f
      go (known m) e f = look_known same? (range s) data_mode read_out v f m _ e (mode_on v f m)
      go unknown e f =
          look_unknown same? (range s) data_mode read_out v f _ e
          (every (λ (f : Fact). recount v (join (v read_count) (counts (v read_count))) f ≡ common (range s data_mode) (way f))
          (λ i k. each (cell i k) (λ w t. refl)) (each address (λ w t. refl))
          (e ∙ sym (common_apart (range s data_mode) (way data_mode) 0 1 0 1 (omega (arith, modes)) (omega (arith, modes)) (λ z. omega (arith, z)) refl refl))
          (each stepping (λ w t. refl)) (each mode (λ w t. refl)) (each dimming (λ w t. refl)) (each display (λ w t. refl)) (λ k. each (led k) (λ w t. refl)) (λ i. each (key i) (λ w t. refl)) (each switches (λ w t. refl))
          (two_of (range s data_mode) (way read_count) (v read_count) (counts (v read_count)) 0 2 (omega (arith, modes)) (omega (arith, modes)) refl (sym (mode_on (learn same? data_mode 2 v) read_count 2)) one)
          (each position (λ w t. refl)) f)

  place_on : (v : Fact → Standing) (f : Fact) (w : ℕ) → recount v (of4 (v read_count) (v read_count) (mode_out (v data_mode) (v read_count)) (v read_count) w) f ≡ after (byte_out w) v f
  place_on v f zero = uncounted v f
  place_on v f (suc zero) = uncounted v f
  place_on v f (suc (suc zero)) = mode_out_lem v f
  place_on v f (suc (suc (suc w))) = uncounted v f

  place_out : (v : Fact → Standing) (f : Fact) → recount v (count_out (v position) (v data_mode) (v read_count)) f ≡ after (look position byte_out) v f
  place_out v = go (v position) refl
    where
      way : Fact → ℕ → Standing
      way f w = after (byte_out w) (learn same? position w v) f

      each : (f : Fact) → ((w : ℕ) (t : Standing) → recount (learn same? position w v) t f ≡ v f) → v f ≡ common 4 (way f)
      each f h = sym (common_same 4 (way f) (v f) (omega arith) (λ w l. sym (place_on (learn same? position w v) f w) ∙ h w _))

      one : (w : ℕ) → (way read_count w ≡ v read_count) ⊎ (way read_count w ≡ mode_out (v data_mode) (v read_count))
      one zero = inl refl
      one (suc zero) = inl refl
      one (suc (suc zero)) = inr (sym (place_on (learn same? position 2 v) read_count 2))
      one (suc (suc (suc w))) = inl refl

      go : (p : Standing) → v position ≡ p → (f : Fact) → recount v (count_out p (v data_mode) (v read_count)) f ≡ after (look position byte_out) v f
      go (known m) e f = look_known same? (range s) position byte_out v f m _ e (place_on v f m)
      go unknown e f =
          look_unknown same? (range s) position byte_out v f _ e
          (every (λ (f : Fact). recount v (join (v read_count) (mode_out (v data_mode) (v read_count))) f ≡ common 4 (way f))
          (λ i k. each (cell i k) (λ w t. refl)) (each address (λ w t. refl)) (each data_mode (λ w t. refl))
          (each stepping (λ w t. refl)) (each mode (λ w t. refl)) (each dimming (λ w t. refl)) (each display (λ w t. refl)) (λ k. each (led k) (λ w t. refl)) (λ i. each (key i) (λ w t. refl)) (each switches (λ w t. refl))
          (two_of 4 (way read_count) (v read_count) (mode_out (v data_mode) (v read_count)) 0 2 (omega arith) (omega arith) refl (sym (place_on (learn same? position 2 v) read_count 2)) one)
          (e ∙ sym (common_apart 4 (way position) 0 1 0 1 (omega arith) (omega arith) (λ z. omega (arith, z)) refl refl))
          f)

-- A control with the read count that comes of it.
pub counted_out : (p : Family) (c : Control) (n : Single ℕ) → stands n ≡ count_out (stands c.position) (stands c.«data») (stands c.count) → Keeps (sizes p) (look position byte_out) c (counting c n)
counted_out p c n e cells f =
    every (λ (f : Fact). cview cells (counting c n) f ≡ recount (cview cells c) (stands n) f) (λ i k. refl) refl refl refl refl refl refl (λ k. refl) (λ i. refl) refl refl refl f
    ∙ ap (λ (t : Standing). recount (cview cells c) t f) e
    ∙ place_out (sizes p) (several_modes p) (cview cells c) f
