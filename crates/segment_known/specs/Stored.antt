-- A byte stored at an unknown address. Every cell of the part may be the one, and so may none: a cell has in common with the byte what it had,
-- the address stays unknown, and nothing else changes, whether the stepping is known or not.
use Prim.Native.Nat.{ℕ, zero, suc, ◌<◌, ◌≤◌}
use native.Mathlib.Omega.{arith}
use Rattle.std.proofs.Math.Path.{◌≡◌, refl, sym, ap, subst⁻¹}
use Rattle.std.proofs.Common.{◌∙◌, lt-ltb}
use Rattle.rules.specs.Rule.{look}
use Rattle.rules.specs.Change.{keep, set_bits}
use Rattle.rules.specs.Digit.{digit}
use Rattle.rules.specs.Touch.{bits_at, bits_leave}
use Rattle.knowing.specs.Standing.{Standing, known, unknown}
use Rattle.knowing.specs.Know.{lifted, learn, join, common, know}
use Rattle.knowing.specs.Join.{not_known, known_one, same_standing, join_swap, common_each, common_same, common_two, common_apart}
use Rattle.knowing.specs.Look.{look_known, look_unknown}
use Rattle.knowing.specs.Changed.{set_other, learn_other}
use Rattle.segment.specs.declared.Sizes.{Sizes}
use Rattle.segment.specs.Value.{pointer}
use Rattle.segment.specs.Fact.{Fact, same?, range, cell, address, data_mode, stepping, mode, dimming, display, led, key, switches, read_count, position}
use Rattle.segment.specs.Laws.{cells_apart}
use Rattle.segment.specs.Move.{stores, after, stored_at, stored}

-- Facts of different names are different.
unfoldable pub tag : Fact → ℕ
tag (cell i k) = 0
tag address = 1
tag data_mode = 2
tag stepping = 2
tag mode = 2
tag dimming = 2
tag display = 2
tag (led k) = 2
tag (key i) = 2
tag switches = 2
tag read_count = 2
tag position = 2

not_address : (j k : ℕ) → cell j k ≡ address → ⊥
unfolding tag
not_address j k e =
    let z : ◌≡◌ {A = ℕ} 0 1 = ap tag e in
    omega arith

module _ (s : Sizes) (b i : ℕ) where
  -- A fact other than the address and the cell.
  stays : (l : Fact → Standing) (f : Fact) → ¬ (f ≡ address) → ((k : ℕ) → k < 8 → ¬ (f ≡ cell i k)) → (v : ℕ) → know same? (range s) (stored_at s b i v) l f ≡ l f
  stays l f n m zero = set_other same? l address (pointer (after s i)) (stores i b keep) f n ∙ ap (lifted l) (bits_leave same? (cell i) 8 b keep f m)
  stays l f n m (suc v) = ap (lifted l) (bits_leave same? (cell i) 8 b keep f m)

  pub rests : (l : Fact → Standing) (f : Fact) → ¬ (f ≡ address) → ((k : ℕ) → k < 8 → ¬ (f ≡ cell i k)) → know same? (range s) (look stepping (stored_at s b i)) l f ≡ l f
  unfolding set_bits
  rests l f n m = go (l stepping) refl
    where
      each : Dec (f ≡ stepping) → l stepping ≡ unknown → common 2 (λ (w : ℕ). know same? (range s) (stored_at s b i w) (learn same? stepping w l) f) ≡ l f
      each (yes p) u =
          subst⁻¹ (λ (x : Fact). common 2 (λ (w : ℕ). know same? (range s) (stored_at s b i w) (learn same? stepping w l) x) ≡ l x) p
          (common_apart 2 _ 0 1 0 1 (omega arith) (omega arith) (λ e. omega arith) refl refl ∙ sym u)
      each (no p) u = common_same 2 _ (l f) (omega arith) (λ w h. stays (learn same? stepping w l) f n m w ∙ learn_other same? l stepping w f p)

      go : (t : Standing) → l stepping ≡ t → know same? (range s) (look stepping (stored_at s b i)) l f ≡ l f
      go (known v) e = sym (look_known same? (range s) stepping (stored_at s b i) l f v _ e refl) ∙ stays l f n m v
      go unknown e = sym (look_unknown same? (range s) stepping (stored_at s b i) l f _ e refl) ∙ each (same? f stepping) e

  takes : (l : Fact → Standing) (k : ℕ) → k < 8 → (v : ℕ) → know same? (range s) (stored_at s b i v) l (cell i k) ≡ known (digit k b)
  takes l k h zero = ap (lifted l) (bits_at same? (cell i) (λ m n q. (cells_apart i m i n q).1) 8 b keep k h)
  takes l k h (suc v) = ap (lifted l) (bits_at same? (cell i) (λ m n q. (cells_apart i m i n q).1) 8 b keep k h)

  -- The cell itself, bit by bit.
  pub holds : (l : Fact → Standing) (k : ℕ) → k < 8 → know same? (range s) (look stepping (stored_at s b i)) l (cell i k) ≡ known (digit k b)
  holds l k h = go (l stepping) refl
    where
      go : (t : Standing) → l stepping ≡ t → know same? (range s) (look stepping (stored_at s b i)) l (cell i k) ≡ known (digit k b)
      go (known v) e = sym (look_known same? (range s) stepping (stored_at s b i) l (cell i k) v _ e refl) ∙ takes l k h v
      go unknown e =
          sym (look_unknown same? (range s) stepping (stored_at s b i) l (cell i k) _ e refl)
          ∙ common_same 2 _ (known (digit k b)) (omega arith) (λ w _. takes (learn same? stepping w l) k h w)

-- From a cell the address does not become invalid.
module _ (s : Sizes) (b : ℕ) where
  behind_first : (l : Fact → Standing) → l address ≡ known 1 → (v : ℕ) → know same? (range s) (stored_at s b 0 v) l address ≡ known 0 → ⊥
  unfolding set_bits
  behind_first l e zero h =
      let z = known_one _ 0 h in
      omega arith
  behind_first l e (suc v) h =
      let z : ◌≡◌ {A = ℕ} 1 0 = known_one 1 0 (sym e ∙ h) in
      omega arith

  pub leaves : (l : Fact → Standing) → l address ≡ known 1 → know same? (range s) (look stepping (stored_at s b 0)) l address ≡ known 0 → ⊥
  leaves l e = go (l stepping) refl
    where
      go : (t : Standing) → l stepping ≡ t → know same? (range s) (look stepping (stored_at s b 0)) l address ≡ known 0 → ⊥
      go (known v) u h = behind_first l e v (look_known same? (range s) stepping (stored_at s b 0) l address v _ u refl ∙ h)
      go unknown u h =
          behind_first (learn same? stepping 0 l) e 0
          (common_each 2 _ 0 (look_unknown same? (range s) stepping (stored_at s b 0) l address _ u refl ∙ h) 0 (omega arith))

-- All ways of a look at an unknown address.
module _ (s : Sizes) (b : ℕ) (k : Fact → Standing) where
  abbrev pub ways : Fact → ℕ → Standing
  ways f w = know same? (range s) (stored s b w) (learn same? address w k) f

  -- The way that stores at cell i.
  at_cell : (f : Fact) (i : ℕ) (x : Standing) → i < s.cells → know same? (range s) (look stepping (stored_at s b i)) (learn same? address (suc i) k) f ≡ x → ways f (suc i) ≡ x
  at_cell f i x h e = rw (lt-ltb i s.cells h) e

  rest_stay : (f : Fact) → ¬ (f ≡ address) → ((i : ℕ) → i < s.cells → (j : ℕ) → j < 8 → ¬ (f ≡ cell i j)) → k f ≡ common (suc s.cells) (ways f)
  rest_stay f n m = sym (common_same (suc s.cells) (ways f) (k f) (omega arith) each)
    where
      each : (w : ℕ) → w < suc s.cells → ways f w ≡ k f
      each zero h = learn_other same? k address 0 f n
      each (suc i) h = at_cell f i (k f) (omega arith) (rests s b i (learn same? address (suc i) k) f n (m i (omega arith)) ∙ learn_other same? k address (suc i) f n)

  -- Any fact but the cells and the address.
  pub plain_stay : (f : Fact) → 2 ≤ tag f → k f ≡ common (suc s.cells) (ways f)
  unfolding tag
  plain_stay f h =
      rest_stay f
      (λ e.
      let z : tag f ≡ 1 = ap tag e in
      omega arith)
      (λ i l j o e.
      let z : tag f ≡ 0 = ap tag e in
      omega arith)

  -- A bit that no way stores: of a cell past the part's last, or past a byte's eight.
  pub bit_stay : (j n : ℕ) → ((i : ℕ) → i < s.cells → n < 8 → ¬ (j ≡ i)) → k (cell j n) ≡ common (suc s.cells) (ways (cell j n))
  bit_stay j n h =
      rest_stay (cell j n) (not_address j n)
      (λ i l m o e. let q = cells_apart j n i m e in h i l (omega (arith, q.1)) q.0)

  pub cell_common : (j n : ℕ) → j < s.cells → n < 8 → join (k (cell j n)) (known (digit n b)) ≡ common (suc s.cells) (ways (cell j n))
  cell_common j n l o =
      join_swap (k (cell j n)) (known (digit n b))
      ∙ sym (common_two (suc s.cells) (ways (cell j n)) (known (digit n b)) (k (cell j n)) (suc j) 0 (omega arith) (omega arith) (λ e. omega arith)
      (at_cell (cell j n) j (known (digit n b)) l (holds s b j (learn same? address (suc j) k) n o)) each)
    where
      each : (w : ℕ) → w < suc s.cells → ¬ (w ≡ suc j) → ways (cell j n) w ≡ k (cell j n)
      each zero h d = refl
      each (suc i) h d = at_cell (cell j n) i (k (cell j n)) (omega arith) (rests s b i (learn same? address (suc i) k) (cell j n) (λ e. absurd (not_address j n e)) (λ m _ e. d (ap suc (sym (cells_apart j n i m e).0))))

  pub address_lost : 0 < s.cells → unknown ≡ common (suc s.cells) (ways address)
  address_lost some =
      sym (same_standing (common (suc s.cells) (ways address)) unknown
      (λ v e.
      let z : known 0 ≡ known v = common_each (suc s.cells) (ways address) v e 0 (omega arith) in
      let o : ways address 1 ≡ known 0 = common_each (suc s.cells) (ways address) v e 1 (omega arith) ∙ sym z in
      absurd (leaves s b (learn same? address 1 k) refl (sym (at_cell address 0 _ (omega arith) refl) ∙ o)))
      (λ v e. absurd (not_known v e)))
