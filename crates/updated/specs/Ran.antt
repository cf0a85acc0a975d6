-- A chip, through runs. The argument: each run's strobe begins with a fall, so that its first byte is read as a command whatever stood before, and that
-- command is the address at which the run starts; from there each byte is the wanted one of the cell whose turn it is, and the address steps on as the run
-- does. So a run gives its cells their wanted bytes, bit by bit, moves the address behind its last cell, and leaves all else alone but the position.
use Prim.Native.Nat.{ℕ, zero, suc, ◌+◌, ◌<◌}
use Rattle.std.proofs.Common.{arith, ◌∙◌, subst, inl, inr, ⊎_elim}
use Rattle.std.proofs.Math.Decide.{ℕ_discrete}
use Rattle.std.specs.Prelude.{◌≡◌, ◌⊎◌, Bool, ltb}
use Rattle.std.proofs.Math.Path.{refl, ap}
use Rattle.std.proofs.Math.Bool.{true, false}
use mathlib.Core.List.Memᴰ
use mathlib.Core.List.{
  List,
  [],
  ◌∷◌,
  ◌++◌,
  map,
  Memᴰ,
}
use Rattle.rules.specs.Choice.{whether}
use Rattle.rules.specs.Digit.{digit}
use Rattle.rules.specs.Rule.{becomes, run}
use Rattle.rules.specs.Turn.{put_bits, bits_put, bits_other}
use Rattle.knowing.specs.Standing.{Standing}
use Rattle.terms.specs.declared.Event.{Event}
use Rattle.terms.specs.declared.Event.TheVariants.{Falls, ByteIn, Rises}
use Rattle.segment.specs.declared.Sizes.{Sizes}
use Rattle.segment.specs.declared.Pointer.TheVariants.{At}
use Rattle.segment.specs.declared.command.Command.{Command}
use Rattle.segment.specs.declared.command.Command.TheVariants.{Start}
use Rattle.segment.specs.Fact.{Fact, same?, cell, address, data_mode, stepping, position}
use Rattle.segment.specs.Command.{command_of}
use Rattle.segment.specs.Move.{commanded}
use Rattle.segment.specs.Laws.{every, cells_apart}
use Rattle.painting.specs.SegmentLeads.{Chip, put', Paintable, falls, rises, first, at_start, started, cell_moves}
use Rattle.runs.specs.Runs as Runs
use Rattle.runs.specs.Runs.{wanted}
use Rattle.runs.specs.Walk.{behind_inside}
use Rattle.updating.specs.Update.{differs}
use Rattle.updating.specs.Updated.{last_address}
use Rattle.updated.specs.Writes.{Writes, Moved, Traces, ends, passes, writes}

-- The chip is set to write the display and increment.
abbrev pub IsSet : Chip → Type 0
IsSet x = (x data_mode ≡ 0) × (x stepping ≡ 0)

-- The chip x, with each bit of cell i made that of the byte b.
abbrev written : ℕ → ℕ → Chip → Chip
written i b x = put_bits same? (cell i) 8 b x

-- A fact that is no bit of a cell, nor the address, nor the position.
abbrev pub Other : Fact → Type 0
Other f = (x : Chip) (i v : ℕ) → (written i v x f ≡ x f) × (put' address v (put' position i x) f ≡ x f) × (put' position v x f ≡ x f)

-- A strobe falls, and its first byte is read as the command m. Neither writes a cell.
pub begins : (s : Sizes) {es : List Event} {z : Chip} {l : List ℕ} (b : ℕ) (m : Command) (x y : Chip) → command_of s b ≡ m
    → ((f : Fact) → run (commanded m) (put' position 1 x) f ≡ becomes (y f)) → Traces s es y z l → Traces s (Falls ∷ ByteIn b ∷ es) x z l
begins s b m x y e h rest = passes (put' position 1 x) (falls s x) (λ i g. g) (passes y (first s b m x y e h) none rest)
  where
    none : (i : ℕ) → ¬ Writes s (ByteIn b) (put' position 1 x) i
    none i g = omega (arith, g.0)

-- Bit n of cell j, which was u, where the cell is given its wanted byte. What stands behind the bits of a byte stays.
abbrev pub bit : List ℕ → ℕ → ℕ → ℕ → ℕ
bit w j n u = whether (ltb n 8) (digit n (wanted w j)) u

-- Given again, it is as it was given once.
again : (w : List ℕ) (j n u : ℕ) → bit w j n (bit w j n u) ≡ bit w j n u
again w j n u = go (ltb n 8)
  where
    go : (t : Bool) → whether t (digit n (wanted w j)) (whether t (digit n (wanted w j)) u) ≡ whether t (digit n (wanted w j)) u
    go true = refl
    go false = refl

module _ (s : Sizes) (k : Fact → Standing) (w : List ℕ) where
  -- The words of runs, for the cells that differ.
  abbrev row : ℕ → ℕ → List ℕ
  row m i = Runs.row s.cells (differs s k w) m i

  abbrev row_end : ℕ → ℕ → ℕ
  row_end m i = Runs.row_end s.cells (differs s k w) m i

  abbrev next : ℕ → ℕ
  next i = Runs.behind s.cells i

  abbrev cells_in : ℕ → List ℕ
  cells_in i = row s.cells i

  -- The chip x, with these cells given their wanted bytes.
  abbrev filled : List ℕ → Chip → Chip
  filled [] x = x
  filled (i ∷ l) x = filled l (written i (wanted w i) x)

  -- The same, with the address at cell e, and the strobe risen.
  abbrev risen : ℕ → List ℕ → Chip → Chip
  risen e l x = put' position 0 (at_start s e (filled l x))

  -- The chip x after the run that starts at cell i, and after several.
  abbrev ran_one : ℕ → Chip → Chip
  ran_one i x = risen (row_end s.cells i) (cells_in i) (put' position 1 x)

  abbrev pub ran : List ℕ → Chip → Chip
  ran [] x = x
  ran (i ∷ is) x = ran is (ran_one i x)

  -- The cells of these runs.
  abbrev pub cells_of : List ℕ → List ℕ
  cells_of [] = []
  cells_of (i ∷ is) = cells_in i ++ cells_of is

  pub of_a_run : (j : ℕ) (is : List ℕ) → Memᴰ j (cells_of is) → (i : ℕ) × Memᴰ i is × Memᴰ j (cells_in i)
  of_a_run j [] h = absurd (Memᴰ.not-nil h)
  of_a_run j (i ∷ is) h =
      ⊎_elim (λ m. (i, Memᴰ.head refl, m)) (λ m. let (a, p, q) = of_a_run j is m in (a, Memᴰ.tail p, q)) (Memᴰ.append_cases (cells_in i) h)

  pub of_the_runs : (i j : ℕ) (is : List ℕ) → Memᴰ i is → Memᴰ j (cells_in i) → Memᴰ j (cells_of is)
  of_the_runs i j [] h m = absurd (Memᴰ.not-nil h)
  of_the_runs i j (a ∷ is) h m =
      ⊎_elim (λ p. Memᴰ.append_left (cells_of is) (subst (λ (x : ℕ). Memᴰ j (cells_in x)) p m)) (λ q. Memᴰ.append_right (cells_in a) (of_the_runs i j is q m))
      (Memᴰ.cases_cons h)

  filled_other : (f : Fact) → Other f → (l : List ℕ) (x : Chip) → filled l x f ≡ x f
  filled_other f h [] x = refl
  filled_other f h (i ∷ l) x = filled_other f h l _ ∙ (h x i (wanted w i)).0

  ran_one_other : (f : Fact) → Other f → (i : ℕ) (x : Chip) → ran_one i x f ≡ x f
  ran_one_other f h i x =
      let y : Chip = filled (cells_in i) (put' position 1 x) in
      let e : ℕ = row_end s.cells i in
      (h (at_start s e y) 0 0).2 ∙ (h y 2 (suc e)).1 ∙ filled_other f h (cells_in i) (put' position 1 x) ∙ (h x 0 1).2

  still_set : (i : ℕ) (x : Chip) → IsSet x → IsSet (ran_one i x)
  unfolding put_bits
  still_set i x h = (ran_one_other data_mode (λ y j v. (refl, refl, refl)) i x ∙ h.0, ran_one_other stepping (λ y j v. (refl, refl, refl)) i x ∙ h.1)

  -- What runs leave alone; the address and the position behind them; and the cells.
  pub ran_other : (f : Fact) → Other f → (is : List ℕ) (x : Chip) → ran is x f ≡ x f
  ran_other f h [] x = refl
  ran_other f h (i ∷ is) x = ran_other f h is (ran_one i x) ∙ ran_one_other f h i x

  pub ran_address : (is : List ℕ) (x : Chip) → last_address s k w (λ a. a) is (x address) ≡ ran is x address
  ran_address [] x = refl
  ran_address (i ∷ is) x = ran_address is (ran_one i x)

  pub ran_position : (is : List ℕ) (x : Chip) → x position ≡ 0 → ran is x position ≡ 0
  ran_position [] x h = h
  ran_position (i ∷ is) x h = ran_position is (ran_one i x) refl

  -- Bit n of cell j, which was u, is v: that of its wanted byte if the cell is one of l, and u else.
  abbrev pub Given : ℕ → ℕ → List ℕ → ℕ → ℕ → Type 0
  Given j n l u v = (Memᴰ j l × (v ≡ bit w j n u)) ⊎ ((¬ Memᴰ j l) × (v ≡ u))

  -- The cells of a are given their bytes, and behind them those of l.
  then_given : (j n : ℕ) (a l : List ℕ) {u y v : ℕ} → Given j n l y v → Given j n a u y → Given j n (a ++ l) u v
  then_given j n a l (inl (m, e)) (inl (o, d)) = inl (Memᴰ.append_left l o, e ∙ ap (bit w j n) d ∙ again w j n _)
  then_given j n a l (inl (m, e)) (inr (p, d)) = inl (Memᴰ.append_right a m, e ∙ ap (bit w j n) d)
  then_given j n a l (inr (q, e)) (inl (o, d)) = inl (Memᴰ.append_left l o, e ∙ d)
  then_given j n a l (inr (q, e)) (inr (p, d)) = inr (λ h. ⊎_elim p q (Memᴰ.append_cases a h), e ∙ d)

  one_given : (j n i : ℕ) (x : Chip) → Given j n (i ∷ []) (x (cell j n)) (written i (wanted w i) x (cell j n))
  one_given j n i x = go (ℕ_discrete j i)
    where
      go : Dec (j ≡ i) → Given j n (i ∷ []) (x (cell j n)) (written i (wanted w i) x (cell j n))
      go (yes p) = inl (Memᴰ.head p, rw p (bits_put same? (cell i) (λ a b q. (cells_apart i a i b q).1) 8 (wanted w i) x n))
      go (no q) =
          inr (λ h. q (Memᴰ.eq_of_singleton h), bits_other same? (cell i) 8 (wanted w i) x (cell j n) (λ m _ p. q (cells_apart j n i m p).0))

  filled_cell : (j n : ℕ) (l : List ℕ) (x : Chip) → Given j n l (x (cell j n)) (filled l x (cell j n))
  filled_cell j n [] x = inr (λ h. Memᴰ.not-nil h, refl)
  filled_cell j n (i ∷ l) x = then_given j n (i ∷ []) l (filled_cell j n l (written i (wanted w i) x)) (one_given j n i x)

  pub ran_cell : (j n : ℕ) (is : List ℕ) (x : Chip) → Given j n (cells_of is) (x (cell j n)) (ran is x (cell j n))
  ran_cell j n [] x = inr (λ h. Memᴰ.not-nil h, refl)
  ran_cell j n (i ∷ is) x = then_given j n (cells_in i) (cells_of is) (ran_cell j n is (ran_one i x)) (filled_cell j n (cells_in i) (put' position 1 x))

  -- A byte at cell i, and the address steps on.
  abbrev stepped : ℕ → Chip → Chip
  stepped i x = at_start s (next i) (written i (wanted w i) x)

  steps_on : (i : ℕ) (x : Chip) → i < s.cells → IsSet x → Moved s (ByteIn (wanted w i)) (at_start s i x) (stepped i x)
  unfolding put_bits
  steps_on i x h set f = cell_moves s i (wanted w i) (at_start s i x) h refl set.0 set.1 refl f ∙ ap becomes (same f)
    where
      same : (f : Fact) → put' address (suc (next i)) (written i (wanted w i) (at_start s i x)) f ≡ stepped i x f
      same = every _ (λ j k. refl) refl refl refl refl refl refl (λ k. refl) (λ j. refl) refl refl refl

  -- The bytes of these cells, the rise behind them, and what follows.
  abbrev sent : List ℕ → List Event → List Event
  sent l es = (map ByteIn (map (wanted w) l) ++ (Rises ∷ [])) ++ es

  over_row : {es : List Event} {z : Chip} {l : List ℕ} (m i : ℕ) (x : Chip) → i < s.cells → IsSet x
      → Traces s es (risen (row_end m i) (row m i) x) z l → Traces s (sent (row m i) es) (at_start s i x) z (row m i ++ l)
  unfolding put_bits
  over_row zero i x h set rest = passes (put' position 0 (at_start s i x)) (rises s (at_start s i x)) (λ j g. g) rest
  over_row {es} {z} {l} (suc m) i x h set rest =
      go (differs s k w i) (λ t. over_row m (next i) (written i (wanted w i) x) (behind_inside s.cells i h) set t) rest
    where
      go : (b : Bool)
          → (Traces s es (risen (row_end m (next i)) (i ∷ row m (next i)) x) z l → Traces s (sent (row m (next i)) es) (stepped i x) z (row m (next i) ++ l))
          → Traces s es (risen (whether b (row_end m (next i)) i) (whether b (i ∷ row m (next i)) []) x) z l
          → Traces s (sent (whether b (i ∷ row m (next i)) []) es) (at_start s i x) z (whether b (i ∷ row m (next i)) [] ++ l)
      go true more t = writes {e = ByteIn (wanted w i)} (stepped i x) i (steps_on i x h set) (refl, set.0, refl, h) (more t)
      go false more t = passes (put' position 0 (at_start s i x)) (rises s (at_start s i x)) (λ j g. g) t

  -- The strobes of runs that start at these cells, from a chip that is set if there is any.
  pub over_runs : Paintable s → (is : List ℕ) (x : Chip) → ((i : ℕ) → Memᴰ i is → (i < s.cells) × IsSet x)
      → Traces s (Runs.strobes_of s.cells (differs s k w) (wanted w) is) x (ran is x) (cells_of is)
  over_runs ok [] x h = ends
  over_runs ok (i ∷ is) x h =
      let (inside, set) = h i (Memᴰ.head refl) in
      begins s (0xC0 + i) (Start (At (record { 0 = i }))) x (at_start s i (put' position 1 x)) (ok.start_read i inside) (started s i (put' position 1 x))
      (over_row s.cells i (put' position 1 x) inside set
      (over_runs ok is (ran_one i x) (λ j g. ((h j (Memᴰ.tail g)).0, still_set i x set))))
