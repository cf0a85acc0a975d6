-- An update leads every chip that fits the knowledge to the updated one, and writes just the cells that differ. The argument: if a cell differs, either the
-- data setting is known to be the right one, and the chip has it, or 40H sets it; so the runs go as they are meant. The cells of the runs are those that
-- differ, and get their wanted bytes; a cell that does not differ is known to hold its wanted byte, bit by bit, and the chip fits, so it holds it already.
-- If no cell differs there is no run, and nothing is sent.
use Rattle.std.specs.Prelude.{ℕ, ◌<◌, ◌≡◌, Bool, true, false, not, ◌&&◌, ltb}
use Rattle.std.proofs.Math.Path.{refl}
use Rattle.std.proofs.Common.{sym, ap, ◌∙◌, subst, inl, inr, true≢false, eqb-true, ltb-true, lt-ltb}
use mathlib.Core.List.Memᴰ
use mathlib.Core.List.{List, [], ◌∷◌, ◌++◌, map, Memᴰ}
use Rattle.std.proofs.lemmas.Bool.{eqb-false, not-false}
use Rattle.rules.specs.Choice.{whether, whether_all, both}
use Rattle.rules.specs.Digit.{digit}
use Rattle.rules.specs.Turn.{Leads, surely_to, put_bits}
use Rattle.knowing.specs.Standing.{Standing, known, Agrees, Fits}
use Rattle.knowing.specs.Holds.{is_known_lem}
use Rattle.knowing.specs.Bytes.{holds_tests}
use Rattle.terms.specs.declared.Event.{Event}
use Rattle.terms.specs.Event.{strobe}
use Rattle.segment.specs.declared.Family.{Family}
use Rattle.segment.specs.declared.Sizes.{Sizes}
use Rattle.segment.specs.declared.Data.TheVariants.{WriteDisplay}
use Rattle.segment.specs.declared.Stepping.TheVariants.{Increment}
use Rattle.segment.specs.declared.command.Command.TheVariants.{Setting}
use Rattle.segment.specs.Family.{sizes}
use Rattle.segment.specs.Fact.{Fact, cell, address, data_mode, stepping, mode, dimming, display, led, key, switches, read_count, position}
use Rattle.segment.specs.Move.{move}
use Rattle.segment.specs.Laws.{every}
use Rattle.painting.specs.declared.SegmentPicture.{SegmentPicture}
use Rattle.painting.specs.Segment.{painted}
use Rattle.painting.specs.SegmentLeads.{Chip, put', Paintable, paintable, rises, in_setting, display_set}
use Rattle.runs.specs.Runs.{wanted, strobes_of}
use Rattle.runs.specs.Right.{start_inside, run_inside, covered, no_starts, some_starts}
use Rattle.updating.specs.Update.{differs, starts, is_set, sends40, update_events}
use Rattle.updating.specs.Updated.{nothing, last_address, updated}
use Rattle.updated.specs.Writes.{WrittenBy, Traces, passes, traces_lead, written_listed, listed_written}
use Rattle.updated.specs.Ran.{IsSet, Other, begins, ran, cells_of, of_a_run, of_the_runs, ran_other, ran_address, ran_position, bit, Given, ran_cell, over_runs}

-- The chip c, behind a strobe with 40H if that is sent.
abbrev set_up : Sizes → Bool → Chip → Chip
set_up s t c f = whether t (put' position 0 (in_setting s 0 (put' position 1 c)) f) (c f)

over_setting : (s : Sizes) {es : List Event} {z : Chip} {l : List ℕ} (t : Bool) (c : Chip) → Traces s es (set_up s t c) z l
    → Traces s (whether t (strobe (0x40 ∷ [])) [] ++ es) c z l
over_setting s true c rest =
    let y : Chip = in_setting s 0 (put' position 1 c) in
    begins s 0x40 (Setting WriteDisplay Increment) c y refl (display_set s (put' position 1 c)) (passes (put' position 0 y) (rises s y) (λ i g. g) rest)
over_setting s false c rest = rest

-- Where something differs, the data setting is known or sent, so that the chip has it; where nothing does, it is not sent.
sets_up : (s : Sizes) (c : Chip) (a b : Bool) → (a ≡ true → IsSet c) → b ≡ false → IsSet (set_up s (not a && not b) c)
sets_up s c true b h e = h refl
sets_up s c false false h e = (refl, refl)
sets_up s c false true h e = absurd (true≢false e)

not_sent : (a b : Bool) → b ≡ true → (not a && not b) ≡ false
not_sent true b e = refl
not_sent false b e = ap not e

module _ (s : Sizes) (k : Fact → Standing) (w : List ℕ) where
  -- Nothing differs: no run starts, and nothing is sent. A run starts: something differs.
  none_start : nothing s k w ≡ true → starts s k w ≡ []
  none_start e = no_starts s.cells (differs s k w) (eqb-true _ 0 e)

  pub nothing_sent : nothing s k w ≡ true → update_events s k w ≡ []
  nothing_sent e =
      let runs = strobes_of s.cells (differs s k w) (wanted w) in
      ap (λ (t : Bool). whether t (strobe (0x40 ∷ [])) [] ++ runs (starts s k w)) (not_sent (is_set k) (nothing s k w) e) ∙ ap runs (none_start e)

  some_differ : (i : ℕ) → Memᴰ i (starts s k w) → (b : Bool) → nothing s k w ≡ b → b ≡ false
  some_differ i m true e = absurd (Memᴰ.not-nil (subst (λ (l : List ℕ). Memᴰ i l) (none_start e) m))
  some_differ i m false e = refl

  -- The cells of the runs are those that differ.
  listed_differs : (j : ℕ) → Memᴰ j (cells_of s k w (starts s k w)) → (j < s.cells) × (differs s k w j ≡ true)
  listed_differs j h =
      let (i, p, q) = of_a_run s k w j (starts s k w) h in
      run_inside s.cells (differs s k w) i j (start_inside s.cells (differs s k w) i p).0 q

  differs_listed : (j : ℕ) → j < s.cells → differs s k w j ≡ true → Memᴰ j (cells_of s k w (starts s k w))
  differs_listed j h e =
      let (i, p, q) = covered s.cells (differs s k w) j h e in
      of_the_runs s k w i j (starts s k w) p q

  module _ (c : Chip) (fits : Fits k c) where
    -- What is known, the chip has.
    has : (f : Fact) (v : ℕ) → k f ≡ known v → c f ≡ v
    has f v e = subst (λ (t : Standing). Agrees t (c f)) e (fits f)

    -- The chip before the runs.
    abbrev x : Chip
    x = set_up s (sends40 s k w) c

    is_set_lem : nothing s k w ≡ false → IsSet x
    is_set_lem e =
        sets_up s c (is_set k) (nothing s k w)
        (λ t. let (a, b) = both _ _ t in (has data_mode 0 (is_known_lem (k data_mode) 0 a), has stepping 0 (is_known_lem (k stepping) 0 b))) e

    traced : Paintable s → Traces s (update_events s k w) c (ran s k w (starts s k w) x) (cells_of s k w (starts s k w))
    traced ok =
        over_setting s (sends40 s k w) c
        (over_runs s k w ok (starts s k w) x (λ i m. ((start_inside s.cells (differs s k w) i m).0, is_set_lem (some_differ i m (nothing s k w) refl))))

    -- What the 40H strobe leaves alone.
    kept : (f : Fact) → put' position 0 (in_setting s 0 (put' position 1 c)) f ≡ c f → x f ≡ c f
    kept f e = whether_all (λ (v : ℕ). v ≡ c f) (sends40 s k w) _ _ (λ _. e) (λ _. refl)

    -- A cell that does not differ is known to hold its wanted byte, and has it, bit by bit.
    has_byte : (i : ℕ) → differs s k w i ≡ false → (j : ℕ) → j < 8 → c (cell i j) ≡ digit j (wanted w i)
    has_byte i e j l = has (cell i j) (digit j (wanted w i)) ((holds_tests 8 (λ j. k (cell i j)) (wanted w i)).so (not-false _ e) j l)

    cell_ends : (i j : ℕ) → updated s k w c (cell i j) ≡ ran s k w (starts s k w) x (cell i j)
    cell_ends i j = go (ran_cell s k w i j (starts s k w) x) (ltb i s.cells) refl
      where
        as_before : x (cell i j) ≡ c (cell i j)
        as_before = kept (cell i j) refl

        go : {v : ℕ} → Given s k w i j (cells_of s k w (starts s k w)) (x (cell i j)) v → (t : Bool) → ltb i s.cells ≡ t
            → whether (ltb i s.cells) (bit w i j (c (cell i j))) (c (cell i j)) ≡ v
        go (inl (m, e)) t q = rw (lt-ltb i s.cells (listed_differs i m).0) (sym (e ∙ ap (bit w i j) as_before))
        go (inr (n, e)) false q = rw q (sym (e ∙ as_before))
        go (inr (n, e)) true q = rw q (sym (e ∙ as_before ∙ held (differs s k w i) refl))
          where
            held : (b : Bool) → differs s k w i ≡ b → c (cell i j) ≡ bit w i j (c (cell i j))
            held true d = absurd (n (differs_listed i (ltb-true i s.cells q) d))
            held false d = whether_all (λ (v : ℕ). c (cell i j) ≡ v) (ltb j 8) _ _ (λ t. has_byte i d j (ltb-true j 8 t)) (λ _. refl)

    position_ends : (b : Bool) → nothing s k w ≡ b → whether b (c position) 0 ≡ ran s k w (starts s k w) x position
    position_ends true e =
        sym (ap (λ (is : List ℕ). ran s k w is x position) (none_start e) ∙ ap (λ (t : Bool). set_up s t c position) (not_sent (is_set k) (nothing s k w) e))
    position_ends false e =
        let (i, is, p) = some_starts s.cells (differs s k w) (eqb-false _ 0 e) in
        sym (ap (λ (is : List ℕ). ran s k w is x position) p ∙ ran_position s k w is _ refl)

    -- What the runs leave alone, and what the 40H strobe leaves alone too.
    set_before : (f : Fact) → Other f → x f ≡ ran s k w (starts s k w) x f
    set_before f h = sym (ran_other s k w f h (starts s k w) x)

    alone : (f : Fact) → Other f → put' position 0 (in_setting s 0 (put' position 1 c)) f ≡ c f → c f ≡ ran s k w (starts s k w) x f
    alone f h e = sym (kept f e) ∙ set_before f h

    ends : (f : Fact) → updated s k w c f ≡ ran s k w (starts s k w) x f
    unfolding put_bits
    ends =
        every _ cell_ends (ap (last_address s k w (λ a. a) (starts s k w)) (sym (kept address refl)) ∙ ran_address s k w (starts s k w) x)
        (set_before data_mode (λ y i v. (refl, refl, refl))) (set_before stepping (λ y i v. (refl, refl, refl)))
        (alone mode (λ y i v. (refl, refl, refl)) refl) (alone dimming (λ y i v. (refl, refl, refl)) refl)
        (alone display (λ y i v. (refl, refl, refl)) refl) (λ j. alone (led j) (λ y i v. (refl, refl, refl)) refl)
        (λ j. alone (key j) (λ y i v. (refl, refl, refl)) refl) (alone switches (λ y i v. (refl, refl, refl)) refl)
        (set_before read_count (λ y i v. (refl, refl, refl))) (position_ends (nothing s k w) refl)

module _ (q : Family) (k : Fact → Standing) (w : List ℕ) where
  -- Every chip that fits is led to the updated one.
  pub update_leads : (c : Fact → ℕ) → Fits k c → Leads (move (sizes q)) (update_events (sizes q) k w) c (updated (sizes q) k w c)
  update_leads c fits =
      surely_to (map (move (sizes q)) (update_events (sizes q) k w)) c _ _ (traces_lead (sizes q) (traced (sizes q) k w c fits (paintable q)))
      (ends (sizes q) k w c fits)

  -- A cell is written exactly where it differs.
  pub update_writes : (c : Fact → ℕ) → Fits k c → (i : ℕ)
      → (WrittenBy (sizes q) (update_events (sizes q) k w) c i → (i < (sizes q).cells) × (differs (sizes q) k w i ≡ true))
      × (i < (sizes q).cells → differs (sizes q) k w i ≡ true → WrittenBy (sizes q) (update_events (sizes q) k w) c i)
  update_writes c fits i =
      let t = traced (sizes q) k w c fits (paintable q) in
      (λ h. listed_differs (sizes q) k w i (written_listed (sizes q) i t h), λ h e. listed_written (sizes q) i t (differs_listed (sizes q) k w i h e))

-- The memory is that which a painting of these cells leaves, bit by bit.
pub as_painted : (q : Family) (k : Fact → Standing) (p : SegmentPicture) (c : Fact → ℕ) (i j : ℕ)
    → updated (sizes q) k p.cells c (cell i j) ≡ painted (sizes q) p c (cell i j)
as_painted q k p c i j = refl
