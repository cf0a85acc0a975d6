-- What is known after an update. The argument, where it sends a cell: then there is a last run, and the address stands behind it; the data setting was known to
-- be the right one or 40H was sent, so it is known; and each cell is known to hold its wanted byte, since it was sent or held it before. Where it sends none,
-- each cell held its wanted byte before, and nothing has changed.
use Rattle.std.specs.Prelude.{ℕ, suc, ◌+◌, ◌<◌, ◌≡◌, refl, Bool, true, false, not, ◌&&◌, List, [], ◌∷◌, length, get_or, set, ltb}
use Rattle.std.proofs.Common.{arith, sym, ap, ◌∙◌, true≢false, length-set, get_or-set_same, get_or-set_other, eqb-true, lt-ltb, le-ltb, ltb-true, ltb-false}
use Rattle.std.proofs.Math.Decide.{ℕ_discrete}
use Rattle.std.proofs.lemmas.Bool.{eqb-false, not-false}
use Rattle.rules.specs.Choice.{whether, both}
use Rattle.rules.specs.Digit.{digit}
use Rattle.knowing.specs.Standing.{Standing, known}
use Rattle.knowing.specs.Holds.{is_known, is_known_lem}
use Rattle.knowing.specs.Bytes.{holds_tests}
use Rattle.lamps.specs.View.{shown, held, told, Puts}
use Rattle.lamps.specs.Lamp.{wide8}
use Rattle.segment.specs.declared.Sizes.{Sizes}
use Rattle.segment.specs.Laws.{every}
use Rattle.segment.specs.Fact.{Fact, cell, address, data_mode, stepping, read_count, position}
use Rattle.runs.specs.Runs.{wanted, last_end, run_end}
use Rattle.runs.specs.Right.{none_differs, no_starts, some_starts}
use Rattle.updating.specs.Update.{differs, differing, starts, is_set, sends40}
use Rattle.updating.specs.Updated.{nothing, last_address, known_after}

-- An update that sends a cell, as code has found it: whether the data setting is known to be right, and the cell behind the last run.
pub record SentSome (s : Sizes) (k : Fact → Standing) (w : List ℕ) (set : Bool) (end : ℕ) : Type 0 where
  pub some : nothing s k w ≡ false
  pub set_is : set ≡ is_set k
  pub end_is : end ≡ last_end s.cells (differs s k w) 0 (starts s k w)

-- The codes r are those of l, but that each bit of the first n is known to be the wanted byte's.
pub record Spelt (w : List ℕ) (n : ℕ) (l r : List ℕ) : Type 0 where
  pub shows : (i j : ℕ) → held 8 r i j ≡ whether (ltb i n) (told 8 (wanted w i) j (held 8 l i j)) (held 8 l i j)
  pub size : length r ≡ length l

pub none_spelt : (w l : List ℕ) → Spelt w 0 l l
none_spelt w l = record { shows = λ i j. rw (le-ltb i 0 (omega arith)) refl; size = refl }

-- One code more.
pub one_spelt : (w l r : List ℕ) (n c : ℕ) → Spelt w n l r → n < length r → Puts 65535 (wanted w n) (get_or r n 0) c → Spelt w (n + 1) l (set r n c)
one_spelt w l r n c s h p = record { shows = λ i j. at i j (ℕ_discrete i n); size = length-set r n c ∙ s.size }
  where
    at : (i j : ℕ) → Dec (i ≡ n) → held 8 (set r n c) i j ≡ whether (ltb i (n + 1)) (told 8 (wanted w i) j (held 8 l i j)) (held 8 l i j)
    at i j (yes e) = rw (e, lt-ltb n (n + 1) (omega arith)) (
        ap (λ (x : ℕ). shown 8 x j) (get_or-set_same r n c 0 h) ∙ p 8 wide8 j
        ∙ ap (λ (x : Standing). told 8 (wanted w n) j x) (s.shows n j ∙ rw (le-ltb n n (omega arith)) refl)
        )
    at i j (no e) =
        ap (λ (x : ℕ). shown 8 x j) (get_or-set_other r n i c 0 e) ∙ s.shows i j
        ∙ ap (λ (t : Bool). whether t (told 8 (wanted w i) j (held 8 l i j)) (held 8 l i j)) (same (ltb i n) refl)
      where
        same : (t : Bool) → ltb i n ≡ t → ltb i n ≡ ltb i (n + 1)
        same true q = q ∙ sym (lt-ltb i (n + 1) (let m = ltb-true i n q in omega arith))
        same false q = q ∙ sym (le-ltb i (n + 1) (let m = ltb-false i n q in omega arith))

-- A fact that 40H sets, and that is known already where it is not sent.
settled : (a b : Bool) (x : Standing) → b ≡ false → (a ≡ true → x ≡ known 0) → known 0 ≡ whether (not a && not b) (known 0) x
settled true b x e h = sym (h refl)
settled false false x e h = refl
settled false true x e h = absurd (true≢false e)

module _ (s : Sizes) (k : Fact → Standing) (w : List ℕ) where
  -- The address behind runs.
  last_known : (is : List ℕ) (e : ℕ) → last_address s k w known is (known (suc e)) ≡ known (suc (last_end s.cells (differs s k w) e is))
  last_known [] e = refl
  last_known (i ∷ is) e = last_known is (run_end s.cells (differs s k w) i)

  module _ (set : Bool) (end : ℕ) (h : SentSome s k w set end) where
    pub address_known : known (suc end) ≡ last_address s k w known (starts s k w) (k address)
    address_known =
        let (i, is, e) = some_starts s.cells (differs s k w) (eqb-false (length (differing s k w)) 0 h.some) in
        ap (λ (x : ℕ). known (suc x)) h.end_is ∙ ap (λ (l : List ℕ). known (suc (last_end s.cells (differs s k w) 0 l))) e
        ∙ sym (last_known is (run_end s.cells (differs s k w) i)) ∙ sym (ap (λ (l : List ℕ). last_address s k w known l (k address)) e)

    pub data_known : known 0 ≡ whether (sends40 s k w) (known 0) (k data_mode)
    data_known = settled (is_set k) (nothing s k w) (k data_mode) h.some (λ t. is_known_lem (k data_mode) 0 (both (is_known (k data_mode) 0) (is_known (k stepping) 0) t).0)

    pub stepping_known : known 0 ≡ whether (sends40 s k w) (known 0) (k stepping)
    stepping_known = settled (is_set k) (nothing s k w) (k stepping) h.some (λ t. is_known_lem (k stepping) 0 (both (is_known (k data_mode) 0) (is_known (k stepping) 0) t).1)

    pub count_known : whether set (k read_count) (known 0) ≡ whether (sends40 s k w) (known 0) (k read_count)
    count_known = ap (λ (a : Bool). whether a (k read_count) (known 0)) h.set_is ∙ by (is_set k) (nothing s k w) h.some
      where
        by : (a b : Bool) → b ≡ false → whether a (k read_count) (known 0) ≡ whether (not a && not b) (known 0) (k read_count)
        by true b e = refl
        by false false e = refl
        by false true e = absurd (true≢false e)

    pub position_known : known 0 ≡ whether (nothing s k w) (k position) (known 0)
    position_known = ap (λ (b : Bool). whether b (k position) (known 0)) (sym h.some)

  -- Where nothing differs, nothing is sent, and what is known is as it was: every cell is known to hold its wanted byte already.
  pub unsent_known : nothing s k w ≡ true → (f : Fact) → k f ≡ known_after s k w f
  unsent_known e =
      every _ (λ i j. cells i j (ltb i s.cells) refl (ltb j 8) refl) (ap (λ (l : List ℕ). last_address s k w known l (k address)) (sym none))
      (kept (k data_mode)) (kept (k stepping)) refl refl refl (λ j. refl) (λ i. refl) refl (kept (k read_count)) (ap (λ (b : Bool). whether b (k position) (known 0)) (sym e))
    where
      empty : length (differing s k w) ≡ 0
      empty = eqb-true (length (differing s k w)) 0 e

      none : starts s k w ≡ []
      none = no_starts s.cells (differs s k w) empty

      kept : (x : Standing) → x ≡ whether (sends40 s k w) (known 0) x
      kept x = by (is_set k) (nothing s k w) e
        where
          by : (a b : Bool) → b ≡ true → x ≡ whether (not a && not b) (known 0) x
          by true b z = refl
          by false true z = refl
          by false false z = absurd (true≢false (sym z))

      cells : (i j : ℕ) (a : Bool) → ltb i s.cells ≡ a → (b : Bool) → ltb j 8 ≡ b
          → k (cell i j) ≡ whether a (whether b (known (digit j (wanted w i))) (k (cell i j))) (k (cell i j))
      cells i j true p true q =
          (holds_tests 8 (λ x. k (cell i x)) (wanted w i)).so (not-false _ (none_differs s.cells (differs s k w) empty i (ltb-true i s.cells p))) j (ltb-true j 8 q)
      cells i j true p false q = refl
      cells i j false p b q = refl
