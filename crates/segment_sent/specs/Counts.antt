-- The looks of the report. An unknown read count may be 0 and 4: what is sent at 0 is a byte or unknown, and at 4 nothing is driven.
use Rattle.std.specs.Prelude.{ℕ, zero, suc, ◌%◌, ◌<◌, ◌≤◌, ◌≡◌, refl, Bool, true, false, List, length, get_or, eqb}
use Rattle.std.proofs.Common.{arith, sym, ap, ◌∙◌, subst, lt-ltb, le-ltb}
use Rattle.std.proofs.lemmas.List.{get_or_default}
use Rattle.key_codes.specs.View.{coded}
use Rattle.key_codes.specs.Codes.{coded_byte}
use Rattle.rules.specs.Choice.{whether, of4}
use Rattle.rules.specs.Rule.{Rule, look, value}
use Rattle.knowing.specs.Standing.{Standing, known, unknown, Within, Sound}
use Rattle.knowing.specs.Know.{learn, join, common, know}
use Rattle.knowing.specs.Join.{not_known, known_one, same_standing, join_both, join_swap, join_again, common_each}
use Rattle.knowing.specs.Look.{look_unknown}
use Rattle.knowing.specs.Ways.{Joins}
use Rattle.segment.specs.declared.Sizes.{Sizes}
use Rattle.segment.specs.declared.Family.{Family}
use Rattle.segment.specs.declared.Family.TheVariants.{Pt6312, Pt6315}
use Rattle.segment.specs.Family.{sizes}
use Rattle.segment.specs.Fact.{Fact, same?, lacking, range, data_mode, key, switches, read_count}
use Rattle.segment.specs.Sent.{not_driven, says, key_sent, switches_sent}
use Rattle.fact.specs.declared.Single.{Single}
use Rattle.segment.specs.declared.Sent.{Sent}
use Rattle.fact.specs.declared.Single.TheVariants.{Known}
use Rattle.segment.specs.declared.Sent.TheVariants.{NotDriven}
use Rattle.sendings.specs.Report.{reports}

-- Two ways that cannot agree.
module _ (n : ℕ) (s : ℕ → Standing) (i j : ℕ) (li : i < n) (lj : j < n) where
  pub never : Within not_driven (s i) → s j ≡ known not_driven → unknown ≡ common n s
  never w e =
      sym (same_standing (common n s) unknown
      (λ v c. absurd (apart (s i) w (common_each n s v c i li ∙ sym (common_each n s v c j lj) ∙ e)))
      (λ v c. absurd (not_known v c)))
    where
      apart : (t : Standing) → Within not_driven t → t ≡ known not_driven → ⊥
      apart (known u) h p =
          let z = known_one u not_driven p in
          omega arith
      apart unknown h p = not_known not_driven p

module _ (s : Sizes) (k : Fact → Standing) (u : k read_count ≡ unknown) where
  pub keys_unknown : 0 < s.keys → s.keys ≤ 4 → Within 256 (k (key 0)) → unknown ≡ know same? (range s) (look read_count (key_sent s)) k tt
  keys_unknown some most w =
      look_unknown same? (range s) read_count (key_sent s) k tt unknown u
      (never 5 (λ n. know same? (range s) (key_sent s n) (learn same? read_count n k) tt) 0 4 (omega arith) (omega arith) (rw (lt-ltb 0 s.keys some) w) (rw (le-ltb 4 s.keys most) refl))

  pub switches_unknown : Within 256 (k switches) → unknown ≡ know same? (range s) (look read_count switches_sent) k tt
  switches_unknown w =
      look_unknown same? (range s) read_count switches_sent k tt unknown u
      (never 5 (λ n. know same? (range s) (switches_sent n) (learn same? read_count n k) tt) 0 1 (omega arith) (omega arith) w refl)

-- Each part has key bytes, and at most four.
pub keys_room : (p : Family) → (0 < (sizes p).keys) × ((sizes p).keys ≤ 4)
unfolding sizes
keys_room Pt6312 = (omega arith, omega arith)
keys_room Pt6315 = (omega arith, omega arith)

-- Known key bytes of the part, and known switches where it has them, are bytes.
pub one_key : (p : Family) (k : Fact → Standing) (n : ℕ) → n < (sizes p).keys → Sound (range (sizes p)) k → Within 256 (k (key n))
one_key p k n h s = subst (λ (t : Bool). Within (whether t 256 lacking) (k (key n))) (lt-ltb n (sizes p).keys h) (s (key n))

pub first_key : (p : Family) (k : Fact → Standing) → Sound (range (sizes p)) k → Within 256 (k (key 0))
first_key p k s = one_key p k 0 (keys_room p).0 s

nibble_byte : (t : Standing) → Within 16 t → Within 256 t
nibble_byte (known v) h = omega arith
nibble_byte unknown h = tt

pub switches_in : (k : Fact → Standing) → Sound (range (sizes Pt6312)) k → Within 256 (k switches)
unfolding sizes
switches_in k s = nibble_byte (k switches) (s switches)

-- Only PT6312 has a fourth data mode.
pub switched_in : (p : Family) (k : Fact → Standing) → 3 < range (sizes p) data_mode → Sound (range (sizes p)) k → Within 256 (k switches)
unfolding sizes
switched_in Pt6312 k h s = switches_in k s
switched_in Pt6315 k h s = absurd (omega arith)

pub mode_room : (p : Family) → 2 < range (sizes p) data_mode
unfolding sizes
mode_room Pt6312 = omega arith
mode_room Pt6315 = omega arith

-- The choices that no number of the code's match names.
pub other_place : (a b : Rule Fact (Unit {0})) (n : ℕ) → ¬ (n ≡ 2) → of4 a a b a n ≡ a
other_place a b zero p = refl
other_place a b (suc zero) p = refl
other_place a b (suc (suc zero)) p = absurd (p refl)
other_place a b (suc (suc (suc n))) p = refl

pub other_mode : (q : Family) (a b : Rule Fact (Unit {0})) (n : ℕ) → n < range (sizes q) data_mode → ¬ (n ≡ 2) → ¬ (n ≡ 3) → of4 (says (value not_driven)) (says (value not_driven)) a b n ≡ says (value not_driven)
unfolding sizes
other_mode q a b zero h p r = refl
other_mode q a b (suc zero) h p r = refl
other_mode q a b (suc (suc zero)) h p r = absurd (p refl)
other_mode q a b (suc (suc (suc zero))) h p r = absurd (r refl)
other_mode q a b (suc (suc (suc (suc n)))) h p r = absurd (few q h)
  where
    few : (q : Family) → suc (suc (suc (suc n))) < range (sizes q) data_mode → ⊥
    few Pt6312 l = omega arith
    few Pt6315 l = omega arith

-- Not driven joined with not driven, and once more with what it was joined with.
pub undriven : Joins reports (Known NotDriven) (Known NotDriven) (Known NotDriven)
undriven _ = sym (join_both (known not_driven) (known not_driven) not_driven refl refl)

pub again : (b r : Single Sent) → Joins reports (Known NotDriven) b r → Joins reports r (Known NotDriven) r
again b r e x =
    e x ∙ join_swap (known not_driven) (reports b x) ∙ sym (join_again (reports b x) (known not_driven))
    ∙ ap (λ (t : Standing). join t (known not_driven)) (join_swap (reports b x) (known not_driven) ∙ sym (e x))

-- A code of a row that is within its range: below 256 it is the byte, and else nothing is known.
module _ (l : List ℕ) (n : ℕ) (h : n < length l) where
  pub read_code : get_or l n 0 < 256 → known (get_or l n 0 % 256) ≡ coded (get_or l n 256)
  read_code p =
      let e : get_or l n 0 % 256 ≡ get_or l n 0 = omega arith in
      ap known e ∙ sym (coded_byte (get_or l n 0) p) ∙ ap coded (get_or_default l n 0 256 h)

  pub no_code : 256 ≤ get_or l n 0 → Within 256 (coded (get_or l n 256)) → unknown ≡ coded (get_or l n 256)
  no_code p w = go (eqb (get_or l n 256) 256) refl w
    where
      go : (t : Bool) → eqb (get_or l n 256) 256 ≡ t → Within 256 (whether t unknown (known (get_or l n 256))) → unknown ≡ coded (get_or l n 256)
      go true e v = rw e refl
      go false e v =
          let z = get_or_default l n 0 256 h in
          absurd (omega arith)
