-- A cell is known to hold a byte exactly where each of its bits is known to be the byte's; and so it is known as a whole.
-- The argument is an induction over the width, from the low bit up.
use Rattle.std.specs.Prelude.{ℕ, zero, suc, ◌+◌, ◌*◌, ◌/◌, ◌%◌, ◌^◌, ◌<◌, ◌≡◌, refl, true, ◌&&◌}
use Rattle.std.proofs.Common.{arith, mod-lt, div-add-mod', div-lt_iff_lt-mul, pow-suc, sym, ap₂, ◌∙◌, subst, pow_pos, eq-eqb}
use Rattle.std.proofs.Math.Decide.{ℕ_discrete}
use Rattle.std.proofs.Math.Nat.{mod-eq_of_lt}
use Rattle.std.proofs.Math.Path.{ap}
use Rattle.std.proofs.Math.Arith.{digits_div, digits_mod}
use Rattle.rules.specs.Choice.{both}
use Rattle.rules.specs.Tests.{Tests}
use Rattle.rules.specs.Digit.{digit, binary, digit_below}
use Rattle.knowing.specs.Standing.{Standing, known, unknown, Within}
use Rattle.knowing.specs.Join.{known_one, not_known}
use Rattle.knowing.specs.Holds.{is_known, is_known_lem, holds, above, byte_in}

-- Every bit of a cell of w bits is known to be the byte's.
abbrev pub Spells : ℕ → (ℕ → Standing) → ℕ → Type 0
Spells w cell byte = (k : ℕ) → k < w → cell k ≡ known (digit k byte)

-- A chip whose cell has these w bits has that byte there.
abbrev pub HasByte : ℕ → (ℕ → ℕ) → ℕ → Type 0
HasByte w cell byte = (k : ℕ) → k < w → cell k ≡ digit k byte

pub holds_tests : (w : ℕ) (cell : ℕ → Standing) (byte : ℕ) → Tests (holds w cell byte) (Spells w cell byte)
holds_tests zero cell byte = record { so = λ _ k h. absurd (omega arith); back = λ _. refl }
holds_tests (suc w) cell byte = record {
  so = λ e k h. at (holds_tests w cell byte).so (both _ _ e) k h (ℕ_discrete k w);
  back = λ h. ap₂ ◌&&◌ (ap (λ (s : Standing). is_known s (digit w byte)) (h w (omega arith)) ∙ eq-eqb (digit w byte) (digit w byte) refl) ((holds_tests w cell byte).back (λ k l. h k (omega arith)));
}
  where
    at : (holds w cell byte ≡ true → Spells w cell byte) → (is_known (cell w) (digit w byte) ≡ true) × (holds w cell byte ≡ true) → (k : ℕ) → k < suc w → Dec (k ≡ w) → cell k ≡ known (digit k byte)
    at lower p k h (yes q) = rw q (is_known_lem (cell w) (digit w byte) p.0)
    at lower p k h (no n) = lower p.1 k (omega arith)

double : (w : ℕ) → 2 ^ suc w ≡ 2 ^ w + 2 ^ w
double w = pow-suc 2 w ∙ omega arith

-- Bit w of a number that has no bit above it.
top_digit : (w b : ℕ) → b < 2 ^ suc w → digit w b ≡ b / 2 ^ w
unfolding digit
top_digit w b h = mod-eq_of_lt ((div-lt_iff_lt-mul (pow_pos w)).1 (subst (λ (n : ℕ). b < n) (double w ∙ omega arith) h))

-- Where every bit is known, the byte is.
pub spelt_in : (w : ℕ) (cell : ℕ → Standing) (byte : ℕ) → byte < 2 ^ w → Spells w cell byte → byte_in w cell ≡ known byte
spelt_in zero cell byte h s = ap known (omega arith)
spelt_in (suc w) cell byte h s =
    ap₂ (above w) (s w (omega arith)) (spelt_in w cell (byte % 2 ^ w) (mod-lt byte (pow_pos w)) (λ k l. s k (omega arith) ∙ ap known (sym (digit_below w k byte l))))
    ∙ ap known (ap (λ (n : ℕ). n * 2 ^ w + byte % 2 ^ w) (top_digit w byte h) ∙ div-add-mod' byte (2 ^ w))

-- A number below 2 ^ w with a bit above it.
module _ (w v low : ℕ) (h : v < 2) (l : low < 2 ^ w) where
  bit_fits : v * 2 ^ w + low < 2 ^ suc w
  bit_fits = subst (λ (n : ℕ). v * 2 ^ w + low < n) (sym (double w)) (binary (λ (n : ℕ). n * 2 ^ w + low < 2 ^ w + 2 ^ w) (omega arith) (omega arith) v h)

  bit_at : digit w (v * 2 ^ w + low) ≡ v
  unfolding digit
  bit_at = ap (λ (n : ℕ). n % 2) (digits_div v l) ∙ mod-eq_of_lt h

  bits_below : (k : ℕ) → k < w → digit k (v * 2 ^ w + low) ≡ digit k low
  bits_below k o = sym (digit_below w k (v * 2 ^ w + low) o) ∙ ap (digit k) (digits_mod v l)

-- And where the byte is known, so is every bit of it.
pub in_spelt : (w : ℕ) (cell : ℕ → Standing) (byte : ℕ) → ((k : ℕ) → k < w → Within 2 (cell k)) → byte_in w cell ≡ known byte → (byte < 2 ^ w) × Spells w cell byte
in_spelt zero cell byte good e =
    let z = known_one 0 byte e in
    (omega arith, λ k h. absurd (omega arith))
in_spelt (suc w) cell byte good e = go (λ low. in_spelt w cell low (λ k l. good k (omega arith))) (cell w) (byte_in w cell) refl refl (good w (omega arith)) e
  where
    go : ((low : ℕ) → byte_in w cell ≡ known low → (low < 2 ^ w) × Spells w cell low) → (s t : Standing) → cell w ≡ s → byte_in w cell ≡ t → Within 2 s → above w s t ≡ known byte → (byte < 2 ^ suc w) × Spells (suc w) cell byte
    go lower (known v) (known low) p q h e =
        let n = known_one (v * 2 ^ w + low) byte e in
        let i = lower low q in
        subst (λ (b : ℕ). (b < 2 ^ suc w) × Spells (suc w) cell b) n (bit_fits w v low h i.0, λ k l. at i k l (ℕ_discrete k w))
      where
        at : (low < 2 ^ w) × Spells w cell low → (k : ℕ) → k < suc w → Dec (k ≡ w) → cell k ≡ known (digit k (v * 2 ^ w + low))
        at i k l (yes z) = rw z (p ∙ ap known (sym (bit_at w v low h i.0)))
        at i k l (no m) =
            let o : k < w = omega arith in
            i.1 k o ∙ ap known (sym (bits_below w v low h i.0 k o))
    go lower (known v) unknown p q h e = absurd (not_known byte e)
    go lower unknown t p q h e = absurd (not_known byte e)

-- A bit that is not known leaves the byte unknown.
pub bit_unknown : (w : ℕ) (cell : ℕ → Standing) (k : ℕ) → k < w → cell k ≡ unknown → byte_in w cell ≡ unknown
bit_unknown zero cell k h e = absurd (omega arith)
bit_unknown (suc w) cell k h e = go (λ l. bit_unknown w cell k l e) (ℕ_discrete k w)
  where
    nothing : (s : Standing) → above w s unknown ≡ unknown
    nothing (known v) = refl
    nothing unknown = refl

    go : (k < w → byte_in w cell ≡ unknown) → Dec (k ≡ w) → above w (cell w) (byte_in w cell) ≡ unknown
    go lower (yes p) = ap (λ (s : Standing). above w s (byte_in w cell)) (ap cell (sym p) ∙ e)
    go lower (no n) = ap (above w (cell w)) (lower (omega arith)) ∙ nothing (cell w)

-- Who knows every bit that is known here, with the same value, knows the byte, too.
pub in_more : (w : ℕ) (cell more : ℕ → Standing) → ((k v : ℕ) → cell k ≡ known v → more k ≡ known v) → (byte : ℕ) → byte_in w cell ≡ known byte → byte_in w more ≡ known byte
in_more zero cell more h byte e = e
in_more (suc w) cell more h byte e = go (cell w) (byte_in w cell) (h w) (in_more w cell more h) e
  where
    go : (s t : Standing) → ((v : ℕ) → s ≡ known v → more w ≡ known v) → ((low : ℕ) → t ≡ known low → byte_in w more ≡ known low) → above w s t ≡ known byte
        → above w (more w) (byte_in w more) ≡ known byte
    go (known v) (known low) p q e = rw (p v refl, q low refl) e
    go (known v) unknown p q e = absurd (not_known byte e)
    go unknown t p q e = absurd (not_known byte e)
