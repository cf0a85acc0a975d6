-- What is told of a field, by the tests that come first.
use Rattle.std.specs.Prelude.{ℕ, ◌≡◌, refl, Bool, true, false, ◌||◌}
use Rattle.std.proofs.Common.{sym, true≢false}
use Rattle.knowing.specs.Standing as Of
use Rattle.knowing.specs.Standing.{Standing}
use Rattle.field.specs.Said.{dark, unknown}
use Rattle.field.specs.Field.{spelled, is_dark, if_known, if_all, told}

-- Lights or digits are not known.
abbrev pub is_unknown : Standing → Bool
is_unknown (Of.known v) = false
is_unknown Of.unknown = true

abbrev pub either_unknown : Standing → Standing → Bool
either_unknown lights digits = is_unknown lights || is_unknown digits

module _ (lights digits : Standing) (cell : ℕ → Standing) (start : ℕ) where
  pub told_dark : is_dark lights digits start ≡ true → told lights digits cell start ≡ dark
  told_dark e = rw e refl

  pub told_unknown : is_dark lights digits start ≡ false → either_unknown lights digits ≡ true → told lights digits cell start ≡ unknown
  told_unknown e = λ u. rw e (go lights digits u)
    where
      go : (x y : Standing) → either_unknown x y ≡ true → if_known x (λ _. if_known y (λ _. if_all cell start spelled)) ≡ unknown
      go (Of.known v) (Of.known w) u = absurd (true≢false (sym u))
      go (Of.known v) Of.unknown u = refl
      go Of.unknown y u = refl

  pub told_cells : is_dark lights digits start ≡ false → either_unknown lights digits ≡ false → told lights digits cell start ≡ if_all cell start spelled
  told_cells e = λ u. rw e (go lights digits u)
    where
      go : (x y : Standing) → either_unknown x y ≡ false → if_known x (λ _. if_known y (λ _. if_all cell start spelled)) ≡ if_all cell start spelled
      go (Of.known v) (Of.known w) u = refl
      go (Of.known v) Of.unknown u = absurd (true≢false u)
      go Of.unknown y u = absurd (true≢false u)
