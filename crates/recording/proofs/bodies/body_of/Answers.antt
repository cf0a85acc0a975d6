-- `recording::bodies::body_of` meets its contract: sixteen digits, tried one after the other, and no body from kind 16 on.
-- Assumes nothing.
use Prim.Native.Nat.{ℕ, ◌*◌, ◌/◌, ◌%◌, ◌^◌, ◌<◌}
use native.Mathlib.Omega.{arith}
use mathlib.Core.Path.{◌≡◌, refl, sym}
use borrow.Enum.Match.{AllBelow, each_below}
use Rattle.recording.specs.Record.{body_of}
use Rattle.recording.specs.Laws.{no_body}
use Rattle.recording.proofs.bodies.body_of.Goals as goal

-- The digit of a kind in a number is the length of its body.
abbrev Right : ℕ → ℕ → Type 0
Right n k = n / 2 ^ (k * 4) % 16 ≡ body_of k

right : (n : ℕ) → AllBelow 16 (Right n) → (k : ℕ) → k < 16 → Right n k
right n = each_below 16 (Right n)

pub returns-then-kind-ge16 : goal.returns-then-kind-ge16
returns-then-kind-ge16 c = let h = c.if-kind-ge16.true in
    sym (no_body c.args.kind (λ e. omega (arith, h, e)) (λ e. omega (arith, h, e)) (λ e. omega (arith, h, e)) (λ e. omega (arith, h, e)))

pub returns : goal.returns
returns c = right _ (refl, (refl, (refl, (refl, (refl, (refl, (refl, (refl, (refl, (refl, (refl, (refl, (refl, (refl, (refl, (refl, tt)))))))))))))))) c.args.kind c.if-kind-ge16.false
