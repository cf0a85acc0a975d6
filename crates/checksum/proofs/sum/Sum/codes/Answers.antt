-- `codes` meets its contract. The argument: after i turns the numbers in front of place i are taken, one after the other. Assumes nothing.
use Prim.Native.Nat.{ℕ, zero, suc, ◌<◌}
use native.Mathlib.Numerals.{add-one}
use native.Mathlib.Omega.{arith}
use mathlib.Core.Path.{◌≡◌, refl, sym, ap, ◌∙◌}
use mathlib.Core.List.{List, [], ◌∷◌}
use lib.ListN.{length, take, get_or}
use Rattle.checksum.specs.Sum.{taken, all_taken}
use Rattle.checksum.proofs.sum.Sum.codes.Goals as goal

-- One number more.
more : (sum i : ℕ) (codes : List ℕ) → i < length codes → taken (all_taken sum (take i codes)) (get_or codes i 0) ≡ all_taken sum (take (suc i) codes)
more sum i [] h = absurd (omega arith)
more sum zero (n ∷ rest) h = refl
more sum (suc i) (n ∷ rest) h = more (taken sum n) i rest (omega arith)

pub loop-code-preserved : goal.loop-code-preserved
loop-code-preserved c =
    let codes = c.args.codes.now in
    let first = c.args.self.0 in
    let i = c.loop-code.code-index in
    c.take-sum.ensures ∙ ap (λ (s : ℕ). taken s (get_or codes i 0)) c.loop-code.invariant ∙ more first i codes (omega arith)
    ∙ ap (λ (n : ℕ). all_taken first (take n codes)) (sym (add-one i))
