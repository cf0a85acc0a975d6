-- A run: records of bytes clocked in, one behind the other. The argument: what holds of one record behind another holds of
-- as many as there are.
use Rattle.std.specs.Prelude.{ℕ, zero, suc, ◌+◌, ◌*◌, ◌<◌, ◌≤◌, ◌≡◌, List, length, get_or}
use Rattle.std.proofs.Common.{arith, subst}
use Rattle.std.proofs.Math.Decide.{ℕ_discrete}
use Rattle.rules.specs.Rule.{Rule}
use Rattle.knowing.specs.Standing.{Standing}
use Rattle.knowing.specs.Know.{know}
use Rattle.terms.specs.declared.Event.{Event}
use Rattle.terms.specs.declared.Event.TheVariants.{ByteIn}
use Rattle.terms.specs.declared.Part.{Part}
use Rattle.recording.specs.Steps.{rest}
use Rattle.recording.specs.Walk.{Walk}
use Rattle.walks.specs.Kept.{Kept, kept_read}
use Rattle.walks.specs.Reads.{byte_there}

-- From a place on there are n records of kind 03, each with its byte.
pub record Run (l : List ℕ) (from n : ℕ) : Type 0 where
  pub fits : from + 2 * n ≤ length l
  pub kinds : (j : ℕ) → j < n → get_or l (from + 2 * j) 0 ≡ 3

-- The byte of number j of them.
abbrev pub byte_of : List ℕ → ℕ → ℕ → ℕ
byte_of l from j = get_or l (from + 2 * j + 1) 0

pub run_none : (l : List ℕ) (from : ℕ) → from ≤ length l → Run l from 0
run_none l from h = record { fits = omega (arith, h); kinds = λ j o. absurd (omega (arith, o)) }

-- One record more.
pub run_more : (l : List ℕ) (from n : ℕ) → Run l from n → from + 2 * n + 1 < length l → get_or l (from + 2 * n) 0 ≡ 3 → Run l from (n + 1)
run_more l from n run there kind = record { fits = omega (arith, there); kinds = each }
  where
    each : (j : ℕ) → j < n + 1 → get_or l (from + 2 * j) 0 ≡ 3
    each j o = go (ℕ_discrete j n)
      where
        go : Dec (j ≡ n) → get_or l (from + 2 * j) 0 ≡ 3
        go (yes e) = rw e kind
        go (no e) = run.kinds j (omega arith)

pub run_one : (l : List ℕ) (from : ℕ) → from + 1 < length l → get_or l from 0 ≡ 3 → Run l from 1
run_one l from there kind =
    let e : from + 2 * 0 ≡ from = omega arith in
    run_more l from 0 (run_none l from (omega (arith, there))) (omega (arith, there)) (rw e kind)

module _ {F : Type 0} (same? : Discrete F) (range : F → ℕ) (move : Event → Rule F F) where
  -- What is known behind each record of a run, one after the other, is what the walk knows behind it.
  pub kept_run : (p : Part) (l : List ℕ) (from n : ℕ) (w : Walk) (first : F → Standing) (known : ℕ → F → Standing) → Run l from n
      → ((j : ℕ) → j < n → (f : F) → known (suc j) f ≡ know same? range (move (ByteIn (byte_of l from j))) (known j) f)
      → Kept same? range move w first (rest p l from) (known 0) → Kept same? range move w first (rest p l (from + 2 * n)) (known n)
  kept_run p l from zero w first known run each kept = let e : from ≡ from + 2 * 0 = omega arith in subst (λ (i : ℕ). Kept same? range move w first (rest p l i) (known 0)) e kept
  kept_run p l from (suc n) w first known run each kept =
      let h = run.fits in
      let i : ℕ = from + 2 * n in
      let before = kept_run p l from n w first known (record { fits = omega (arith, h); kinds = λ j o. run.kinds j (omega (arith, o)) }) (λ j o. each j (omega (arith, o))) kept in
      let e : i + 2 ≡ from + 2 * suc n = omega arith in
      subst (λ (x : ℕ). Kept same? range move w first (rest p l x) (known (suc n))) e
      (kept_read same? range move p l i w first (known n) (known (suc n)) (ByteIn (byte_of l from n)) 2 (omega (arith, h)) (byte_there p l i (run.kinds n (omega arith)) (omega (arith, h))) (each n (omega arith)) before)
