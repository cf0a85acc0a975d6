-- The same over whole chips, in demand 3's own words: after one event, a fact is known exactly when all chips that
-- fit the earlier knowledge, moved as the rules allow, agree on it, and has their value.
use Rattle.std.specs.Prelude.{ℕ, ◌≤◌, ◌≡◌, refl}
use Rattle.std.proofs.Common.{arith, sym, ◌∙◌}
use Rattle.std.proofs.Math.Path.{subst⁻¹}
use Rattle.rules.specs.Rule.{Rule, Outcome, becomes, anything, run}
use Rattle.rules.specs.Range.{Good}
use Rattle.rules.specs.Turn.{Allows, Result, put, put_same}
use Rattle.knowing.specs.Standing.{Standing, known, Fits, Sound}
use Rattle.knowing.specs.Know.{know}
use Rattle.knowing.specs.Exact.{know_exact, know_fits}

-- All results of all good fitting chips have the value v at f.
abbrev pub AllHave : {F : Type 0} → (F → ℕ) → Rule F F → (F → Standing) → F → ℕ → Type 0
AllHave {F} range rule k f v = (c : F → ℕ) → Good range c → Fits k c → (x : F → ℕ) → Result range rule c x → x f ≡ v

-- Some value that a move allows.
pub some : Outcome → ℕ
some (becomes v) = v
some anything = 0

pub allowed : (n : ℕ) (o : Outcome) → 2 ≤ n → Allows n o (some o)
unfolding some
allowed n (becomes v) h = refl
allowed n anything h = omega arith

module _ {F : Type 0} (same? : Discrete F) (range : F → ℕ) (two : (f : F) → 2 ≤ range f) where
  -- A result that has a value which the move allows at f.
  with_value : (rule : Rule F F) (c : F → ℕ) (f : F) (w : ℕ) → Allows (range f) (run rule c f) w → Result range rule c (put same? f w (λ g. some (run rule c g)))
  with_value rule c f w a g = go (same? g f)
    where
      go : (d : Dec (g ≡ f)) → Allows (range g) (run rule c g) (elim d [ yes _ ↦ w | no _ ↦ some (run rule c g) ])
      go (yes p) = subst⁻¹ (λ (h : F). Allows (range h) (run rule c h) w) p a
      go (no p) = allowed (range g) (run rule c g) (two g)

  pub exactly : (rule : Rule F F) (k : F → Standing) → Sound range k → (f : F) (v : ℕ)
      → (know same? range rule k f ≡ known v → AllHave range rule k f v)
      × (AllHave range rule k f v → know same? range rule k f ≡ known v)
  exactly rule k s f v =
      let e = know_exact same? range two range two rule k s f v in (
        λ p c good h x r. e.0 p c good h (x f) (r f),
        λ all. e.1 (λ c good h w a. sym (put_same same? f w (λ g. some (run rule c g))) ∙ all c good h (put same? f w (λ g. some (run rule c g))) (with_value rule c f w a)),
      )

  -- A chip that fitted the knowledge fits the new knowledge, whichever of its results it has become.
  pub still_fits : (rule : Rule F F) (k : F → Standing) → Sound range k → (c : F → ℕ) → Good range c → Fits k c
      → (x : F → ℕ) → Result range rule c x → Fits (know same? range rule k) x
  still_fits rule k s c good h x r f = know_fits same? range two range two rule k s c good h f (x f) (r f)
