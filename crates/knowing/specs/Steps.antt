-- Knowledge told in two: a value of K, which is handed on, and a memory of M, which stands elsewhere. A step of A says what becomes of both. The argument: what holds of
-- the ways of a look for every memory holds of the step that gathers them.
use Rattle.std.specs.Prelude.{ℕ, ◌≡◌}
use Rattle.std.proofs.Math.Path.{subst⁻¹}
use Rattle.rules.specs.Rule.{Rule, look}
use Rattle.knowing.specs.Standing.{Standing, known, unknown}
use Rattle.knowing.specs.Ways.{Knows, Learns, Way, Gathers, way, known_way, all_ways}

-- `view` reads what is known before, and `out` what is known after a step, by what was known of the memory before it.
module _ {F K A M : Type 0} (view : M → K → F → Standing) (out : M → A → F → Standing) (Inside : A → Type 0) (same? : Discrete F) (range : F → ℕ) where
  -- The step r is what the rule makes of c, whatever is known of the memory, and it stays within it.
  pub record Steps (rule : Rule F F) (c : K) (r : A) : Type 0 where
    pub knows : (m : M) → Knows (view m) (out m) same? range rule c r
    pub inside : Inside r

  -- A rule that is another, in name, makes the same step.
  pub as_steps : {x y : Rule F F} {c : K} {r : A} → x ≡ y → Steps y c r → Steps x c r
  as_steps {x} {y} {c} {r} e h = subst⁻¹ (λ (z : Rule F F). Steps z c r) e h

  -- l is c with g known to be v, whatever is known of the memory.
  abbrev pub Learnt : F → ℕ → K → K → Type 0
  Learnt g v c l = (m : M) → Learns (view m) same? g v c l

  module _ (g : F) (κ : ℕ → Rule F F) (c : K) where
    -- The way of the value v, and what the first n ways have in common.
    pub record Goes (v : ℕ) (r : A) : Type 0 where
      pub ways : (m : M) → Way (view m) (out m) same? range (κ v) c g v r
      pub inside : Inside r

    pub record Gathered (n : ℕ) (r : A) : Type 0 where
      pub gathers : (m : M) → Gathers (view m) (out m) same? range g κ c n r
      pub inside : Inside r

    pub step_known : {r : A} (v : ℕ) → ((m : M) → view m c g ≡ known v) → Steps (κ v) c r → Steps (look g κ) c r
    step_known {r} v e h = record { knows = λ m. known_way (view m) (out m) same? range g κ c r v (e m) (h.knows m); inside = h.inside }

    pub goes : {r : A} (v : ℕ) (l : K) → Learnt g v c l → Steps (κ v) l r → Goes v r
    goes {r} v l e h = record { ways = λ m. way (view m) (out m) same? range (κ v) c l r g v (e m) (h.knows m); inside = h.inside }

    pub step_all : {r : A} (n : ℕ) → range g ≡ n → ((m : M) → view m c g ≡ unknown) → Gathered n r → Steps (look g κ) c r
    step_all {r} n e u h = record { knows = λ m. all_ways (view m) (out m) same? range g κ c n r e (u m) (h.gathers m); inside = h.inside }
