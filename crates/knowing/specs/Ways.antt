-- Knowledge held as a value of some type K, which `view` reads as facts: what a rule makes of it, and how the ways of a look come together. A look
-- at a known fact is its one way, and one at an unknown fact is what all its ways have in common, gathered one after the other.
use Rattle.std.specs.Prelude.{ℕ, suc, ◌<◌, ◌≡◌, refl}
use Rattle.std.proofs.Math.Path.{ap, subst⁻¹}
use Rattle.std.proofs.Common.{◌∙◌}
use Rattle.rules.specs.Rule.{Form, value, Rule, look}
use Rattle.rules.specs.Change.{keep, change}
use Rattle.knowing.specs.Standing.{Standing, known, unknown, Within, Sound}
use Rattle.knowing.specs.Know.{lifted, learn, join, common, know}
use Rattle.knowing.specs.Changed.{learn_sound}
use Rattle.knowing.specs.Look.{look_known, look_unknown, know_same}

module _ {F K : Type 0} (view : K → F → Standing) where
  -- The knowledge r is what these forms make of k: a rule that looks at nothing.
  abbrev pub Becomes : (F → Form F) → K → K → Type 0
  Becomes φ k r = (f : F) → view r f ≡ lifted (view k) (φ f)

  -- a and b have r in common.
  abbrev pub Joins : K → K → K → Type 0
  Joins a b r = (f : F) → view r f ≡ join (view a f) (view b f)

  module _ (same? : Discrete F) where
    -- The knowledge r is k with g known to be v.
    abbrev pub Learns : F → ℕ → K → K → Type 0
    Learns g v k r = (f : F) → view r f ≡ learn same? g v (view k) f

    -- What a fact learns is what a rule that only sets it makes of it.
    pub learnt : (k r : K) (g : F) (v : ℕ) → Learns g v k r → Becomes (change same? g (value v) keep) k r
    learnt k r g v e f = e f ∙ go (same? f g)
      where
        go : (d : Dec (f ≡ g)) → ◌≡◌ {A = Standing} (elim d [ yes e ↦ known v | no n ↦ view k f ]) (lifted (view k) (elim d [ yes _ ↦ value v | no _ ↦ keep f ]))
        go (yes _) = refl
        go (no _) = refl

    -- What is learnt is in range where it is learnt within it.
    pub learns_sound : (range : F → ℕ) (k r : K) (g : F) (v : ℕ) → Learns g v k r → v < range g → Sound range (view k) → Sound range (view r)
    learns_sound range k r g v e h s f = subst⁻¹ (λ (t : Standing). Within (range f) t) (e f) (learn_sound same? (view k) g v range h s f)

-- A is what is answered: the knowledge again for a move, or a report. `out` reads it as what it answers for.
module _ {F R K A : Type 0} (view : K → F → Standing) (out : A → R → Standing) (same? : Discrete F) (range : F → ℕ) where
  -- The answer r is what the rule makes of k, fact by fact.
  abbrev pub Knows : Rule F R → K → A → Type 0
  Knows rule k r = (x : R) → out r x ≡ know same? range rule (view k) x

  -- A rule that is another, in name, makes the same of a knowledge.
  pub as_rule : (a b : Rule F R) (k : K) (r : A) → a ≡ b → Knows b k r → Knows a k r
  as_rule a b k r e h x = subst⁻¹ (λ (y : Rule F R). out r x ≡ know same? range y (view k) x) e (h x)

  -- One way of a look: what the rule makes of the knowledge with the value learnt.
  abbrev pub Way : Rule F R → K → F → ℕ → A → Type 0
  Way rule k g v r = (x : R) → out r x ≡ know same? range rule (learn same? g v (view k)) x

  pub way : (rule : Rule F R) (k l : K) (r : A) (g : F) (v : ℕ) → Learns view same? g v k l → Knows rule l r → Way rule k g v r
  way rule k l r g v e h x = h x ∙ know_same same? range rule (view l) (learn same? g v (view k)) e x

  module _ (g : F) (κ : ℕ → Rule F R) (k : K) where
    pub known_way : (r : A) (v : ℕ) → view k g ≡ known v → Knows (κ v) k r → Knows (look g κ) k r
    known_way r v e h x = look_known same? range g κ (view k) x v (out r x) e (h x)

    -- What the first n ways have in common.
    abbrev pub Gathers : ℕ → A → Type 0
    Gathers n r = (x : R) → out r x ≡ common n (λ w. know same? range (κ w) (learn same? g w (view k)) x)

    pub first_way : (r : A) → Way (κ 0) k g 0 r → Gathers 1 r
    unfolding common
    first_way r h = h

    pub next_way : (n : ℕ) (a b r : A) → Joins out a b r → Gathers (suc n) a → Way (κ (suc n)) k g (suc n) b → Gathers (suc (suc n)) r
    unfolding common
    next_way n a b r e h p x =
        e x ∙ ap (λ (s : Standing). join s (out b x)) (h x)
        ∙ ap (λ (s : Standing). join (common (suc n) (λ w. know same? range (κ w) (learn same? g w (view k)) x)) s) (p x)

    pub all_ways : (n : ℕ) (r : A) → range g ≡ n → view k g ≡ unknown → Gathers n r → Knows (look g κ) k r
    all_ways n r e u h x =
        look_unknown same? range g κ (view k) x (out r x) u
        (subst⁻¹ (λ (m : ℕ). out r x ≡ common m (λ w. know same? range (κ w) (learn same? g w (view k)) x)) e (h x))
