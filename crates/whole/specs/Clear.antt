-- A rule, where all that it looks at is known. The argument: it then goes one way, with every chip that fits, and
-- comes to one form for each fact. If each of these forms is a value, what the fact itself was, or anything, a
-- knowledge loses nothing by it: a chip that fits the new knowledge is a result of one that fitted the old, namely of
-- the one that has the same wherever the rule keeps a fact, and anything that fits elsewhere.
use Prim.Native.Nat.{ℕ, zero, suc, ◌<◌, ◌≤◌}
use Rattle.std.proofs.Common.{arith, sym, ap, ◌∙◌, subst}
use Rattle.std.specs.Prelude.{◌≡◌, refl}
use Rattle.std.proofs.Math.Path.{subst⁻¹}
use Rattle.rules.specs.Rule.{Form, value, copy, free, Rule, gives, look, Outcome, outcome, run}
use Rattle.rules.specs.Digit.{digit}
use Rattle.rules.specs.Change.{keep, change, set_bits}
use Rattle.rules.specs.Range.{Good}
use Rattle.rules.specs.Turn.{Allows, Result}
use Rattle.knowing.specs.Standing.{Standing, known, Agrees, Fits, Sound}
use Rattle.knowing.specs.Know.{lifted, know}
use Rattle.knowing.specs.Look.{look_known}
use Rattle.knowing.specs.Fill.{fill, filled_fits, filled_good}
use Rattle.whole.specs.Sentence.{IsKnown}

-- Some facts steer: they are what rules look at.
module _ {F : Type 0} (Steers : F → Type 0) where
  -- Every fact that steers is known.
  abbrev pub KnowsSteering : (F → Standing) → Type 0
  KnowsSteering k = (f : F) → Steers f → IsKnown (k f)

  -- The fact f becomes a value, stays what it was, or becomes anything; the last only if it does not steer.
  abbrev pub Own : F → Form F → Type 0
  Own f (value v) = Unit
  Own f (copy g) = g ≡ f
  Own f free = ¬ Steers f

  abbrev pub AllOwn : (F → Form F) → Type 0
  AllOwn φ = (f : F) → Own f (φ f)

  -- With the knowledge k, the rule looks only at facts that steer, and comes to such forms.
  abbrev pub Clear : Rule F F → (F → Standing) → Type 0
  Clear (gives φ) k = AllOwn φ
  Clear (look g κ) k = Steers g × ((v : ℕ) → k g ≡ known v → Clear (κ v) k)

  pub keep_own : AllOwn keep
  keep_own f = refl

  pub change_own : (same? : Discrete F) (g : F) (x : Form F) (φ : F → Form F) → Own g x → AllOwn φ → AllOwn (change same? g x φ)
  change_own same? g x φ h k f = go (same? f g)
    where
      go : (d : Dec (f ≡ g)) → Own f (elim d [ yes _ ↦ x | no _ ↦ φ f ])
      go (yes e) = subst⁻¹ (λ (y : F). Own y x) e h
      go (no n) = k f

  pub bits_own : (same? : Discrete F) (at : ℕ → F) (n b : ℕ) (φ : F → Form F) → AllOwn φ → AllOwn (set_bits same? at n b φ)
  unfolding set_bits
  bits_own same? at zero b φ h = h
  bits_own same? at (suc n) b φ h = change_own same? (at n) (value (digit n b)) (set_bits same? at n b φ) tt (bits_own same? at n b φ h)

  module _ (same? : Discrete F) (range : F → ℕ) where
    -- The forms to which the rule comes, for the knowledge and for every chip that fits it.
    pub record Resolved (rule : Rule F F) (k : F → Standing) : Type 0 where
      pub forms : F → Form F
      pub own : AllOwn forms
      pub knows : (f : F) → know same? range rule k f ≡ lifted k (forms f)
      pub runs : (c : F → ℕ) → Fits k c → (f : F) → run rule c f ≡ outcome c (forms f)

    pub resolved : (rule : Rule F F) (k : F → Standing) → KnowsSteering k → Clear rule k → Resolved rule k
    resolved (gives φ) k s h = record { forms = φ; own = h; knows = λ f. refl; runs = λ c _ f. refl }
    resolved (look g κ) k s h =
        let v = (s g h.0).0 in
        let e = (s g h.0).1 in
        let r = resolved (κ v) k s (h.1 v e) in record {
          forms = r.forms;
          own = r.own;
          knows = λ f. sym (look_known same? range g κ k f v (lifted k (r.forms f)) e (sym (r.knows f)));
          runs = λ c fits f.
              subst⁻¹ (λ (w : ℕ). run (κ w) c f ≡ outcome c (r.forms f)) (subst (λ (t : Standing). Agrees t (c g)) e (fits g)) (r.runs c fits f);
        }

    form_known : (k : F → Standing) → KnowsSteering k → (f : F) → Steers f → (x : Form F) → Own f x → IsKnown (lifted k x)
    form_known k s f n (value v) o = (v, refl)
    form_known k s f n (copy g) o = s g (subst⁻¹ Steers o n)
    form_known k s f n free o = absurd (o n)

    -- What steers stays known.
    pub stays_steered : (rule : Rule F F) (k : F → Standing) → KnowsSteering k → Clear rule k → KnowsSteering (know same? range rule k)
    stays_steered rule k s h f n =
        let r = resolved rule k s h in
        subst⁻¹ IsKnown (r.knows f) (form_known k s f n (r.forms f) (r.own f))

    -- What a fact that has the form x, and of which s was known, was before it became w.
    abbrev before : Form F → Standing → ℕ → ℕ
    before (value v) s w = fill 0 s
    before (copy g) s w = w
    before free s w = fill 0 s

    module _ (two : (f : F) → 2 ≤ range f) (k : F → Standing) (sound : Sound range k) where
      some : (f : F) → 0 < range f
      some f = let t = two f in omega arith

      before_good : (f : F) (x : Form F) (w : ℕ) → w < range f → before x (k f) w < range f
      before_good f (value v) w h = filled_good range 0 some k sound f
      before_good f (copy g) w h = h
      before_good f free w h = filled_good range 0 some k sound f

      before_fits : (f : F) (x : Form F) (w : ℕ) → Own f x → Agrees (lifted k x) w → Agrees (k f) (before x (k f) w)
      before_fits f (value v) w o h = filled_fits range 0 some k f
      before_fits f (copy g) w o h = subst (λ (y : F). Agrees (k y) w) o h
      before_fits f free w o h = filled_fits range 0 some k f

      -- Every chip that fits what the rule makes of the knowledge is a result of one that fitted before.
      pub comes_from : (rule : Rule F F) → KnowsSteering k → Clear rule k → (y : F → ℕ) → Good range y → Fits (know same? range rule k) y
          → (c : F → ℕ) × Good range c × Fits k c × Result range rule c y
      comes_from rule s h y good fits = (c, λ f. before_good f (r.forms f) (y f) (good f), fitted, made)
        where
          r : Resolved rule k
          r = resolved rule k s h

          c : F → ℕ
          c f = before (r.forms f) (k f) (y f)

          agrees : (f : F) → Agrees (lifted k (r.forms f)) (y f)
          agrees f = subst (λ (t : Standing). Agrees t (y f)) (r.knows f) (fits f)

          fitted : Fits k c
          fitted f = before_fits f (r.forms f) (y f) (r.own f) (agrees f)

          allows : (f : F) (x : Form F) → r.forms f ≡ x → Own f x → Agrees (lifted k x) (y f) → Allows (range f) (outcome c x) (y f)
          allows f (value v) e o a = a
          allows f (copy g) e o a = sym (ap c o ∙ ap (λ (x : Form F). before x (k f) (y f)) e)
          allows f free e o a = good f

          made : Result range rule c y
          made f = subst⁻¹ (λ (o : Outcome). Allows (range f) o (y f)) (r.runs c fitted f) (allows f (r.forms f) refl (r.own f) (agrees f))
