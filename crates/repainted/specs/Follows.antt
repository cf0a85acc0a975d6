-- Rules in turn, where each looks only at what is known and leaves nothing as anything. The argument: take the chip
-- that has some number d wherever nothing is known. It goes the one way that the knowledge goes, rule by rule, and so
-- it ends as the knowledge does, with d wherever nothing is known. So whoever knows where that chip ends, for every
-- d, knows what is known at the end.
use Rattle.std.specs.Prelude.{ℕ, ◌≡◌, refl, Bool, true, false, List, [], ◌∷◌}
use Rattle.std.proofs.Common.{arith, sym, ap, ◌∙◌, true≢false}
use Rattle.std.proofs.Math.Path.{fun_ext, subst⁻¹}
use Rattle.rules.specs.Choice.{whether}
use Rattle.rules.specs.Rule.{Form, value, copy, free, Rule, gives, look, becomes, outcome, run}
use Rattle.rules.specs.Change.{change}
use Rattle.rules.specs.Laws.{says_by_value}
use Rattle.rules.specs.Touch.{is_free, AllSettle, change_settles}
use Rattle.rules.specs.Turn.{Surely, surely_ends, surely_only}
use Rattle.knowing.specs.Standing.{Standing, known, unknown}
use Rattle.knowing.specs.Know.{lifted, know}
use Rattle.knowing.specs.Look.{look_known}
use Rattle.knowing.specs.Fill.{fill, filled}
use Rattle.knowing.specs.Turn.{in_turn}

-- What is known of a fact is told by its values where the unknown is 0 and where it is 1.
told_by_filling : (s t : Standing) → ((d : ℕ) → fill d s ≡ fill d t) → s ≡ t
told_by_filling (known v) (known w) h = ap known (h 0)
told_by_filling (known v) unknown h = absurd (omega (arith, h 0, h 1))
told_by_filling unknown (known w) h = absurd (omega (arith, h 0, h 1))
told_by_filling unknown unknown h = refl

-- To set a fact leaves nothing as anything.
pub set_settles : {F : Type 0} (same? : Discrete F) (g : F) (v : ℕ) (φ : F → Form F) → AllSettle same? φ → AllSettle same? (change same? g (value v) φ)
set_settles same? g v φ h = change_settles same? g (value v) φ refl h

-- A number is filled in on either side of a choice, and of a choice within one.
pub filled_where : (d : ℕ) (t : Bool) (r s : Standing) → whether t (fill d r) (fill d s) ≡ fill d (whether t r s)
filled_where d true r s = refl
filled_where d false r s = refl

pub filled_bits : (d : ℕ) (t u : Bool) (r s : Standing) → whether t (whether u (fill d r) (fill d s)) (fill d s) ≡ fill d (whether t (whether u r s) s)
filled_bits d true u r s = filled_where d u r s
filled_bits d false u r s = refl

module _ {F : Type 0} (same? : Discrete F) (range : F → ℕ) where
  -- The chip that has d wherever k does not know becomes the chip that has d wherever nothing is known afterwards,
  -- for every d.
  abbrev pub Fills : Rule F F → (F → Standing) → Type 0
  Fills rule k = (d : ℕ) (f : F) → run rule (filled d k) f ≡ becomes (fill d (know same? range rule k f))

  -- So it is at each of the rules in turn.
  pub data Follows : List (Rule F F) → (F → Standing) → Type 0 where
    ends : {k : F → Standing} → Follows [] k
    step : {r : Rule F F} {rs : List (Rule F F)} {k : F → Standing} → Fills r k → Follows rs (know same? range r k) → Follows (r ∷ rs) k

  chip_follows : (rs : List (Rule F F)) (k : F → Standing) → Follows rs k → (d : ℕ) → Surely rs (filled d k) (filled d (in_turn same? range rs k))
  chip_follows rs k ends d = λ f. refl
  chip_follows rs k (step {r} {rs = qs} h t) d = (filled d (know same? range r k), h d, chip_follows qs (know same? range r k) t d)

  -- What is known at the end is t, where every end of these chips is t with d wherever it does not know.
  pub known_at_end : (rs : List (Rule F F)) (k t : F → Standing) → Follows rs k
      → ((d : ℕ) (x : F → ℕ) → Surely rs (filled d k) x → (f : F) → x f ≡ fill d (t f)) → (f : F) → in_turn same? range rs k f ≡ t f
  known_at_end rs k t h all f = told_by_filling _ (t f) (λ d. all d (filled d (in_turn same? range rs k)) (chip_follows rs k h d) f)

  -- Rules surely lead to one chip only.
  pub one_end : (rs : List (Rule F F)) (c x z : F → ℕ) → Surely rs c x → Surely rs c z → (f : F) → x f ≡ z f
  one_end rs c x z h g = surely_only range rs c z x g (surely_ends range rs c x h)

  -- So it is at the rule, and what the rule makes of k is such as I says.
  pub record Comes (rule : Rule F F) (k : F → Standing) (I : (F → Standing) → Type 0) : Type 0 where
    pub fills : Fills rule k
    pub then : I (know same? range rule k)

  form_fills : (d : ℕ) (k : F → Standing) (x : Form F) → is_free x ≡ false → outcome (filled d k) x ≡ becomes (fill d (lifted k x))
  form_fills d k (value v) h = refl
  form_fills d k (copy g) h = refl
  form_fills d k free h = absurd (true≢false h)

  -- Forms that leave nothing as anything.
  pub comes : (φ : F → Form F) (k : F → Standing) (I : (F → Standing) → Type 0) → AllSettle same? φ → I (know same? range (gives φ) k) → Comes (gives φ) k I
  comes φ k I h i = record { fills = λ d f. form_fills d k (φ f) (h f); then = i }

  -- A look at what is known.
  pub comes_by : (g : F) (κ : ℕ → Rule F F) (k : F → Standing) (I : (F → Standing) → Type 0) (v : ℕ) → k g ≡ known v → Comes (κ v) k I → Comes (look g κ) k I
  comes_by g κ k I v e c = record {
    fills = λ d f. says_by_value κ (filled d k) f _ (filled d k g) v (ap (fill d) e) (c.fills d f ∙ ap (λ (s : Standing). becomes (fill d s)) (sym (one f)));
    then = subst⁻¹ I (fun_ext one) c.then;
  }
    where
      one : (f : F) → know same? range (look g κ) k f ≡ know same? range (κ v) k f
      one f = sym (look_known same? range g κ k f v _ e refl)

  -- A rule, and the rules behind it.
  pub next : {r : Rule F F} {rs : List (Rule F F)} {k : F → Standing} (I : (F → Standing) → Type 0) → Comes r k I
      → ((l : F → Standing) → I l → Follows rs l) → Follows (r ∷ rs) k
  next {r} {k} I c h = step c.fills (h (know same? range r k) c.then)
