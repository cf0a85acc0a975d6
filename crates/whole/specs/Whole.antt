-- Events in turn, where each is clear. The argument: the chips that fit the knowledge at the end are exactly those to
-- which the events may lead a chip that fitted at the start. One way round a fitting chip goes on fitting; the other
-- way each fitting chip comes from a fitting one, event by event from the last to the first. What all ends have in
-- common stands in proofs/Whole.
use Rattle.std.specs.Prelude.{ℕ, ◌≤◌, ◌≡◌, refl, List, [], ◌∷◌, map}
use Rattle.std.proofs.Common.{arith, sym, ◌∙◌, subst}
use Rattle.std.proofs.Math.Path.{fun_ext, subst⁻¹}
use Rattle.rules.specs.Rule.{Rule}
use Rattle.rules.specs.Range.{Good, Ranged}
use Rattle.rules.specs.Turn.{Ends}
use Rattle.rules.proofs.Results.{result_good}
use Rattle.knowing.specs.Standing.{Standing, known, unknown, Agrees, Fits, Sound}
use Rattle.knowing.specs.Know.{know}
use Rattle.knowing.specs.Moves.{exactly, still_fits}
use Rattle.knowing.specs.Exact.{know_more}
use Rattle.knowing.specs.Range.{know_sound}
use Rattle.knowing.specs.Turn.{in_turn}
use Rattle.whole.specs.Sentence.{AllEnd}
use Rattle.whole.specs.Turns.{Chain, KnowsAtLeast}
use Rattle.whole.specs.Clear.{KnowsSteering, Clear, stays_steered, comes_from}
use Rattle.whole.specs.Usual.{Each, Throughout}

-- At the end f is known exactly when every fitting chip ends with the same value there, and has that value.
abbrev pub ExactAtEnd : {F : Type 0} → Discrete F → (F → ℕ) → List (Rule F F) → (F → Standing) → F → Type 0
ExactAtEnd same? range rules k f =
    (v : ℕ) → (in_turn same? range rules k f ≡ known v → AllEnd range rules k f v) × (AllEnd range rules k f v → in_turn same? range rules k f ≡ known v)

-- Two standings that are known alike are one.
alike : (s t : Standing) → ((v : ℕ) → s ≡ known v → t ≡ known v) → ((v : ℕ) → t ≡ known v → s ≡ known v) → s ≡ t
alike (known v) t h g = sym (h v refl)
alike unknown (known w) h g = g w refl
alike unknown unknown h g = refl

-- All chains from one knowledge, for one row of rules, end in one knowledge.
pub chain_one : {F : Type 0} (range : F → ℕ) (rules : List (Rule F F)) (k r q : F → Standing) → Chain range rules k r → Chain range rules k q → (f : F) → r f ≡ q f
chain_one range [] k r q h g = λ f. h f ∙ sym (g f)
chain_one range (rule ∷ rules) k r q h g =
    chain_one range rules h.0 r q h.2 (subst (λ (l : _). Chain range rules l q) (sym (fun_ext same)) g.2)
  where
    same : (f : _) → h.0 f ≡ g.0 f
    same f = alike (h.0 f) (g.0 f) (λ v e. (g.1 f v).1 ((h.1 f v).0 e)) (λ v e. (h.1 f v).1 ((g.1 f v).0 e))

-- Where an event carries what it may, its rule keeps facts in range.
module _ {E F : Type 0} (same? : Discrete F) (range : F → ℕ) (two : (f : F) → 2 ≤ range f) (move : E → Rule F F) (Carries : E → Type 0)
    (ranged : (e : E) → Carries e → Ranged range range (move e)) where
  pub knowing_sound : (e : E) (k : F → Standing) → Carries e → Sound range k → Sound range (know same? range (move e) k)
  knowing_sound e k b s = know_sound same? range (λ f. let t = two f in omega arith) range (move e) k (ranged e b) s

  -- Known values stay in range.
  pub turn_sound : (es : List E) (k : F → Standing) → Each Carries es → Sound range k → Sound range (in_turn same? range (map move es) k)
  turn_sound [] k b s = s
  turn_sound (e ∷ es) k b s = turn_sound es (know same? range (move e) k) b.1 (knowing_sound e k b.0 s)

  -- Events in turn make a chain of knowledges, each exact from the one before.
  pub turn_chain : (es : List E) (k : F → Standing) → Each Carries es → Sound range k → Chain range (map move es) k (in_turn same? range (map move es) k)
  turn_chain [] k b s = λ f. refl
  turn_chain (e ∷ es) k b s = (
    know same? range (move e) k,
    exactly same? range two (move e) k s,
    turn_chain es (know same? range (move e) k) b.1 (knowing_sound e k b.0 s),
  )

  -- A start that knows more, and contradicts nothing, ends knowing at least as much, with the same values.
  pub turn_more : (es : List E) (k l : F → Standing) → Each Carries es → Sound range k → Sound range l → KnowsAtLeast k l
      → KnowsAtLeast (in_turn same? range (map move es) k) (in_turn same? range (map move es) l)
  turn_more [] k l b s t more = more
  turn_more (e ∷ es) k l b s t more =
      turn_more es (know same? range (move e) k) (know same? range (move e) l) b.1 (knowing_sound e k b.0 s) (knowing_sound e l b.0 t)
      (know_more same? range two range two (move e) k l s t more)

  -- A chip that fitted fits, wherever the events have led it.
  pub ends_fit : (es : List E) (k : F → Standing) → Each Carries es → Sound range k → (c x : F → ℕ) → Good range c → Fits k c
      → Ends range (map move es) c x → Fits (in_turn same? range (map move es) k) x
  ends_fit [] k b s c x good fits h = λ f. subst⁻¹ (λ (w : ℕ). Agrees (k f) w) (h f) (fits f)
  ends_fit (e ∷ es) k b s c x good fits h =
      ends_fit es (know same? range (move e) k) b.1 (knowing_sound e k b.0 s) h.0 x (result_good range (move e) c h.0 (ranged e b.0) good h.1)
      (still_fits same? range two (move e) k s c good fits h.0 h.1) h.2

  -- Where an event is usual at a knowledge, its rule is clear there.
  module _ (Steers : F → Type 0) (Usual : E → (F → Standing) → Type 0) (clear : (e : E) (k : F → Standing) → Usual e k → Clear Steers (move e) k) where
    -- Events may lead a chip that fitted to every chip that fits at the end.
    pub fits_end : (es : List E) (k : F → Standing) → Each Carries es → Sound range k → KnowsSteering Steers k → Throughout same? range move Usual es k
        → (x : F → ℕ) → Good range x → Fits (in_turn same? range (map move es) k) x → (c : F → ℕ) × Good range c × Fits k c × Ends range (map move es) c x
    fits_end [] k b s t h x good fits = (x, good, fits, λ f. refl)
    fits_end (e ∷ es) k b s t h x good fits =
        let c = clear e k h.0 in
        let (y, yg, yf, ye) = fits_end es (know same? range (move e) k) b.1 (knowing_sound e k b.0 s) (stays_steered Steers same? range (move e) k t c) h.1 x good fits in
        let (z, zg, zf, zr) = comes_from Steers same? range two k s (move e) t c y yg yf in
        (z, zg, zf, (y, zr, ye))
