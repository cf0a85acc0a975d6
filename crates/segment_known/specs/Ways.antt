-- What the looks of this family come to: at a number that the code's match does not name, and at an unknown mode.
use Rattle.std.specs.Prelude.{ℕ, zero, suc, ◌/◌, ◌%◌, ◌≤◌, ◌≡◌, refl, Bool, true, false, eqb}
use Rattle.std.proofs.Common.{arith, sym, ap, ◌∙◌, eq-eqb, ne_eqb}
use Rattle.std.proofs.Math.Decide.{ℕ_discrete}
use Rattle.std.proofs.Math.Path.{subst⁻¹}
use Rattle.rules.specs.Choice.{whether, bit, of4, of4_all}
use Rattle.rules.specs.Rule.{Rule, gives, look}
use Rattle.knowing.specs.Standing as Of
use Rattle.knowing.specs.Know.{lifted, learn, join, common, know}
use Rattle.knowing.specs.Join.{join_itself, common_two}
use Rattle.knowing.specs.Look.{look_unknown}
use Rattle.knowing.specs.Ways as Ways
use Rattle.knowing.specs.Ways.{Way, Becomes, Joins, known_way}
use Rattle.segment.specs.declared.Sizes.{Sizes}
use Rattle.segment.specs.declared.Position.TheVariants.{Ignoring}
use Rattle.segment.specs.declared.Display.TheVariants.{Off}
use Rattle.segment.specs.declared.command.Command.{Command}
use Rattle.segment.specs.declared.command.Command.TheVariants.{Mode, Test, Setting, AnySetting, Control, Start}
use Rattle.segment.specs.Command.{command_of, mode_of, setting_of, stepping_of, display_of, pointer_of}
use Rattle.segment.specs.declared.Data.TheVariants.{WriteDisplay, WriteLed, ReadKeys, ReadSwitches}
use Rattle.segment.specs.Value.{shows}
use Rattle.segment.specs.Family.{sizes}
use Rattle.segment.specs.declared.Family.{Family}
use Rattle.segment.specs.declared.Family.TheVariants.{Pt6312, Pt6315}
use Rattle.segment.specs.Fact.{Fact, same?, range, cell, address, data_mode, stepping, mode, dimming, display, led, key, switches, read_count, position}
use Rattle.segment.specs.Laws.{every}
use Rattle.segment.specs.Move.{sets, then, nothing, to_mode}
use Rattle.fact.specs.View.{stands}
use Rattle.fact.specs.declared.Single.{Single}
use Rattle.fact.specs.declared.Single.TheVariants.{Known}
use Rattle.segment_knowledge.specs.declared.Control.{Control as Beside}
use Rattle.segment_knowledge.specs.View.{cview}
use Rattle.segment_steps.specs.Step.{Keeps}

-- The choices that no number of the code's match names.
pub other_in : (a b : Rule Fact Fact) (n : ℕ) → ¬ (n ≡ 1) → ¬ (n ≡ 2) → of4 nothing a b nothing n ≡ nothing
other_in a b zero p q = refl
other_in a b (suc zero) p q = absurd (p refl)
other_in a b (suc (suc zero)) p q = absurd (q refl)
other_in a b (suc (suc (suc n))) p q = refl

pub other_written : (a b : Rule Fact Fact) (n : ℕ) → ¬ (n ≡ 0) → ¬ (n ≡ 1) → of4 a b nothing nothing n ≡ nothing
other_written a b zero p q = absurd (p refl)
other_written a b (suc zero) p q = absurd (q refl)
other_written a b (suc (suc zero)) p q = refl
other_written a b (suc (suc (suc n))) p q = refl

-- The mode that a command names, if it is a mode command.
abbrev code_of : Command → ℕ
code_of (Mode m) = m
code_of Test = 0
code_of (Setting d i) = 0
code_of (AnySetting i) = 0
code_of (Control d o) = 0
code_of (Start a) = 0

small : (s : Sizes) (b : ℕ) → code_of (command_of s b) ≤ s.top
small s b =
    of4_all (λ (c : Command). code_of c ≤ s.top) (Mode (mode_of s b)) (setting_of s b) (Control (b % 8) (display_of b)) (Start (pointer_of s b)) (omega arith)
    (set (bit 3 b) s.switched (b % 4)) (omega arith) (omega arith) (b / 64)
  where
    last : (t : Bool) → code_of (whether t (Setting ReadSwitches (stepping_of b)) (AnySetting (stepping_of b))) ≤ s.top
    last true = omega arith
    last false = omega arith

    set : (t u : Bool) (n : ℕ) → code_of (whether t Test (of4 (Setting WriteDisplay (stepping_of b)) (Setting WriteLed (stepping_of b)) (Setting ReadKeys (stepping_of b))
        (whether u (Setting ReadSwitches (stepping_of b)) (AnySetting (stepping_of b))) n)) ≤ s.top
    set true u n = omega arith
    set false u zero = omega arith
    set false u (suc zero) = omega arith
    set false u (suc (suc zero)) = omega arith
    set false u (suc (suc (suc n))) = last u

pub mode_small : (s : Sizes) (b m : ℕ) → Mode m ≡ command_of s b → m ≤ s.top
mode_small s b m e = subst⁻¹ (λ (c : Command). code_of c ≤ s.top) e (small s b)

-- What is known of the display when a command names the mode m.
abbrev pub display_in : Of.Standing → ℕ → Of.Standing → Of.Standing
display_in (Of.known old) m shown = whether (eqb old m) shown (Of.known (shows Off))
display_in Of.unknown m shown = join shown (Of.known (shows Off))

-- The same in mode m, with that known of the display, and ignoring.
abbrev pub in_mode : Beside → ℕ → Single ℕ → Beside
in_mode c m shown = record {
  address = c.address;
  «data» = c.«data»;
  stepping = c.stepping;
  mode = Known m;
  dimming = c.dimming;
  display = shown;
  led = c.led;
  keys = c.keys;
  switches = c.switches;
  count = c.count;
  position = Known 3;
}

-- An unknown mode: it may be the one that the byte names, and then only the position changes, or another, and then the display goes off too.
mode_unknown : (s : Sizes) (c r a b : Beside) (m : ℕ) → m ≤ s.top → 1 ≤ s.top → stands c.mode ≡ Of.unknown → (cells : ℕ → ℕ → Of.Standing) → Joins (cview cells) a b r
    → Way (cview cells) (cview cells) same? (range s) (gives (then Ignoring)) c mode m a → Becomes (cview cells) (sets mode m (sets display (shows Off) (then Ignoring))) c b
    → Ways.Knows (cview cells) (cview cells) same? (range s) (look mode (to_mode m)) c r
mode_unknown s c r a b m small room u cells e p q f =
    look_unknown same? (range s) mode (to_mode m) (cview cells c) f (cview cells r f) u
    (e f ∙ sym (by (ℕ_discrete m 0)))
  where
    here : know same? (range s) (to_mode m m) (learn same? mode m (cview cells c)) f ≡ cview cells a f
    here = rw (eq-eqb m m refl) (sym (p f))

    there : (w : ℕ) → ¬ (w ≡ m) → know same? (range s) (to_mode m w) (learn same? mode w (cview cells c)) f ≡ cview cells b f
    there w d =
        rw (ne_eqb w m d)
        (every (λ (f : Fact). lifted (learn same? mode w (cview cells c)) (sets mode m (sets display (shows Off) (then Ignoring)) f) ≡ cview cells b f)
        (λ i k. sym (q (cell i k))) (sym (q address)) (sym (q data_mode)) (sym (q stepping)) (sym (q mode)) (sym (q dimming)) (sym (q display)) (λ k. sym (q (led k))) (λ i. sym (q (key i))) (sym (q switches))
        (sym (q read_count)) (sym (q position)) f)

    by : Dec (m ≡ 0) → common (suc s.top) (λ (w : ℕ). know same? (range s) (to_mode m w) (learn same? mode w (cview cells c)) f) ≡ join (cview cells a f) (cview cells b f)
    by (yes z) = common_two (suc s.top) _ (cview cells a f) (cview cells b f) m 1 (omega arith) (omega arith) (λ o. omega arith) here (λ w l d. there w d)
    by (no z) = common_two (suc s.top) _ (cview cells a f) (cview cells b f) m 0 (omega arith) (omega arith) (λ o. z (sym o)) here (λ w l d. there w d)

-- Every part has more than one mode.
pub top_room : (p : Family) → 1 ≤ (sizes p).top
unfolding sizes
top_room Pt6312 = omega arith
top_room Pt6315 = omega arith

-- A mode command, whatever is known of the mode so far.
pub mode_set : (s : Sizes) (c : Beside) (m : ℕ) (shown : Single ℕ) → m ≤ s.top → 1 ≤ s.top → stands shown ≡ display_in (stands c.mode) m (stands c.display)
    → Keeps s (look mode (to_mode m)) c (in_mode c m shown)
mode_set s c m shown small room e cells = go (stands c.mode) refl e
  where
    one : (v : ℕ) → stands c.mode ≡ Of.known v → stands shown ≡ whether (eqb v m) (stands c.display) (Of.known (shows Off)) → Dec (v ≡ m)
        → Ways.Knows (cview cells) (cview cells) same? (range s) (to_mode m v) c (in_mode c m shown)
    one v u d (yes p) = rw (eq-eqb v m p) (every _ (λ i k. refl) refl refl refl (ap Of.known (sym p) ∙ sym u) refl (rw (eq-eqb v m p) at d) (λ k. refl) (λ i. refl) refl refl refl)
    one v u d (no n) = rw (ne_eqb v m n) (every _ (λ i k. refl) refl refl refl refl refl (rw (ne_eqb v m n) at d) (λ k. refl) (λ i. refl) refl refl refl)

    go : (t : Of.Standing) → stands c.mode ≡ t → stands shown ≡ display_in t m (stands c.display) → Ways.Knows (cview cells) (cview cells) same? (range s) (look mode (to_mode m)) c (in_mode c m shown)
    go (Of.known v) u d = known_way (cview cells) (cview cells) same? (range s) mode (to_mode m) c (in_mode c m shown) v u (one v u d (ℕ_discrete v m))
    go Of.unknown u d =
        mode_unknown s c (in_mode c m shown) (in_mode c m c.display) (in_mode c m (Known 0)) m small room u cells
        (every _ (λ i k. sym (join_itself _)) (sym (join_itself _)) (sym (join_itself _)) (sym (join_itself _)) (sym (join_itself _)) (sym (join_itself _)) d (λ k. sym (join_itself _)) (λ i. sym (join_itself _)) (sym (join_itself _)) (sym (join_itself _)) (sym (join_itself _)))
        (every _ (λ i k. refl) refl refl refl refl refl refl (λ k. refl) (λ i. refl) refl refl refl)
        (every _ (λ i k. refl) refl refl refl refl refl refl (λ k. refl) (λ i. refl) refl refl refl)
