-- Which facts an event leaves alone, and when one may be left as anything. The argument in each: every form of the event's rule has the
-- fact as it was, or says what becomes of it.
use Rattle.std.specs.Prelude.{ℕ, zero, suc, ◌%◌, ◌≡◌, refl, false, ◌≢◌, ltb, eqb}
use Rattle.rules.specs.Choice.{whether_all, of2_all, of4_all}
use Rattle.rules.specs.Rule.{Form, value, copy, Rule, look, run}
use Rattle.rules.specs.Change.{keep, set_bits}
use Rattle.rules.specs.Touch.{Leaves, Settles, settles, is_free, is_anything, change_leaves, AllSettle, keep_settles, change_settles, bits_settle}
use Rattle.terms.specs.declared.Event.{Event}
use Rattle.terms.specs.declared.Event.TheVariants.{Power, Falls, ByteIn, Rises, Gap, Unfinished, Keys, Switches, ByteOut}
use Rattle.segment.specs.declared.Sizes.{Sizes}
use Rattle.segment.specs.declared.Position.{Position}
use Rattle.segment.specs.declared.Position.TheVariants.{Ignoring, Open}
use Rattle.segment.specs.declared.Display.TheVariants.{Off}
use Rattle.segment.specs.declared.command.Command.{Command}
use Rattle.segment.specs.declared.command.Command.TheVariants.{Mode, Test, Setting, AnySetting, Control, Start}
use Rattle.segment.specs.Fact.{Fact, same?, cell, address, data_mode, stepping, mode, dimming, display, led, key, switches, read_count, position}
use Rattle.segment.specs.Value.{pointer, data_mode_of, steps, shows, at_position}
use Rattle.segment.specs.Command.{command_of, Defined}
use Rattle.segment.specs.Move.{Forms, sets, stores, lights, then, nothing, to_mode, commanded, after, stored_at, stored, written, byte_in, move}

-- The strobe and unfinished bits leave every fact alone but the position.
pub strobe_leaves : (s : Sizes) (n : ℕ) (f : Fact) → f ≢ position → Leaves f (move s Falls) × Leaves f (move s Rises) × Leaves f (move s (Unfinished n))
strobe_leaves s n f h =
    (change_leaves same? position _ keep f h refl, change_leaves same? position _ keep f h refl, change_leaves same? position _ keep f h refl)

-- A byte clocked out leaves every fact alone but the read count.
pub byte_out_leaves : (s : Sizes) (f : Fact) → f ≢ read_count → Leaves f (move s ByteOut)
byte_out_leaves s f h q =
    of4_all (Leaves f) _ _ _ _ refl refl
    (λ d. of4_all (Leaves f) _ _ _ _ refl refl (λ n. change_leaves same? read_count _ keep f h refl) (λ n. change_leaves same? read_count _ keep f h refl) d)
    refl q

-- A byte clocked in leaves keys and switches alone.
abbrev pub LeavesInputs : Rule Fact Fact → Type 0
LeavesInputs rule = ((i : ℕ) → Leaves (key i) rule) × Leaves switches rule

inputs_looked : (g : Fact) (k : ℕ → Rule Fact Fact) → ((w : ℕ) → LeavesInputs (k w)) → LeavesInputs (look g k)
inputs_looked g k h = (λ i w. (h w).0 i, λ w. (h w).1)

inputs_commanded : (m : Command) → LeavesInputs (commanded m)
inputs_commanded (Mode m) =
    inputs_looked mode (to_mode m) (λ old. whether_all LeavesInputs (eqb old m) _ _ (λ _. (λ i. refl, refl)) (λ _. (λ i. refl, refl)))
inputs_commanded Test = (λ i. refl, refl)
inputs_commanded (Setting d i) = (λ i. refl, refl)
inputs_commanded (AnySetting i) = (λ i. refl, refl)
inputs_commanded (Control d o) = (λ i. refl, refl)
inputs_commanded (Start a) = (λ i. refl, refl)

inputs_stored : (s : Sizes) (b a : ℕ) → LeavesInputs (stored s b a)
unfolding set_bits
inputs_stored s b zero = (λ i. refl, refl)
inputs_stored s b (suc i) =
    whether_all LeavesInputs (ltb i s.cells) _ _
    (λ _. inputs_looked stepping (stored_at s b i) (λ n. of2_all LeavesInputs _ _ (λ i. refl, refl) (λ i. refl, refl) n))
    (λ _. (λ i. refl, refl))

pub byte_in_leaves_inputs : (s : Sizes) (b : ℕ) → LeavesInputs (move s (ByteIn b))
unfolding set_bits
byte_in_leaves_inputs s b =
    inputs_looked position (byte_in s b)
    (λ q. of4_all LeavesInputs _ _ _ _
    (λ i. refl, refl)
    (inputs_commanded (command_of s b))
    (inputs_looked data_mode (written s b)
    (λ d. of4_all LeavesInputs _ _ _ _ (inputs_looked address (stored s b) (inputs_stored s b)) (λ i. refl, refl) (λ i. refl, refl) (λ i. refl, refl) d))
    (λ i. refl, refl)
    q)

-- Power and a gap leave facts as anything, and so may a byte that would be an undefined command.
abbrev pub Settled : Sizes → Event → Type 0
Settled s Power = ⊥
Settled s Falls = Unit
Settled s (ByteIn b) = Defined (command_of s b)
Settled s Rises = Unit
Settled s Gap = ⊥
Settled s (Unfinished n) = Unit
Settled s (Keys k0 k1 k2 k3) = Unit
Settled s (Switches v) = Unit
Settled s ByteOut = Unit

abbrev SettlesAll : Rule Fact Fact → Type 0
SettlesAll rule = (f : Fact) → Settles f rule

sets_settle : (g : Fact) (v : ℕ) (φ : Forms) → AllSettle same? φ → AllSettle same? (sets g v φ)
sets_settle g v φ h = change_settles same? g (value v) φ refl h

kept : AllSettle same? keep
kept = keep_settles same?

then_settles : (q : Position) → AllSettle same? (then q)
then_settles q = sets_settle position (at_position q) keep kept

commanded_settles : (m : Command) → Defined m → SettlesAll (commanded m)
commanded_settles (Mode m) h =
    λ f old. whether_all (Settles f) (eqb old m) _ _
    (λ _. then_settles Ignoring f)
    (λ _. sets_settle mode m (sets display (shows Off) (then Ignoring)) (sets_settle display (shows Off) _ (then_settles Ignoring)) f)
commanded_settles Test h = absurd h
commanded_settles (Setting d i) h =
    sets_settle data_mode (data_mode_of d) _ (sets_settle stepping (steps i) _ (sets_settle read_count 0 _ (then_settles Open)))
commanded_settles (AnySetting i) h = absurd h
commanded_settles (Control d o) h = sets_settle dimming d _ (sets_settle display (shows o) _ (then_settles Ignoring))
commanded_settles (Start a) h = sets_settle address (pointer a) _ (then_settles Open)

stores_settle : (i b : ℕ) → AllSettle same? (stores i b keep)
stores_settle i b = bits_settle same? (cell i) 8 b keep kept

lights_settle : (b : ℕ) → AllSettle same? (lights b keep)
lights_settle b = bits_settle same? led 4 b keep kept

stored_settles : (s : Sizes) (b a : ℕ) (f : Fact) → Settles f (stored s b a)
stored_settles s b zero f = refl
stored_settles s b (suc i) f =
    whether_all (Settles f) (ltb i s.cells) _ _
    (λ _ n. of2_all (Settles f) _ _
    (sets_settle address (pointer (after s i)) (stores i b keep) (stores_settle i b) f)
    (stores_settle i b f) n)
    (λ _. refl)

-- No other event leaves a fact as anything.
pub settled : (s : Sizes) (e : Event) → Settled s e → SettlesAll (move s e)
settled s Power h = absurd h
settled s Falls h = sets_settle position _ keep kept
settled s (ByteIn b) h =
    λ f q. of4_all (Settles f) _ _ _ _ refl (commanded_settles (command_of s b) h f)
    (λ d. of4_all (Settles f) _ _ _ _ (λ a. stored_settles s b a f) (lights_settle b f) refl refl d)
    refl q
settled s Rises h = sets_settle position _ keep kept
settled s Gap h = absurd h
settled s (Unfinished n) h = sets_settle position _ keep kept
settled s (Keys k0 k1 k2 k3) h =
    sets_settle (key 0) k0 _
    (sets_settle (key 1) k1 _
    (sets_settle (key 2) k2 _
    (change_settles same? (key 3) _ keep (whether_all (λ (x : Form Fact). is_free x ≡ false) (ltb 3 s.keys) (value k3) (copy (key 3)) (λ _. refl) (λ _. refl)) kept)))
settled s (Switches v) h = whether_all (AllSettle same?) s.switched _ _ (λ _. sets_settle switches (v % 16) keep kept) (λ _. kept)
settled s ByteOut h =
    λ f q. of4_all (Settles f) _ _ _ _ refl refl
    (λ d. of4_all (Settles f) _ _ _ _ refl refl (λ n. sets_settle read_count _ keep kept f) (λ n. sets_settle read_count _ keep kept f) d)
    refl q

-- A byte leaves a fact as anything only as a first byte that is an undefined command; data bytes never do.
pub byte_settles : (s : Sizes) (b : ℕ) (c : Fact → ℕ) → (c position ≡ 1 → Defined (command_of s b)) → (f : Fact) → is_anything (run (move s (ByteIn b)) c f) ≡ false
byte_settles s b c h f = go (c position) refl
  where
    nothing_settles : is_anything (run nothing c f) ≡ false
    nothing_settles = refl

    open_settles : is_anything (run (look data_mode (written s b)) c f) ≡ false
    open_settles =
        settles f (look data_mode (written s b)) c
        (λ d. of4_all (Settles f) _ _ _ _ (λ a. stored_settles s b a f) (lights_settle b f) refl refl d)

    go : (q : ℕ) → c position ≡ q → is_anything (run (byte_in s b q) c f) ≡ false
    go zero e = nothing_settles
    go (suc zero) e = settles f (commanded (command_of s b)) c (commanded_settles (command_of s b) (h e) f)
    go (suc (suc zero)) e = open_settles
    go (suc (suc (suc n))) e = nothing_settles
