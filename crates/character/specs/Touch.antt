-- Which facts an event leaves alone, and when one may be left as anything. The argument in each: every form of the event's rule has the
-- fact as it was, or says what becomes of it.
use Rattle.std.specs.Prelude.{ℕ, zero, suc, ◌+◌, ◌*◌, ◌%◌, ◌≡◌, refl, false, ◌≢◌, eqb}
use Rattle.rules.specs.Choice.{whether_all, of6_all}
use Rattle.rules.specs.Rule.{value, gives, look, run}
use Rattle.rules.specs.Change.{keep}
use Rattle.rules.specs.Touch.{Leaves, Settles, settles, is_anything, change_leaves, AllSettle, keep_settles, change_settles, bits_settle}
use Rattle.terms.specs.declared.Event.{Event}
use Rattle.terms.specs.declared.Event.TheVariants.{Power, Falls, ByteIn, Rises, Gap, Unfinished, Keys, Switches, ByteOut}
use Rattle.character.specs.declared.command.Command.{Command}
use Rattle.character.specs.declared.command.Command.TheVariants.{Dcram, Cgram, Adram, Port, Duty, Digits, Light, Nothing, Undefined}
use Rattle.character.specs.declared.Position.{Position}
use Rattle.character.specs.declared.Position.TheVariants.{Dcram as in_dcram, Cgram as in_cgram, Adram as in_adram, Ignoring}
use Rattle.character.specs.Fact.{Fact, same?, dcram, cgram, adram, dcram_at, cgram_at, adram_at, column, port, duty, digits, lights, position}
use Rattle.character.specs.Value.{lit, at_position}
use Rattle.character.specs.Command.{command_of, Defined}
use Rattle.character.specs.Move.{Forms, sets, spells, then, commanded, shown, drawn, marked, byte_in, move}

-- The strobe and unfinished bits leave every fact alone but the position.
pub strobe_leaves : (n : ℕ) (f : Fact) → f ≢ position → Leaves f (move Falls) × Leaves f (move Rises) × Leaves f (move (Unfinished n))
strobe_leaves n f h =
    (change_leaves same? position _ keep f h refl, change_leaves same? position _ keep f h refl, change_leaves same? position _ keep f h refl)

-- Keys, switches and bytes out are no events of this part, and leave every fact alone.
pub foreign_leaves : (k0 k1 k2 k3 v : ℕ) (f : Fact) → Leaves f (move (Keys k0 k1 k2 k3)) × Leaves f (move (Switches v)) × Leaves f (move ByteOut)
foreign_leaves k0 k1 k2 k3 v f = (refl, refl, refl)

-- Power and a gap leave facts as anything, and so may a byte that would be an undefined command.
abbrev pub Settled : Event → Type 0
Settled Power = ⊥
Settled Falls = Unit
Settled (ByteIn b) = Defined (command_of b)
Settled Rises = Unit
Settled Gap = ⊥
Settled (Unfinished n) = Unit
Settled (Keys k0 k1 k2 k3) = Unit
Settled (Switches v) = Unit
Settled ByteOut = Unit

sets_settle : (g : Fact) (v : ℕ) (φ : Forms) → AllSettle same? φ → AllSettle same? (sets g v φ)
sets_settle g v φ h = change_settles same? g (value v) φ refl h

spells_settle : (at : ℕ → Fact) (w b : ℕ) (φ : Forms) → AllSettle same? φ → AllSettle same? (spells at w b φ)
spells_settle at w b φ h = bits_settle same? at w b φ h

kept : AllSettle same? keep
kept = keep_settles same?

then_settles : (q : Position) → AllSettle same? (then q)
then_settles q = sets_settle position (at_position q) keep kept

commanded_settles : (m : Command) → Defined m → AllSettle same? (commanded m)
commanded_settles (Dcram a) h = sets_settle dcram_at a.0 _ (then_settles in_dcram)
commanded_settles (Cgram a) h = sets_settle cgram_at a.0 _ (sets_settle column 0 _ (then_settles in_cgram))
commanded_settles (Adram a) h = sets_settle adram_at a.0 _ (then_settles in_adram)
commanded_settles (Port p) h = spells_settle port 2 p _ (then_settles Ignoring)
commanded_settles (Duty d) h = sets_settle duty d _ (then_settles Ignoring)
commanded_settles (Digits d) h = sets_settle digits d _ (then_settles Ignoring)
commanded_settles (Light l) h = sets_settle lights (lit l) _ (then_settles Ignoring)
commanded_settles Nothing h = then_settles Ignoring
commanded_settles Undefined h = absurd h

drawn_settles : (b a k : ℕ) (f : Fact) → Settles f (drawn b a k)
drawn_settles b a k f =
    let cells : Forms = spells (cgram (a % 8 * 5 + k % 5)) 7 b keep in
    let h = spells_settle (cgram (a % 8 * 5 + k % 5)) 7 b keep kept in
    whether_all (Settles f) (eqb (k % 5) 4) _ _
    (λ _. sets_settle cgram_at ((a % 8 + 1) % 8) (sets column 0 cells) (sets_settle column 0 cells h) f)
    (λ _. sets_settle column (k % 5 + 1) cells h f)

-- No other event leaves a fact as anything.
pub settled : (e : Event) → Settled e → (f : Fact) → Settles f (move e)
settled Power h = absurd h
settled Falls h = sets_settle position _ keep kept
settled (ByteIn b) h =
    λ f q. of6_all (Settles f) _ _ _ _ _ _ refl (commanded_settles (command_of b) h f)
    (λ a. sets_settle dcram_at ((a % 16 + 1) % 16) (spells (dcram (a % 16)) 8 b keep) (spells_settle (dcram (a % 16)) 8 b keep kept) f)
    (λ a k. drawn_settles b a k f)
    (λ a. sets_settle adram_at ((a % 16 + 1) % 16) (spells (adram (a % 16)) 2 b keep) (spells_settle (adram (a % 16)) 2 b keep kept) f)
    refl q
settled Rises h = sets_settle position _ keep kept
settled Gap h = absurd h
settled (Unfinished n) h = sets_settle position _ keep kept
settled (Keys k0 k1 k2 k3) h = kept
settled (Switches v) h = kept
settled ByteOut h = kept

-- A byte leaves a fact as anything only as a first byte that is an undefined command; data bytes never do.
pub byte_settles : (b : ℕ) (c : Fact → ℕ) → (c position ≡ 1 → Defined (command_of b)) → (f : Fact) → is_anything (run (move (ByteIn b)) c f) ≡ false
byte_settles b c h f = go (c position) refl
  where
    shown_settles : is_anything (run (look dcram_at (shown b)) c f) ≡ false
    shown_settles =
        settles f (look dcram_at (shown b)) c
        (λ a. sets_settle dcram_at ((a % 16 + 1) % 16) (spells (dcram (a % 16)) 8 b keep) (spells_settle (dcram (a % 16)) 8 b keep kept) f)

    columns_settle : is_anything (run (look cgram_at (λ a. look column (drawn b a))) c f) ≡ false
    columns_settle = settles f (look cgram_at (λ a. look column (drawn b a))) c (λ a k. drawn_settles b a k f)

    marked_settles : is_anything (run (look adram_at (marked b)) c f) ≡ false
    marked_settles =
        settles f (look adram_at (marked b)) c
        (λ a. sets_settle adram_at ((a % 16 + 1) % 16) (spells (adram (a % 16)) 2 b keep) (spells_settle (adram (a % 16)) 2 b keep kept) f)

    go : (q : ℕ) → c position ≡ q → is_anything (run (byte_in b q) c f) ≡ false
    go zero e = refl
    go (suc zero) e = settles f (gives (commanded (command_of b))) c (commanded_settles (command_of b) (h e) f)
    go (suc (suc zero)) e = shown_settles
    go (suc (suc (suc zero))) e = columns_settle
    go (suc (suc (suc (suc zero)))) e = marked_settles
    go (suc (suc (suc (suc (suc n))))) e = refl
