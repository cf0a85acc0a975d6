-- A move keeps every fact in its range. The argument: a form that sets a fact to a value in its range, over forms in range, is in range;
-- each rule is made of such forms, and what a command carries is in range.
use Rattle.std.specs.Prelude.{ℕ, ◌+◌, ◌*◌, ◌<◌, ◌≤◌, ◌/◌, ◌%◌, eqb}
use Rattle.std.proofs.Common.{arith}
use Rattle.std.proofs.lemmas.Bool.{eqb-false}
use Rattle.rules.specs.Choice.{whether_all, of6_all}
use Rattle.rules.specs.Rule.{value, Rule, gives}
use Rattle.rules.specs.Change.{keep}
use Rattle.rules.specs.Range.{Good, moves_good, Ranged, InRange, keep_fits, change_fits, bits_fit}
use Rattle.terms.specs.declared.Event.{Event}
use Rattle.terms.specs.declared.Event.TheVariants.{Power, Falls, ByteIn, Rises, Gap, Unfinished, Keys, Switches, ByteOut}
use Rattle.character.specs.declared.command.Command.{Command}
use Rattle.character.specs.declared.command.Command.TheVariants.{Dcram, Cgram, Adram, Port, Duty, Digits, Light, Nothing, Undefined}
use Rattle.character.specs.declared.Lights.{Lights}
use Rattle.character.specs.declared.Lights.TheVariants.{Normal, Off, On}
use Rattle.character.specs.declared.Position.{Position}
use Rattle.character.specs.declared.Position.TheVariants.{Idle, First, Dcram as in_dcram, Cgram as in_cgram, Adram as in_adram, Ignoring}
use Rattle.character.specs.Fact.{Fact, same?, range, dcram, cgram, adram, dcram_at, cgram_at, adram_at, column, port, duty, digits, lights, position}
use Rattle.character.specs.Value.{lit, at_position}
use Rattle.character.specs.Command.{lights_of, spare_of, command_of}
use Rattle.character.specs.Move.{Forms, sets, spells, then, commanded, drawn, move}
use Rattle.character.specs.Laws.{every, port_undefined}
use Rattle.character.specs.declared.Character.{Character}
use Rattle.character.specs.declared.Moved.{Moved}
use Rattle.character.specs.View.{view, covers, By}

lit_fits : (l : Lights) → lit l < 3
lit_fits Normal = omega arith
lit_fits Off = omega arith
lit_fits On = omega arith

position_fits : (p : Position) → at_position p < 6
position_fits Idle = omega arith
position_fits First = omega arith
position_fits in_dcram = omega arith
position_fits in_cgram = omega arith
position_fits in_adram = omega arith
position_fits Ignoring = omega arith

-- What a command carries is in range.
abbrev pub CommandInRange : Command → Type 0
CommandInRange (Dcram a) = a.0 < 16
CommandInRange (Cgram a) = a.0 < 8
CommandInRange (Adram a) = a.0 < 16
CommandInRange (Port p) = p < 4
CommandInRange (Duty d) = d < 8
CommandInRange (Digits d) = d < 8
CommandInRange (Light l) = Unit
CommandInRange Nothing = Unit
CommandInRange Undefined = Unit

pub command_in_range : (b : ℕ) → CommandInRange (command_of b)
command_in_range b =
    whether_all CommandInRange (eqb (b / 16) 1) (Dcram (record { 0 = b % 16 })) _ (λ _. omega arith)
    (λ _. whether_all CommandInRange (eqb (b / 16) 2) (Cgram (record { 0 = b % 8 })) _ (λ _. omega arith)
    (λ _. whether_all CommandInRange (eqb (b / 16) 3) (Adram (record { 0 = b % 16 })) _ (λ _. omega arith)
    (λ _. whether_all CommandInRange (eqb (b / 16) 4) (Port (b % 4)) _ (λ _. omega arith)
    (λ _. whether_all CommandInRange (eqb (b / 16) 5) (Duty (b % 8)) _ (λ _. omega arith)
    (λ _. whether_all CommandInRange (eqb (b / 16) 6) (Digits (b % 8)) _ (λ _. omega arith)
    (λ _. whether_all CommandInRange (eqb (b / 16) 7) (Light (lights_of b)) (spare_of b) (λ _. tt)
    (λ _. whether_all CommandInRange (eqb b 0x80) _ _ (λ _. tt) (λ _. whether_all CommandInRange (eqb b 0x88) _ _ (λ _. tt) (λ _. tt)))))))))

-- Setting a fact to a value in its range keeps forms in range.
pub sets_fit : (g : Fact) (v : ℕ) (φ : Forms) → v < range g → InRange same? range φ → InRange same? range (sets g v φ)
sets_fit g v φ h k = change_fits same? range g (value v) φ h k

-- No fact has fewer than two values.
pub two : (f : Fact) → 2 ≤ range f
two =
    every _ (λ i k. omega arith) (λ i k. omega arith) (λ i k. omega arith) (omega arith) (omega arith) (omega arith) (omega arith) (λ k. omega arith)
    (omega arith) (omega arith) (omega arith) (omega arith)

-- So the bits of a number fit everywhere.
spells_fit : (at : ℕ → Fact) (w b : ℕ) (φ : Forms) → InRange same? range φ → InRange same? range (spells at w b φ)
spells_fit at w b φ k = bits_fit same? range at w b φ (λ n _. two (at n)) k

kept : InRange same? range keep
kept = keep_fits same? range

then_fits : (q : Position) → InRange same? range (then q)
then_fits q = sets_fit position (at_position q) keep (position_fits q) kept

abbrev Fine : Rule Fact Fact → Type 0
Fine rule = Ranged range range rule

commanded_fits : (m : Command) → CommandInRange m → InRange same? range (commanded m)
commanded_fits (Dcram a) h = sets_fit dcram_at a.0 _ h (then_fits in_dcram)
commanded_fits (Cgram a) h = sets_fit cgram_at a.0 _ h (sets_fit column 0 _ (omega arith) (then_fits in_cgram))
commanded_fits (Adram a) h = sets_fit adram_at a.0 _ h (then_fits in_adram)
commanded_fits (Port p) h = spells_fit port 2 p _ (then_fits Ignoring)
commanded_fits (Duty d) h = sets_fit duty d _ h (then_fits Ignoring)
commanded_fits (Digits d) h = sets_fit digits d _ h (then_fits Ignoring)
commanded_fits (Light l) h = sets_fit lights (lit l) _ (lit_fits l) (then_fits Ignoring)
commanded_fits Nothing h = then_fits Ignoring
commanded_fits Undefined h = every _ (λ i k. tt) (λ i k. tt) (λ i k. tt) tt tt tt tt (λ k. rw (port_undefined k) tt) tt tt tt (omega arith)

drawn_fits : (b a k : ℕ) → Fine (drawn b a k)
drawn_fits b a k =
    let cells : Forms = spells (cgram (a % 8 * 5 + k % 5)) 7 b keep in
    let h = spells_fit (cgram (a % 8 * 5 + k % 5)) 7 b keep kept in
    whether_all Fine (eqb (k % 5) 4) (gives (sets cgram_at ((a % 8 + 1) % 8) (sets column 0 cells))) (gives (sets column (k % 5 + 1) cells))
    (λ _. sets_fit cgram_at ((a % 8 + 1) % 8) (sets column 0 cells) (omega arith) (sets_fit column 0 cells (omega arith) h))
    (λ t. let n = eqb-false (k % 5) 4 t in sets_fit column (k % 5 + 1) cells (omega arith) h)

pub ranged : (e : Event) → Ranged range range (move e)
ranged Power =
    every _ (λ i k. tt) (λ i k. tt) (λ i k. tt) (omega arith) (omega arith) (omega arith) (omega arith) (λ k. spells_fit port 2 0 keep kept (port k))
    (omega arith) (omega arith) (omega arith) (omega arith)
ranged Falls = then_fits First
ranged (ByteIn b) =
    λ q _. of6_all Fine _ _ _ _ _ _
    kept
    (commanded_fits (command_of b) (command_in_range b))
    (λ a _. sets_fit dcram_at ((a % 16 + 1) % 16) (spells (dcram (a % 16)) 8 b keep) (omega arith) (spells_fit (dcram (a % 16)) 8 b keep kept))
    (λ a _ k _. drawn_fits b a k)
    (λ a _. sets_fit adram_at ((a % 16 + 1) % 16) (spells (adram (a % 16)) 2 b keep) (omega arith) (spells_fit (adram (a % 16)) 2 b keep kept))
    kept
    q
ranged Rises = then_fits Idle
ranged Gap = λ f. tt
ranged (Unfinished n) = then_fits Idle
ranged (Keys k0 k1 k2 k3) = kept
ranged (Switches v) = kept
ranged ByteOut = kept

-- A move of a chip in range gives a chip in range.
pub stays_good : (e : Event) (c : Character) (m : Moved) → By (move e) c m → Good range (view c) → Good range (view m.chip)
stays_good e c m b g = moves_good range (move e) (view c) (view m.chip) (covers m.any) (ranged e) g b
