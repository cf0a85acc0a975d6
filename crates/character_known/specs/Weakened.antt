-- What is left known where a byte may have come as a command, as data, or not at all: beside the memory, and where in a RAM the byte may have gone to.
use Rattle.std.specs.Prelude.{ℕ, ◌+◌, ◌*◌, ◌%◌, ◌≡◌, refl, Bool, true, false, [], ◌∷◌, eqb}
use Rattle.std.proofs.Common.{arith, sym, ap, ◌∙◌, ⊎_elim}
use Rattle.std.proofs.Math.Path.{subst⁻¹}
use types.Run.{OneOf}
use denote.Enum.Declared.{tag_of}
use Rattle.character.specs.contracts.command.Command.{the_type}
use Rattle.rules.specs.Choice.{whether}
use Rattle.rules.specs.Change.{set_bits}
use Rattle.knowing.specs.Standing as Of
use Rattle.knowing.specs.Know.{lifted, learn, join}
use Rattle.knowing.specs.Join.{join_itself, join_not}
use Rattle.fact.specs.declared.Single.{Single}
use Rattle.fact.specs.declared.Single.TheVariants.{Known, Unknown}
use Rattle.terms.specs.declared.Address.{Address}
use Rattle.lamps.specs.View.{shown, OfByte, Meets}
use Rattle.lamps.specs.Lamp.{wide2, byte_none_past, byte_met_code}
use Rattle.changes.specs.declared.Change.{Change}
use Rattle.changes.specs.declared.Change.TheVariants.{Meet}
use Rattle.changes.specs.Laws.{met_told, bits_told}
use Rattle.character.specs.declared.command.Command.{Command}
use Rattle.character.specs.declared.command.Command.TheVariants.{Dcram, Cgram, Adram, Port, Duty, Digits, Light, Nothing, Undefined}
use Rattle.character.specs.Command.{Defined}
use Rattle.character.specs.Fact.{Fact, same?, dcram, cgram, adram, dcram_at, cgram_at, adram_at, column, port, duty, digits, lights, position}
use Rattle.character.specs.Laws.{ports_apart}
use Rattle.character.specs.Move.{commanded}
use Rattle.character_knowledge.specs.declared.Control.{Control}
use Rattle.character_knowledge.specs.View.{Memory, cview, points}

-- The cells of DCRAM or ADRAM, and the columns of CGRAM, that a byte may have gone to.
abbrev pub met_at : Single Address → ℕ → Change
met_at (Known a) b = Meet (record { 0 = a.0 % 16 }) 1 1 b
met_at Unknown b = Meet (record { 0 = 0 }) 1 16 b

abbrev pub met_column : Single Address → Single ℕ → ℕ → Change
met_column (Known a) (Known n) b = Meet (record { 0 = a.0 % 8 * 5 + n % 5 }) 1 1 b
met_column (Known a) Unknown b = Meet (record { 0 = a.0 % 8 * 5 }) 1 5 b
met_column Unknown (Known n) b = Meet (record { 0 = n % 5 }) 5 8 b
met_column Unknown Unknown b = Meet (record { 0 = 0 }) 1 40 b

-- A column may be the last of its character; and the address in CGRAM, where a column may have been drawn or not, stays before the last.
abbrev pub lasts : Single ℕ → Bool
lasts (Known n) = eqb (n % 5) 4
lasts Unknown = true

abbrev pub stays : Single Address → Single ℕ → Single Address
stays to col = whether (lasts col) Unknown to

-- What the command x makes of a fact of c, as a first byte.
abbrev pub said : Memory → Command → Control → Fact → Of.Standing
said m x c f = lifted (learn same? position 1 (cview m c)) (commanded x f)

abbrev pub left : Memory → Command → Control → Fact → Of.Standing
left m x c (dcram i k) = join (cview m c (dcram i k)) (said m x c (dcram i k))
left m x c (cgram i k) = join (cview m c (cgram i k)) (said m x c (cgram i k))
left m x c (adram i k) = join (cview m c (adram i k)) (said m x c (adram i k))
left m x c dcram_at = Of.unknown
left m x c cgram_at = join (points (stays c.cgram_at c.column)) (said m x c cgram_at)
left m x c adram_at = Of.unknown
left m x c column = Of.unknown
left m x c (port k) = join (cview m c (port k)) (said m x c (port k))
left m x c duty = join (cview m c duty) (said m x c duty)
left m x c digits = join (cview m c digits) (said m x c digits)
left m x c lights = join (cview m c lights) (said m x c lights)
left m x c position = cview m c position

-- The control r is what is left of c where the command x may have come.
abbrev pub Weakens : Command → Control → Control → Type 0
Weakens x c r = (m : Memory) (f : Fact) → cview m r f ≡ left m x c f

-- What a command leaves is known as before.
pub same : (s : Of.Standing) → s ≡ join s s
same s = sym (join_itself s)

pub same_place : (to : Single Address) (col : Single ℕ) → points (stays to col) ≡ join (points (stays to col)) (points to)
same_place to col = go (lasts col)
  where
    go : (t : Bool) → points (whether t Unknown to) ≡ join (points (whether t Unknown to)) (points to)
    go true = join_not Of.unknown (points to) refl
    go false = same (points to)

-- The port meets the bits that the command has.
pub port_met : (c : Control) (p code r : ℕ) → OfByte 2 p code → Meets 771 code c.port r → (m : Memory) (k : ℕ) → shown 2 r k ≡ join (shown 2 c.port k) (said m (Port p) c (port k))
unfolding set_bits
port_met c p code r o h m k =
    h 2 wide2 (byte_none_past 2 p code o) k ∙ byte_met_code 2 p code o k (shown 2 c.port k) ∙ met_told 2 p k (shown 2 c.port k)
    ∙ ap (join (shown 2 c.port k)) (bits_told same? port ports_apart (learn same? position 1 (cview m c)) 2 p k)

-- Said of a command that is another, in name.
pub as_said : {x y : Command} (c r : Control) → x ≡ y → Weakens y c r → Weakens x c r
as_said c r e h = subst⁻¹ (λ (z : Command). Weakens z c r) e h

-- A command that is not the undefined one, as the code tells them apart, is defined.
pub defined : (x : Command) → OneOf (0 ∷ 1 ∷ 2 ∷ 3 ∷ 4 ∷ 5 ∷ 6 ∷ 7 ∷ []) (tag_of the_type x) → Defined x
defined (Dcram a) k = tt
defined (Cgram a) k = tt
defined (Adram a) k = tt
defined (Port p) k = tt
defined (Duty d) k = tt
defined (Digits d) k = tt
defined (Light l) k = tt
defined Nothing k = tt
defined Undefined k =
    ⊎_elim (λ e. omega (arith, e))
    (⊎_elim (λ e. omega (arith, e))
    (⊎_elim (λ e. omega (arith, e))
    (⊎_elim (λ e. omega (arith, e)) (⊎_elim (λ e. omega (arith, e)) (⊎_elim (λ e. omega (arith, e)) (⊎_elim (λ e. omega (arith, e)) (λ e. omega (arith, e)))))))) k

-- So is one that is none, said by an equation.
pub defined_unless : (x : Command) → ¬ (x ≡ Undefined) → Defined x
defined_unless (Dcram a) n = tt
defined_unless (Cgram a) n = tt
defined_unless (Adram a) n = tt
defined_unless (Port p) n = tt
defined_unless (Duty d) n = tt
defined_unless (Digits d) n = tt
defined_unless (Light l) n = tt
defined_unless Nothing n = tt
defined_unless Undefined n = absurd (n refl)
