-- A move as data. A chip is read as a function from its facts to numbers; a rule says what becomes of each fact. F is
-- the type of facts that a rule looks at, R that of what it answers for: the facts again for a move, one thing for a
-- report.
use Rattle.std.specs.Prelude.{ℕ, Bool, true, false, ◌≡◌}

-- What becomes of one thing: a value, what a fact was before, or anything in its range.
pub data Form (F : Type 0) : Type 0 where
  value : ℕ → Form F
  copy : F → Form F
  free : Form F

-- A rule looks at a fact and goes on by its value, until it has a form for each thing.
pub data Rule (F R : Type 0) : Type 0 where
  gives : (R → Form F) → Rule F R
  look : F → (ℕ → Rule F R) → Rule F R

-- What a move says of one thing: its new value, or that it is anything.
pub data Outcome : Type 0 where
  becomes : ℕ → Outcome
  anything : Outcome

abbrev pub outcome : {F : Type 0} → (F → ℕ) → Form F → Outcome
outcome c (value v) = becomes v
outcome c (copy g) = becomes (c g)
outcome c free = anything

-- A rule, run on a chip.
abbrev pub run : {F R : Type 0} → Rule F R → (F → ℕ) → R → Outcome
run (gives φ) c r = outcome c (φ r)
run (look g k) c r = run (k (c g)) c r

-- The value that a fact has afterwards, where it is written down, and whether it is anything.
pub record Told : Type 0 where
  pub value : ℕ
  pub any : Bool

-- What is told of a fact that had the value `old`: one that is anything is written down as it was.
abbrev pub told : ℕ → Outcome → Told
told old (becomes v) = record { value = v; any = false }
told old anything = record { value = old; any = true }

-- A chip that had the values `old` has the values `new`, and `any` says which facts are anything, as the rule has it:
-- the whole answer of a move, fact by fact.
abbrev pub Moves : {F : Type 0} → Rule F F → (F → ℕ) → (F → ℕ) → (F → Bool) → Type 0
Moves {F} rule old new any =
    (f : F) → ◌≡◌ {A = Told} (record { value = new f; any = any f }) (told (old f) (run rule old f))
