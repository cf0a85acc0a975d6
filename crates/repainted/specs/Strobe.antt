-- A strobe, for any part. The argument: it falls, whatever was known, and so its first byte is known to be a command;
-- what the command sets is known, and a row of bytes behind it may look at that; at last it rises. So strobes are
-- taken one by one, each from what its predecessors have set.
use Rattle.std.specs.Prelude.{ℕ, ◌≡◌, List, [], ◌∷◌, ◌++◌, map}
use Rattle.rules.specs.Rule.{Form, value, Rule, gives, look}
use Rattle.rules.specs.Change.{keep, change}
use Rattle.rules.specs.Touch.{AllSettle, keep_settles}
use Rattle.knowing.specs.Standing.{Standing}
use Rattle.knowing.specs.Know.{know}
use Rattle.knowing.specs.Changed.{set_same}
use Rattle.terms.specs.declared.Event.{Event}
use Rattle.terms.specs.declared.Event.TheVariants.{Falls, ByteIn, Rises}
use Rattle.terms.specs.Event.{strobe}
use Rattle.repainted.specs.Follows.{set_settles, Follows, ends, step, Comes, comes, comes_by, next}

-- A part, as far as strobes go: a byte is taken by the position, of which 1 is that of a first byte and 0 that of none.
pub record Bus (F : Type 0) : Type 0 where
  pub same? : Discrete F
  pub range : F → ℕ
  pub move : Event → Rule F F
  pub position : F
  pub byte_in : ℕ → ℕ → Rule F F
  pub falls : move Falls ≡ gives (change same? position (value 1) keep)
  pub bytes : (b : ℕ) → move (ByteIn b) ≡ look position (byte_in b)
  pub rises : move Rises ≡ gives (change same? position (value 0) keep)

module _ {F : Type 0} (t : Bus F) where
  abbrev Along : List (Rule F F) → (F → Standing) → Type 0
  Along rs k = Follows t.same? t.range rs k

  abbrev Into : Rule F F → (F → Standing) → ((F → Standing) → Type 0) → Type 0
  Into rule k I = Comes t.same? t.range rule k I

  -- Chips follow the knowledge through these events, from wherever P holds.
  pub record From (P : (F → Standing) → Type 0) (es : List Event) : Type 0 where
    pub from : (k : F → Standing) → P k → Along (map t.move es) k

  -- From whatever is known.
  abbrev pub Always : List Event → Type 0
  Always es = From (λ _. Unit) es

  pub no_more : {P : (F → Standing) → Type 0} → From P []
  no_more = record { from = λ k _. ends }

  -- Only the position changes.
  abbrev to : ℕ → F → Form F
  to v = change t.same? t.position (value v) keep

  to_settles : (v : ℕ) → AllSettle t.same? (to v)
  to_settles v = set_settles t.same? t.position v keep (keep_settles t.same?)

  -- The knowledge k, with the position v.
  abbrev pub at : ℕ → (F → Standing) → F → Standing
  at v k = know t.same? t.range (gives (to v)) k

  -- The knowledge k, after a first byte that comes to the forms φ.
  abbrev pub begun : (F → Form F) → (F → Standing) → F → Standing
  begun φ k = know t.same? t.range (gives φ) (at 1 k)

  moved : {rs : List (Rule F F)} {k : F → Standing} (v : ℕ) → Along rs (at v k) → Along (gives (to v) ∷ rs) k
  moved {k} v h = step (comes t.same? t.range (to v) k (λ _. Unit) (to_settles v) tt).fills h

  pub rose : {rs : List (Rule F F)} {k : F → Standing} → Along rs (at 0 k) → Along (t.move Rises ∷ rs) k
  rose h = rw t.rises (moved 0 h)

  -- It falls, and a first byte comes to the forms φ, which leave the knowledge such as I says.
  opened : {rs : List (Rule F F)} (b : ℕ) (φ : F → Form F) (I : (F → Standing) → Type 0) (k : F → Standing) → t.byte_in b 1 ≡ gives φ → AllSettle t.same? φ
      → I (begun φ k) → ((l : F → Standing) → I l → Along rs l) → Along (t.move Falls ∷ t.move (ByteIn b) ∷ rs) k
  opened b φ I k e s i h = rw (t.falls, t.bytes b) (moved 1 (next t.same? t.range I command h))
    where
      command : Into (look t.position (t.byte_in b)) (at 1 k) I
      command =
          comes_by t.same? t.range t.position (t.byte_in b) (at 1 k) I 1 (set_same t.same? k t.position 1 keep)
          (rw e (comes t.same? t.range φ (at 1 k) I s i))

  -- A row of bytes, each of which leaves the knowledge such as I says, and the strobe rises, which leaves it such as Q says.
  over_bytes : {Q : (F → Standing) → Type 0} {es : List Event} (I : (F → Standing) → Type 0)
      → ((v : ℕ) (k : F → Standing) → I k → Into (look t.position (t.byte_in v)) k I) → ((k : F → Standing) → I k → Q (at 0 k))
      → From Q es → (bs : List ℕ) (k : F → Standing) → I k → Along (map t.move ((map ByteIn bs ++ (Rises ∷ [])) ++ es)) k
  over_bytes I each then rest [] k i = rose (rest.from _ (then k i))
  over_bytes I each then rest (b ∷ bs) k i = rw (t.bytes b) (next t.same? t.range I (each b k i) (λ l j. over_bytes I each then rest bs l j))

  -- A strobe with one byte.
  pub single : {P : (F → Standing) → Type 0} {es : List Event} (Q : (F → Standing) → Type 0) (b : ℕ) (φ : F → Form F) → t.byte_in b 1 ≡ gives φ → AllSettle t.same? φ
      → ((k : F → Standing) → P k → Q (at 0 (begun φ k))) → From Q es → From P (strobe (b ∷ []) ++ es)
  single Q b φ e s then rest = record { from = λ k p. opened b φ (λ l. Q (at 0 l)) k e s (then k p) (λ l q. rose (rest.from _ q)) }

  -- A strobe with a row of bytes behind its first.
  pub row : {P : (F → Standing) → Type 0} {es : List Event} (Q I : (F → Standing) → Type 0) (b : ℕ) (bs : List ℕ) (φ : F → Form F) → t.byte_in b 1 ≡ gives φ
      → AllSettle t.same? φ → ((k : F → Standing) → P k → I (begun φ k)) → ((v : ℕ) (k : F → Standing) → I k → Into (look t.position (t.byte_in v)) k I)
      → ((k : F → Standing) → I k → Q (at 0 k)) → From Q es → From P (strobe (b ∷ bs) ++ es)
  row Q I b bs φ e s begins each then rest = record { from = λ k p. opened b φ I k e s (begins k p) (over_bytes I each then rest bs) }
