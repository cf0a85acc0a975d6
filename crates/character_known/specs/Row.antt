-- A byte to DCRAM or to ADRAM at an unknown address. Each of the sixteen cells may be the one: each bit of a cell has in common with the byte's what it had,
-- the address stays unknown, and nothing else changes. Both RAMs are one case: the facts `ram`, by cell and bit, of which a byte sets w bits, and the fact `at`
-- that is its address.
use Rattle.std.specs.Prelude.{ℕ, ◌+◌, ◌/◌, ◌%◌, ◌<◌, ◌≡◌}
use Rattle.std.proofs.Common.{arith, sym, ap, ◌∙◌}
use Rattle.rules.specs.Digit.{digit}
use Rattle.rules.specs.Rule.{Rule, gives}
use Rattle.rules.specs.Change.{keep}
use Rattle.rules.specs.Touch.{bits_at, bits_leave}
use Rattle.knowing.specs.Standing.{Standing, known, unknown}
use Rattle.knowing.specs.Know.{lifted, learn, join, common, know}
use Rattle.knowing.specs.Join.{join_swap, common_same, common_two, common_apart}
use Rattle.knowing.specs.Changed.{set_same, set_other, learn_other}
use Rattle.character.specs.Fact.{Fact, same?, range, dcram, cgram, adram, dcram_at, cgram_at, adram_at, column, port, duty, digits, lights, position}
use Rattle.character.specs.Move.{sets, spells}

-- Facts of different names are different: each RAM's cells, address and column have numbers of their own, three to a RAM.
abbrev pub tag : Fact → ℕ
tag (dcram i k) = 0
tag dcram_at = 1
tag (cgram i k) = 3
tag cgram_at = 4
tag column = 5
tag (adram i k) = 6
tag adram_at = 7
tag (port k) = 9
tag duty = 9
tag digits = 9
tag lights = 9
tag position = 9

-- Which RAM a fact is of: 0 DCRAM, 1 CGRAM, 2 ADRAM, 3 none.
abbrev pub ram_of : Fact → ℕ
ram_of f = tag f / 3

pub elsewhere : (f g : Fact) → ¬ (ram_of f ≡ ram_of g) → ¬ (f ≡ g)
elsewhere f g n e = n (ap ram_of e)

pub unlike : (f g : Fact) → ¬ (tag f ≡ tag g) → ¬ (f ≡ g)
unlike f g n e = n (ap tag e)

module _ (ram : ℕ → ℕ → Fact) (at : Fact) (w b : ℕ) (k : Fact → Standing) where
  -- What goes on at address a.
  abbrev pub goes : ℕ → Rule Fact Fact
  goes a = gives (sets at ((a % 16 + 1) % 16) (spells (ram (a % 16)) w b keep))

  abbrev pub ways : Fact → ℕ → Standing
  ways f v = know same? range (goes v) (learn same? at v k) f

  module _ (apart : (i m j n : ℕ) → ram i m ≡ ram j n → (i ≡ j) × (m ≡ n)) (beside : (i n : ℕ) → ¬ (ram i n ≡ at)) where
    kept : (f : Fact) (v : ℕ) → ¬ (f ≡ at) → ((n : ℕ) → n < w → ¬ (f ≡ ram (v % 16) n)) → ways f v ≡ k f
    kept f v p q =
        set_other same? (learn same? at v k) at ((v % 16 + 1) % 16) (spells (ram (v % 16)) w b keep) f p
        ∙ ap (lifted (learn same? at v k)) (bits_leave same? (ram (v % 16)) w b keep f q)
        ∙ learn_other same? k at v f p

    taken : (j n : ℕ) → j < 16 → n < w → ways (ram j n) j ≡ known (digit n b)
    taken j n h l =
        let e : j % 16 ≡ j = omega arith in
        set_other same? (learn same? at j k) at ((j % 16 + 1) % 16) (spells (ram (j % 16)) w b keep) (ram j n) (beside j n)
        ∙ rw e (ap (lifted (learn same? at j k)) (bits_at same? (ram j) (λ m o q. (apart j m j o q).1) w b keep n l))

    -- A fact that is neither the address nor in the row, and one of the row past its last cell or past a byte's bits.
    pub row_rest : (f : Fact) → ¬ (f ≡ at) → ((i : ℕ) → i < 16 → (n : ℕ) → n < w → ¬ (f ≡ ram i n)) → k f ≡ common 16 (ways f)
    row_rest f p q = sym (common_same 16 (ways f) (k f) (omega arith) (λ v h. kept f v p (q (v % 16) (omega arith))))

    pub row_cell : (j n : ℕ) → j < 16 → n < w → join (k (ram j n)) (known (digit n b)) ≡ common 16 (ways (ram j n))
    row_cell j n h l =
        join_swap (k (ram j n)) (known (digit n b))
        ∙ sym (common_two 16 (ways (ram j n)) (known (digit n b)) (k (ram j n)) j ((j + 1) % 16) h (omega arith) (λ e. omega arith) (taken j n h l)
        (λ v o d. kept (ram j n) v (beside j n) (λ m r e. d (let z = (apart j n (v % 16) m e).0 in omega arith))))

    pub row_at : unknown ≡ common 16 (ways at)
    row_at =
        sym (common_apart 16 (ways at) 0 1 1 2 (omega arith) (omega arith) (λ e. omega arith)
        (set_same same? (learn same? at 0 k) at 1 (spells (ram 0) w b keep))
        (set_same same? (learn same? at 1 k) at 2 (spells (ram 1) w b keep)))
