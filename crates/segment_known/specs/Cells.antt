-- What a byte stored at an unknown address, and latched keys, make of the codes of a knowledge.
use Rattle.std.specs.Prelude.{ℕ, suc, ◌<◌, ◌≤◌, ◌≡◌, refl, Bool, true, false, List, length, get_or, set, ltb}
use Rattle.std.proofs.Common.{arith, ap, ◌∙◌, length-set}
use Rattle.std.proofs.lemmas.List.{set_comm}
use Rattle.rules.specs.Choice.{whether}
use Rattle.rules.specs.Rule.{value, copy, look}
use Rattle.rules.specs.Change.{keep, change}
use Rattle.knowing.specs.Standing as Of
use Rattle.knowing.specs.Know.{lifted, common, know}
use Rattle.knowing.specs.Look.{look_unknown}
use Rattle.segment.specs.declared.Sizes.{Sizes}
use Rattle.segment.specs.declared.Family.{Family}
use Rattle.segment.specs.Family.{sizes}
use Rattle.segment.specs.Fact.{Fact, same?, range, cell, address, data_mode, stepping, mode, dimming, display, led, key, switches, read_count, position}
use Rattle.segment.specs.Laws.{every, room, keys_apart}
use Rattle.segment.specs.Move.{sets, stored, keys_latched}
use Rattle.segment_knowledge.specs.declared.Control.{Control}
use Rattle.changes.specs.declared.Change.TheVariants.{Meet}
use Rattle.changes.specs.Change.{seen}
use Rattle.changes.specs.Laws.{met_or_not}
use Rattle.segment_steps.specs.Step.{sview, Steps}
use Rattle.key_codes.specs.View.{coded}
use Rattle.segment_knowledge.specs.View.{points, cview}
use Rattle.key_codes.specs.Codes.{coded_set}
use Rattle.segment.specs.Range.{proper}
use Rattle.segment_known.specs.Stored.{tag, ways, plain_stay, bit_stay, cell_common, address_lost}

-- The fourth key byte, which only some parts have.
pub fourth_set : (v : Fact → Of.Standing) (t : Bool) (l : List ℕ) (b j : ℕ) → b < 256 → 3 < length l → ((j : ℕ) → coded (get_or l j 256) ≡ v (key j))
    → coded (get_or (whether t (set l 3 b) l) j 256) ≡ lifted v (change same? (key 3) (whether t (value b) (copy (key 3))) keep (key j))
fourth_set v true l b j small h e = coded_set same? key keys_apart v keep l 3 b j small h (e j)
fourth_set v false l b j small h e = go (same? (key j) (key 3))
  where
    go : (d : Dec (key j ≡ key 3)) → coded (get_or l j 256) ≡ lifted v (elim d [ yes _ ↦ copy (key 3) | no _ ↦ copy (key j) ])
    go (yes p) = e j ∙ ap v p
    go (no n) = e j

-- What is left of a knowledge where a byte may have gone to any cell: each cell has in common with it what it had, and all else stays.
abbrev pub roams : Sizes → ℕ → (Fact → Of.Standing) → Fact → Of.Standing
roams s b v (cell i k) = seen 8 (Meet (record { 0 = 0 }) 1 s.cells b) i k (v (cell i k))
roams s b v address = v address
roams s b v data_mode = v data_mode
roams s b v stepping = v stepping
roams s b v mode = v mode
roams s b v dimming = v dimming
roams s b v display = v display
roams s b v (led k) = v (led k)
roams s b v (key i) = v (key i)
roams s b v switches = v switches
roams s b v read_count = v read_count
roams s b v position = v position

-- The whole of a byte stored at an unknown address.
pub somewhere : (s : Sizes) (b : ℕ) (v : Fact → Of.Standing) → 0 < s.cells → v address ≡ Of.unknown → (f : Fact) → roams s b v f ≡ know same? (range s) (look address (stored s b)) v f
unfolding tag
somewhere s b v some u f =
    look_unknown same? (range s) address (stored s b) v f _ u
    (every (λ (f : Fact). roams s b v f ≡ common (suc s.cells) (ways s b v f))
    at
    (u ∙ address_lost s b v some)
    (plain data_mode (omega arith)) (plain stepping (omega arith)) (plain mode (omega arith)) (plain dimming (omega arith)) (plain display (omega arith)) (λ k. plain (led k) (omega arith))
    (λ i. plain (key i) (omega arith)) (plain switches (omega arith)) (plain read_count (omega arith)) (plain position (omega arith)) f)
  where
    plain : (f : Fact) → 2 ≤ tag f → v f ≡ common (suc s.cells) (ways s b v f)
    plain f h = plain_stay s b v f h

    at : (i k : ℕ) → seen 8 (Meet (record { 0 = 0 }) 1 s.cells b) i k (v (cell i k)) ≡ common (suc s.cells) (ways s b v (cell i k))
    at i k =
        met_or_not 8 0 1 s.cells b i k (v (cell i k)) _ (λ j h p l. cell_common s b v i k (omega arith) l)
        (λ n. bit_stay s b v i k (λ j h l e. n j h l (omega arith)))

pub somewhere_steps : (p : Family) (c : Control) (b : ℕ) → points c.address ≡ Of.unknown
    → Steps (sizes p) (look address (stored (sizes p) b)) c (record { control = c; change = Meet (record { 0 = 0 }) 1 (sizes p).cells b })
somewhere_steps p c b u = record { knows = λ cells f. every (λ (f : Fact). sview cells (record { control = c; change = Meet (record { 0 = 0 }) 1 (sizes p).cells b }) f ≡ roams (sizes p) b (cview cells c) f) (λ i k. refl) refl refl refl refl refl refl (λ k. refl) (λ i. refl) refl refl refl f ∙ somewhere (sizes p) b (cview cells c) (proper p).some u f; inside = (omega arith, λ j h. omega (arith, (room p).0)) }

-- Key bytes that are set one behind the other, in the order of the rule.
pub three_set : (l : List ℕ) (k0 k1 k2 : ℕ) → set (set (set l 0 k0) 1 k1) 2 k2 ≡ set (set (set l 2 k2) 1 k1) 0 k0
three_set l k0 k1 k2 =
    set_comm (set l 0 k0) 1 2 k1 k2 (λ e. omega (arith, e))
    ∙ ap (λ (x : List ℕ). set x 1 k1) (set_comm l 0 2 k0 k2 (λ e. omega (arith, e)))
    ∙ set_comm (set l 2 k2) 0 1 k0 k1 (λ e. omega (arith, e))

pub four_set : (l : List ℕ) (k0 k1 k2 k3 : ℕ) → set (set (set (set l 0 k0) 1 k1) 2 k2) 3 k3 ≡ set (set (set (set l 3 k3) 2 k2) 1 k1) 0 k0
four_set l k0 k1 k2 k3 =
    ap (λ (x : List ℕ). set x 3 k3) (three_set l k0 k1 k2)
    ∙ set_comm (set (set l 2 k2) 1 k1) 0 3 k0 k3 (λ e. omega (arith, e))
    ∙ ap (λ (x : List ℕ). set x 0 k0) (set_comm (set l 2 k2) 1 3 k1 k3 (λ e. omega (arith, e)) ∙ ap (λ (x : List ℕ). set x 1 k1) (set_comm l 2 3 k2 k3 (λ e. omega (arith, e))))

-- The key bytes after they are latched.
pub keys_coded : (s : Sizes) (cells : ℕ → ℕ → Of.Standing) (c : Control) (k0 k1 k2 k3 : ℕ) (rest new : List ℕ) (i : ℕ) → k0 < 256 → k1 < 256 → k2 < 256 → k3 < 256
    → rest ≡ whether (ltb 3 s.keys) (set c.keys 3 k3) c.keys → length c.keys ≡ 4 → new ≡ set (set (set rest 2 k2) 1 k1) 0 k0
    → coded (get_or new i 256) ≡ lifted (cview cells c) (keys_latched s k0 k1 k2 k3 (key i))
keys_coded s cells c k0 k1 k2 k3 rest new i b0 b1 b2 b3 r n e =
    ap (λ (l : List ℕ). coded (get_or l i 256)) e
    ∙ coded_set same? key keys_apart (cview cells c) (sets (key 1) k1 (sets (key 2) k2 (change same? (key 3) (whether (ltb 3 s.keys) (value k3) (copy (key 3))) keep))) (set (set rest 2 k2) 1 k1) 0 k0 i b0 (rw (length-set (set rest 2 k2) 1 k1, length-set rest 2 k2, size) (omega arith))
    (coded_set same? key keys_apart (cview cells c) (sets (key 2) k2 (change same? (key 3) (whether (ltb 3 s.keys) (value k3) (copy (key 3))) keep)) (set rest 2 k2) 1 k1 i b1 (rw (length-set rest 2 k2, size) (omega arith))
    (coded_set same? key keys_apart (cview cells c) (change same? (key 3) (whether (ltb 3 s.keys) (value k3) (copy (key 3))) keep) rest 2 k2 i b2 (rw size (omega arith))
    (ap (λ (l : List ℕ). coded (get_or l i 256)) r ∙ fourth_set (cview cells c) (ltb 3 s.keys) c.keys k3 i b3 (omega (arith, n)) (λ j. refl))))
  where
    by : (t : Bool) → length (whether t (set c.keys 3 k3) c.keys) ≡ 4
    by true = length-set c.keys 3 k3 ∙ n
    by false = n

    size : length rest ≡ 4
    size = ap length r ∙ by (ltb 3 s.keys)
