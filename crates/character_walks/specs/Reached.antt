-- Where the loop for PT6302 has come to, and how one record, or the two of a strobe, take it further.
use Rattle.std.specs.Prelude.{ℕ, ◌+◌, ◌*◌, ◌<◌, ◌≤◌, ◌≡◌, refl, List, length, drop, get_or, Ok}
use Rattle.std.proofs.Common.{arith, subst, length-drop}
use Rattle.rules.specs.Rule.{Rule}
use Rattle.knowing.specs.Standing.{Standing, unknown}
use Rattle.lamps.specs.View.{held}
use Rattle.terms.specs.declared.Event.{Event}
use Rattle.terms.specs.declared.Event.TheVariants.{Falls, ByteIn}
use Rattle.terms.specs.declared.Part.{Part}
use Rattle.one_record.specs.declared.glance.Everyday.{Everyday}
use Rattle.one_record.specs.Glance.{Shows}
use Rattle.recording.specs.Record.{front, record_of}
use Rattle.recording.specs.Steps.{rest}
use Rattle.recording.specs.Tests.{record_fits}
use Rattle.recording.specs.Walk.{Walk}
use Rattle.character.specs.Fact.{Fact, same?, range, text_bits, column_bits, pair_bits}
use Rattle.character.specs.Move.{move}
use Rattle.character_knowledge.specs.declared.Control.{Control}
use Rattle.character_knowledge.specs.declared.Knowledge.{Knowledge}
use Rattle.character_knowledge.specs.View.{kview, Knows}
use Rattle.character_known.specs.declared.rows.Rows.{Rows}
use Rattle.character_known.specs.Together.{together}
use Rattle.character_steps.specs.Step.{Forgets, forgotten_of}
use Rattle.character_steps.specs.Steps.{forgotten_steps, applied}
use Rattle.walks.specs.Kept.{Kept, kept_read}
use Rattle.walks.specs.Reads.{byte_there}

abbrev pub Sized : Knowledge → Type 0
Sized k = (length k.dcram ≡ 16) × ((length k.cgram ≡ 40) × (length k.adram ≡ 16))

abbrev pub knowledge : (dcram cgram adram : List ℕ) → Control → Knowledge
knowledge dcram cgram adram c = record { dcram = dcram; cgram = cgram; adram = adram; control = c }

-- At the place i it knows k: what is left of the walk makes of that what the whole walk w makes of the first one, and the rows are as long as they were.
pub record Reached (p : Part) (l : List ℕ) (w : Walk) (first : Fact → Standing) (i : ℕ) (k : Knowledge) : Type 0 where
  pub within : i ≤ length l
  pub kept : Kept same? range move w first (rest p l i) (kview k)
  pub sized : Sized k

-- From the place i on, n bytes in a row lead from k to r.
abbrev pub Leads : List ℕ → ℕ → ℕ → Knowledge → Knowledge → Type 0
Leads l i n k r = (p : Part) (w : Walk) (first : Fact → Standing) → Reached p l w first i k → Reached p l w first (i + 2 * n) r

-- Nothing is known of the rows.
pub record Blank (d g a : List ℕ) : Type 0 where
  pub dcram : (i k : ℕ) → held text_bits d i k ≡ unknown
  pub cgram : (i k : ℕ) → held column_bits g i k ≡ unknown
  pub adram : (i k : ℕ) → held pair_bits a i k ≡ unknown

-- What forgets the memory leaves such rows.
pub blanked : (rule : Rule Fact Fact) (k : Knowledge) {d g a : List ℕ} (c : Control) → Forgets rule k.control c → Blank d g a → Knows rule k (knowledge d g a c)
blanked rule k {d} {g} {a} c h none = applied rule k (forgotten_of c) d g a (forgotten_steps refl h) none.dcram none.cgram none.adram

-- What a glance shows, of a record that is another, in name.
pub glanced : (l : List ℕ) (i : ℕ) {x y : Everyday} → x ≡ y → Shows l i x → Shows l i y
glanced l i e h = subst (λ (x : Everyday). Shows l i x) e h

-- A record that is there ends within the bytes.
pub record_within : (p : Part) (l : List ℕ) (i : ℕ) (e : Event) (n : ℕ) → i < length l → front p (drop i l) ≡ Ok (record_of e n) → (0 < n) × (i + n ≤ length l)
record_within p l i e n inside read =
    let f = record_fits p (drop i l) e n read in
    let s = length-drop i l in
    (omega (arith, f), omega (arith, f, s))

module _ {p : Part} {l : List ℕ} {w : Walk} {first : Fact → Standing} {i : ℕ} where
  -- Said of the rows and the control in other words.
  pub reached : {s t : Rows} {c r : Control} → t ≡ s → r ≡ c → Reached p l w first i (together s c) → Reached p l w first i (together t r)
  reached e u h = rw (e, u) h

  module _ {k : Knowledge} (here : Reached p l w first i k) (inside : i < length l) where
    pub one_on : (r : Knowledge) (e : Event) (n : ℕ) → front p (drop i l) ≡ Ok (record_of e n) → Knows (move e) k r → Sized r → Reached p l w first (i + n) r
    one_on r e n read h size = record {
      within = (record_within p l i e n inside read).1;
      kept = kept_read same? range move p l i w first (kview k) (kview r) e n inside read h here.kept;
      sized = size;
    }

    -- A fall, and the byte behind it.
    pub strobe_on : (begun r : Knowledge) (b : ℕ) → front p (drop i l) ≡ Ok (record_of Falls 1) → front p (drop (i + 1) l) ≡ Ok (record_of (ByteIn b) 2) → i + 2 < length l
        → Knows (move Falls) k begun → Knows (move (ByteIn b)) begun r → Sized r → Reached p l w first (i + 3) r
    strobe_on begun r b falls byte there h q size =
        let e : i + 1 + 2 ≡ i + 3 = omega arith in
        let fallen = kept_read same? range move p l i w first (kview k) (kview begun) Falls 1 inside falls h here.kept in
        record {
          within = omega arith;
          kept = subst (λ (n : ℕ). Kept same? range move w first (rest p l n) (kview r)) e
              (kept_read same? range move p l (i + 1) w first (kview begun) (kview r) (ByteIn b) 2 (omega arith) byte q fallen);
          sized = size;
        }

    -- A byte that is taken by itself.
    pub byte_on : (r : Knowledge) → i + 1 < length l → get_or l i 0 ≡ 3 → Knows (move (ByteIn (get_or l (i + 1) 0))) k r → Sized r → Reached p l w first (i + 2 * 1) r
    byte_on r there kind h size =
        let e : i + 2 ≡ i + 2 * 1 = omega arith in
        subst (λ (n : ℕ). Reached p l w first n r) e (one_on r (ByteIn (get_or l (i + 1) 0)) 2 (byte_there p l i kind there) h size)
