-- A turn of the loop that takes a run of bytes: one that is stored, and one that changes nothing. The argument: what is known behind each byte is told by the laws of runs, and behind the last one it is what stands in the rows.
use Rattle.std.specs.Prelude.{ℕ, suc, ◌+◌, ◌*◌, ◌<◌, ◌≤◌, ◌≡◌, refl, List}
use Rattle.std.proofs.Common.{sym, ap, ◌∙◌}
use Rattle.rules.specs.Choice.{whether}
use Rattle.knowing.specs.Standing.{Standing}
use Rattle.knowing.specs.Know.{know}
use Rattle.lamps.specs.View.{held, Wide}
use Rattle.changes.specs.Change.{among, stored_run, met_run, Met}
use Rattle.changes.specs.Run.{shared_none_past, shared_met_code}
use Rattle.terms.specs.declared.Event.TheVariants.{ByteIn}
use Rattle.terms.specs.declared.Part.{Part}
use Rattle.recording.specs.Steps.{rest}
use Rattle.recording.specs.Walk.{Walk}
use Rattle.character.specs.Fact.{Fact, same?, range}
use Rattle.character.specs.Move.{move}
use Rattle.character_knowledge.specs.declared.Control.{Control}
use Rattle.character_knowledge.specs.declared.Knowledge.{Knowledge}
use Rattle.character_knowledge.specs.View.{cview, memory, kview}
use Rattle.character_known.specs.Ram.{Ram, text, columns, pairs, cells, bits, aimed, Aims, of_ram, with_ram}
use Rattle.character_known.specs.Runs.{in_ram, stored, stored_more, stored_none}
use Rattle.byte_runs.specs.Sharing.{Shares}
use Rattle.walks.specs.Kept.{kept_same}
use Rattle.walks.specs.Run.{Run, byte_of, kept_run}
use Rattle.character_walks.specs.Reached.{Sized, Reached}

-- The knowledge with one RAM's row, and what is known beside the memory, as the turn has left them.
abbrev pub with_row : Ram → Knowledge → List ℕ → Control → Knowledge
with_row text k row c = record { dcram = row; cgram = k.cgram; adram = k.adram; control = c }
with_row columns k row c = record { dcram = k.dcram; cgram = row; adram = k.adram; control = c }
with_row pairs k row c = record { dcram = k.dcram; cgram = k.cgram; adram = row; control = c }

row_view : (ram : Ram) (k : Knowledge) (row : List ℕ) (c : Control) (f : Fact) → cview (with_ram ram (held (bits ram) row) (memory k)) c f ≡ kview (with_row ram k row c) f
row_view text k row c f = refl
row_view columns k row c f = refl
row_view pairs k row c f = refl

-- Each of n bytes from a place on may have gone to any of the first cells: what they have in common is met with them once.
pub met_all : (w wide cells code : ℕ) (l : List ℕ) (i n : ℕ) (old row : List ℕ) → Wide w wide → Shares wide l i n code → Met wide code old 0 1 cells row
    → (x y : ℕ) → held w row x y ≡ whether (among 0 1 cells x) (met_run w (byte_of l i) n y (held w old x y)) (held w old x y)
met_all w wide cells code l i n old row W s met x y =
    rw s.counted
    (met.shows w W (shared_none_past w (byte_of l i) code s.others (s.common w W)) x y
    ∙ ap (λ (t : Standing). whether (among 0 1 cells x) t (held w old x y)) (shared_met_code w (byte_of l i) code s.others (s.common w W) y (held w old x y)))

module _ {p : Part} {l : List ℕ} {w : Walk} {first : Fact → Standing} {i : ℕ} {k : Knowledge} (n : ℕ) (here : Reached p l w first i k) (run : Run l i n) where
  -- By what is known behind each byte, from the first knowledge to the last.
  pub leads : (known : ℕ → Fact → Standing) (r : Knowledge) → ((f : Fact) → known 0 f ≡ kview k f)
      → ((j : ℕ) → j < n → (f : Fact) → known (suc j) f ≡ know same? range (move (ByteIn (byte_of l i j))) (known j) f) → ((f : Fact) → known n f ≡ kview r f)
      → Sized r → Reached p l w first (i + 2 * n) r
  leads known r start each there size = record {
    within = run.fits;
    kept = kept_same same? range move w first (rest p l (i + 2 * n)) (known n) (kview r) there
        (kept_run same? range move p l i n w first known run each (kept_same same? range move w first (rest p l i) (kview k) (known 0) (λ f. sym (start f)) here.kept));
    sized = size;
  }

  -- Each byte is put behind the one before it.
  pub stored_on : (ram : Ram) (cell : ℕ) (row : List ℕ) (c : Control) → Aims ram k.control cell → cell + n ≤ cells ram
      → ((x y : ℕ) → held (bits ram) row x y ≡ stored_run (bits ram) cell (byte_of l i) n (of_ram ram (memory k)) x y) → c ≡ aimed ram k.control (cell + n)
      → Sized (with_row ram k row c) → Reached p l w first (i + 2 * n) (with_row ram k row c)
  stored_on ram cell row c aims room put e =
      leads (stored ram (memory k) k.control (byte_of l i) cell) (with_row ram k row c) (stored_none ram (memory k) k.control (byte_of l i) cell aims)
      (stored_more ram (memory k) k.control (byte_of l i) cell n aims room)
      (λ f.
      in_ram ram (memory k) (stored_run (bits ram) cell (byte_of l i) n (of_ram ram (memory k))) (held (bits ram) row) (aimed ram k.control (cell + n)) (λ x y. sym (put x y)) f
      ∙ ap (λ (d : Control). cview (with_ram ram (held (bits ram) row) (memory k)) d f) (sym e)
      ∙ row_view ram k row c f)

  -- No byte changes anything.
  pub passed_on : ((b : ℕ) (f : Fact) → kview k f ≡ know same? range (move (ByteIn b)) (kview k) f) → Reached p l w first (i + 2 * n) k
  passed_on deaf = leads (λ j. kview k) k (λ f. refl) (λ j h. deaf (byte_of l i j)) (λ f. refl) here.sized
