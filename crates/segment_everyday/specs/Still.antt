-- A run of bytes that change nothing.
use Rattle.std.specs.Prelude.{ℕ, ◌+◌, ◌*◌, ◌<◌, ◌≤◌, ◌≡◌, List, length, get_or}
use Rattle.std.proofs.Common.{arith}
use Rattle.std.proofs.Math.Decide.{ℕ_discrete}
use Rattle.terms.specs.declared.Event.TheVariants.{ByteIn}
use Rattle.knowing.specs.Know.{know}
use Rattle.walks.specs.Run.{Run, byte_of, run_none, run_more}
use Rattle.segment.specs.declared.Family.{Family}
use Rattle.segment.specs.Family.{sizes}
use Rattle.segment.specs.Fact.{Fact, same?, range}
use Rattle.segment.specs.Move.{move}
use Rattle.segment_knowledge.specs.declared.Control.{Control}
use Rattle.segment_knowledge.specs.View.{held, cview}

-- The byte b changes nothing of what is known.
abbrev pub Still : Family → Control → List ℕ → ℕ → Type 0
Still p c cells b = (f : Fact) → cview (held cells) c f ≡ know same? (range (sizes p)) (move (sizes p) (ByteIn b)) (cview (held cells) c) f

pub record Stills (p : Family) (c : Control) (cells l : List ℕ) (from n : ℕ) : Type 0 where
  pub run : Run l from n
  pub each : (j : ℕ) → j < n → Still p c cells (byte_of l from j)

module _ (p : Family) (c : Control) (cells l : List ℕ) (from : ℕ) where
  pub stills_none : from ≤ length l → Stills p c cells l from 0
  stills_none h = record { run = run_none l from h; each = λ j o. absurd (omega arith) }

  -- One more.
  pub stills_more : (n : ℕ) → Stills p c cells l from n → from + 2 * n + 1 < length l → get_or l (from + 2 * n) 0 ≡ 3 → Still p c cells (byte_of l from n) → Stills p c cells l from (n + 1)
  stills_more n h there kind new = record { run = run_more l from n h.run there kind; each = λ j o. go j o (ℕ_discrete j n) }
    where
      go : (j : ℕ) → j < n + 1 → Dec (j ≡ n) → Still p c cells (byte_of l from j)
      go j o (yes e) = rw e new
      go j o (no d) = h.each j (omega arith)
