-- What a call comes to before its first record: the part that passes every test, or the answer of the first test that refuses.
use Rattle.std.specs.Prelude.{ℕ, ◌≤◌, ◌≡◌, List, length, Result, Ok, Err}
use Rattle.std.proofs.Math.Path.{subst⁻¹}
use Rattle.knowing.specs.Standing.{Sound}
use Rattle.rules.specs.Where.{good}
use Rattle.terms.specs.declared.Part.{Part}
use Rattle.terms.specs.Part.{PartRead}
use Rattle.parts.specs.Facts.{range}
use Rattle.panel.specs.declared.Panel.{Panel}
use Rattle.panel.specs.View.{known_of}
use Rattle.answers.specs.declared.Refused.{Refused}
use Rattle.replay.specs.declared.replays.Replayed.{Replayed}
use Rattle.replay.specs.Replay.{ReplaysFrom, Replays}

-- A call that every test lets pass, for a part.
pub record Passing (q : PartRead) (k : Panel) (n start : ℕ) (p : Part) : Type 0 where
  pub names : q ≡ Ok p
  pub in_range : Sound (range p) (known_of p k)
  pub short : n ≤ 65535
  pub within : start ≤ n

-- Of any recording that is so long, the answer where a test refuses; else the part, which passes them all.
abbrev pub Passes : PartRead → Panel → ℕ → ℕ → Result Part Refused → Type 0
Passes q k n start (Err x) = (l : List ℕ) → length l ≡ n → Replays q k l start (record { answer = Err x; panel = k })
Passes q k n start (Ok p) = Passing q k n start p

-- Behind the tests the records decide.
pub from_records : (q : PartRead) (k : Panel) (l : List ℕ) (start : ℕ) (p : Part) (r : Replayed) → Passing q k (length l) start p → ReplaysFrom p k l start r → Replays q k l start r
from_records q k l start p r t h = subst⁻¹ (λ (x : PartRead). Replays x k l start r) t.names (good t.in_range (good t.short (good t.within h)))
