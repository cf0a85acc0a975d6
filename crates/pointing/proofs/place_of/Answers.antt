-- `pointing::place_of` meets its contract: refusal by refusal, as the definition has them.
-- Assumes nothing.
use Prim.Native.Nat.{ℕ, ◌+◌}
use native.Mathlib.Omega.{arith}
use mathlib.Core.Path.{◌≡◌}
use Rattle.terms.specs.declared.Place.{Place}
use Rattle.pointing.proofs.place_of.Goals as goal

-- The record's first byte.
here : (at : Place) → at ≡ record { 0 = at.0 + 0 }
here at = let e : at.0 ≡ at.0 + 0 = omega arith in λ j. record { 0 = e j }

-- So many bytes behind it.
behind : (i : ℕ) {n m : ℕ} → n ≡ m → ◌≡◌ {A = Place} (record { 0 = i + n }) (record { 0 = i + m })
behind i e = λ j. record { 0 = i + e j }

pub returns-in-Unlisted : goal.returns-in-Unlisted
returns-in-Unlisted c = rw c.in-Unlisted.is (here c.args.first)

pub returns-in-Foreign : goal.returns-in-Foreign
returns-in-Foreign c = rw c.in-Foreign.is (here c.args.first)

pub returns-in-CutShort : goal.returns-in-CutShort
returns-in-CutShort c = rw c.in-CutShort.is (here c.args.first)

pub returns-in-Forbidden : goal.returns-in-Forbidden
returns-in-Forbidden c = rw c.in-Forbidden.is (behind c.args.first.0 c.fault_of-fault.ensures)
