-- The whole answer of the update that also gives what is known when its bytes have gone out (paper 02, M-110: "take the branch out"): number, place, count and
-- output are the update's, always, and what is known then is what its events make of what was known, which is also what a replay of its bytes from there
-- tells (`demand/Update.refresh_as_replayed`).
use Rattle.std.specs.Prelude.{ℕ, zero, suc, ◌≡◌, List, Ok, Err}
use Rattle.knowing.specs.Standing.{Standing}
use Rattle.terms.specs.declared.Part.{Part}
use Rattle.terms.specs.declared.Part.TheVariants.{Pt6302, Pt6312, Pt6315}
use Rattle.terms.specs.Part.{PartRead}
use Rattle.segment.specs.declared.Family.TheVariants as OfFamily
use Rattle.segment.specs.Family.{sizes}
use Rattle.parts.specs.Facts.{Fact}
use Rattle.panel.specs.declared.Panel.{Panel}
use Rattle.panel.specs.View.{known_of, OtherKept}
use Rattle.updating.specs.declared.Refreshed.{Refreshed}
use Rattle.updating.specs.Updated.{known_after}
use Rattle.updating.specs.Answer.{number, Updates}

-- What is known after an update, by the part that it is for.
abbrev pub known_for : (p : Part) → (Fact p → Standing) → List ℕ → Fact p → Standing
known_for Pt6302 k w = k
known_for Pt6312 k w = known_after (sizes OfFamily.Pt6312) k w
known_for Pt6315 k w = known_after (sizes OfFamily.Pt6315) k w

-- What is known then, r, where the update was sent: every fact of the part as the update leads to it, and the half that speaks of the other parts as it was.
abbrev pub Learns : Part → Panel → List ℕ → Panel → Type 0
Learns p k w r = ((f : Fact p) → known_of p r f ≡ known_for p (known_of p k) w f) × OtherKept p k r

-- By the number of the update: P where it was sent; where it was refused, what is known is as it was handed in.
abbrev pub ByNumber : ℕ → Panel → Panel → Type 0 → Type 0
ByNumber zero k r P = P
ByNumber (suc n) k r P = r ≡ k

-- By what the part byte names; where it names no part, all is as handed in.
abbrev pub KnownThen : PartRead → ℕ → Panel → List ℕ → Panel → Type 0
KnownThen (Ok p) n k w r = ByNumber n k r (Learns p k w r)
KnownThen (Err e) n k w r = r ≡ k

-- The update's answer and output, and what is known then.
abbrev pub Refreshes : PartRead → Panel → List ℕ → List ℕ → Refreshed → List ℕ → Type 0
Refreshes part k w out r after = Updates part k w out r.answer after × KnownThen part (number r.answer) k w r.panel
