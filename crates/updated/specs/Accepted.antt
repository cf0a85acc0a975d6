-- An update is accepted, whichever part reads it: it is made of strobes, and nothing else.
use Rattle.std.specs.Prelude.{ℕ, ◌+◌, Bool, true, false, List, [], ◌∷◌, ◌++◌, map}
use Rattle.rules.specs.Choice.{whether}
use Rattle.knowing.specs.Standing.{Standing}
use Rattle.terms.specs.declared.Event.{Event}
use Rattle.terms.specs.declared.Part.{Part}
use Rattle.terms.specs.Event.{strobe}
use Rattle.segment.specs.declared.Family.{Family}
use Rattle.segment.specs.Family.{sizes}
use Rattle.segment.specs.Fact.{Fact}
use Rattle.runs.specs.Runs.{wanted, run, strobes_of}
use Rattle.updating.specs.Update.{differs, starts, sends40, update_events}
use Rattle.repainted.specs.Accepted.{Accepted, accepted, Free, strobed, none}

runs_free : (n : ℕ) (d : ℕ → Bool) (w : ℕ → ℕ) (is : List ℕ) → Free (strobes_of n d w is)
runs_free n d w [] = none
runs_free n d w (i ∷ is) = strobed ((0xC0 + i) ∷ map w (run n d i)) (runs_free n d w is)

setting_free : (t : Bool) {es : List Event} → Free es → Free (whether t (strobe (0x40 ∷ [])) [] ++ es)
setting_free true h = strobed (0x40 ∷ []) h
setting_free false h = h

pub update_accepted : (p : Part) (q : Family) (k : Fact → Standing) (w : List ℕ) → Accepted p (update_events (sizes q) k w)
update_accepted p q k w =
    let s = sizes q in
    accepted p (update_events s k w) ((setting_free (sends40 s k w) (runs_free s.cells (differs s k w) (wanted w) (starts s k w))).each p)
