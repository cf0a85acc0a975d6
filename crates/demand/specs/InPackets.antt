-- What is known behind packets; M-100 in the paper's words stands in proofs/InPackets.
use Rattle.std.specs.Prelude.{ℕ, List}
use Rattle.terms.specs.declared.Part.{Part}
use Rattle.walks.specs.Turn.{InTurn}
use Rattle.parts.specs.Facts.{same?, range, move}
use Rattle.recording.specs.Walk.{walked, events}
use Rattle.panel.specs.declared.Panel.{Panel}
use Rattle.panel.specs.View.{known_of, OtherKept}

-- What is known after the last good record, and that the half that speaks of the other parts is as it was.
pub record KnownAfter (p : Part) (row : List ℕ) (k r : Panel) : Type 0 where
  pub known : InTurn (known_of p) (same? p) (range p) (move p) (events (walked p row)) k r
  pub kept : OtherKept p k r
