-- No stream is longer than 3 bytes for each cell, and 4 for the 40H strobe: 70 on PT6312 and 112 on PT6315. The argument: the runs have no more than 3
-- bytes a cell, and the strobe has 4.
use Rattle.std.specs.Prelude.{ℕ, ◌+◌, ◌*◌, ◌≤◌, Bool, true, false, List, [], ◌∷◌, length}
use Rattle.std.proofs.Common.{arith, ap, length-append}
use Rattle.rules.specs.Choice.{whether}
use Rattle.terms.specs.Event.{recording, recording_append, strobe}
use Rattle.segment.specs.declared.Family.{Family}
use Rattle.segment.specs.declared.Family.TheVariants.{Pt6312, Pt6315}
use Rattle.segment.specs.Family.{sizes}
use Rattle.segment.specs.Laws.{room}
use Rattle.segment_knowledge.specs.declared.Knowledge.{Knowledge}
use Rattle.segment_knowledge.specs.View.{kview}
use Rattle.runs.specs.Runs.{wanted, run_events}
use Rattle.runs.specs.Longest.{longest}
use Rattle.updating.specs.Update.{setting_events, differs, sends40, is_set}
use Rattle.updating.specs.Answer.{stream_of}

four_cells : (q : Family) → 4 ≤ (sizes q).cells
unfolding sizes
four_cells Pt6312 = omega arith
four_cells Pt6315 = omega arith

pub longest_stream : (q : Family) (k : Knowledge) (w : List ℕ) → length (stream_of q k w) ≤ 3 * (sizes q).cells + 4
longest_stream q k w =
    let d : ℕ → Bool = differs (sizes q) (kview k) w in
    let a = ap length (recording_append (setting_events (sizes q).cells d (is_set (kview k))) (run_events (sizes q).cells d (wanted w))) in
    let b = length-append (recording (setting_events (sizes q).cells d (is_set (kview k)))) (recording (run_events (sizes q).cells d (wanted w))) in
    let c = longest (sizes q).cells d (wanted w) (four_cells q) in
    let e = four (sends40 (sizes q) (kview k) w) in
    omega arith
  where
    four : (t : Bool) → length (recording (whether t (strobe (0x40 ∷ [])) [])) ≤ 4
    four true = omega arith
    four false = omega arith

-- No stream is longer than 112 bytes.
pub most_bytes : (q : Family) (k : Knowledge) (w : List ℕ) → length (stream_of q k w) ≤ 112
most_bytes q k w = let l = longest_stream q k w in omega (arith, (room q).0)
