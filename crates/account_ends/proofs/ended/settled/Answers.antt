-- `account_ends::ended::settled` meets its contract: by how the walk ended. A stop is within the packet, and what is cut short there has at most four bytes.
-- Assumes nothing.
use Rattle.std.specs.Prelude.{ℕ, ◌+◌, ◌-◌, ◌≤◌, ◌≡◌, List, length, take, drop, Err}
use Rattle.std.proofs.Common.{arith, sym, ap, ◌∙◌, subst, length-drop, drop-drop}
use Rattle.recording.specs.declared.Refusal.TheVariants.{CutShort}
use Rattle.recording.specs.declared.Stop.{Stop}
use Rattle.recording.specs.Laws.{part_from}
use Rattle.recording.specs.Walk.{Ending, stop_of}
use Rattle.account_ends.specs.Ended.{EndOf}
use Rattle.account_ends.specs.Laws.{stop_within, cut_within}
use Rattle.account_ends.proofs.ended.settled.Goals as goal

module _ (from : ℕ) (packet : List ℕ) (ending : Ending) (s : Stop) (is : ending ≡ Err s) (inside : from ≤ length packet) (of : EndOf ending (drop from packet)) where
  within : from + s.at.0 ≤ length packet
  within = omega (arith, stop_within {x = s.refusal} {at = s.at} (drop from packet) (subst (λ (e : Ending). EndOf e (drop from packet)) is of), length-drop from packet, inside)

  short : s.refusal ≡ CutShort → length (take (length packet - (from + s.at.0)) (drop (from + s.at.0) packet)) ≤ 4
  short same =
      let at : EndOf (Err (stop_of CutShort s.at)) (drop from packet) = subst (λ (e : Ending). EndOf e (drop from packet)) (is ∙ ap (λ z. Err (stop_of z s.at)) same) of in
      let left = part_from (from + s.at.0) packet ∙ sym (drop-drop s.at.0 from packet) in
      omega (arith, cut_within {at = s.at} (drop from packet) at, ap length left)

pub overflow_add-inside : goal.overflow_add-inside
overflow_add-inside c = let h = within c.args.from c.args.packet.now c.args.ending c.in-Err.field-0 c.in-Err.is c.requires.0 c.requires.2 in
    record { fits = omega (arith, h, c.requires.1) }

pub slice_bounds-held-count : goal.slice_bounds-held-count
slice_bounds-held-count c = within c.args.from c.args.packet.now c.args.ending c.in-Err.field-0 c.in-Err.is c.requires.0 c.requires.2

pub slice_bounds-held-start : goal.slice_bounds-held-start
slice_bounds-held-start c = let h = within c.args.from c.args.packet.now c.args.ending c.in-Err.field-0 c.in-Err.is c.requires.0 c.requires.2 in omega (arith, h)

pub held-unfinished-requires : goal.held-unfinished-requires
held-unfinished-requires c = short c.args.from c.args.packet.now c.args.ending c.in-Err.field-0 c.in-Err.is c.requires.0 c.requires.2 c.in-CutShort.is

pub overflow_add-before : goal.overflow_add-before
overflow_add-before c = let h = within c.args.from c.args.packet.now c.args.ending c.in-Err.field-0 c.in-Err.is c.requires.0 c.requires.2 in
    record { fits = omega (arith, h, c.requires.1) }
