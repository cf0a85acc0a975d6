-- `replay::replays::replay` meets its contract: the part's walk is over what stands from the start place on, and how it ends tells the answer, and whether the part's half of
-- the knowledge is the new one or the old. Assumes nothing.
use mathlib.Core.Path.{◌≡◌, ap, ◌∙◌, subst, subst⁻¹}
use lib.ListN.{length, drop}
use Rattle.recording.specs.Laws.{part_from}
use Rattle.recording.specs.Walk.{walked, end_of}
use Rattle.answers.specs.Ended.{inside, ended_as}
use Rattle.parts.specs.Kind.{part_is}
use Rattle.character_walks.specs.Walks as OfCharacter
use Rattle.segment_walks.specs.Walks as OfSegment
use Rattle.panel.specs.declared.Panel.{Panel}
use Rattle.replay.specs.Replay.{ReplaysFrom}
use Rattle.replay.specs.Passing.{from_records}
use Rattle.replay.specs.Walked.{stopped, characters_done, segments_done}
use Rattle.replay.proofs.replays.replay.Goals as goal
use Rattle.replay.proofs.replays.replay.Goals.{in-Character+in-Ok-ending, in-Character+in_default, in-Segment+in-Ok-ending-2, in-Segment+in_default-ending}

pub ended-requires : goal.ended-requires
ended-requires c =
    let a = c.args in
    let l = a.recording.now in
    let p = c.in-Ok.part in
    let from = ap (λ m. end_of (walked p m)) (part_from a.start.0 l) in
    let ends : c.match-from.ending ≡ end_of (walked p (drop a.start.0 l)) = elim c.match-from.branch [
      | in-Character+in-Ok-ending w ↦ w.ending-is ∙ w.character_walk-walked.ensures.ended ∙ from
      | in-Character+in_default w ↦ w.ending-is ∙ w.character_walk-walked.ensures.ended ∙ from
      | in-Segment+in-Ok-ending-2 w ↦ w.ending-is ∙ w.segment_walk-walked.ensures.ended ∙ from
      | in-Segment+in_default-ending w ↦ w.ending-is ∙ w.segment_walk-walked.ensures.ended ∙ from
    ] in
    inside p l a.start.0 c.match-from.ending c.in-Ok.ensures.within ends

pub returns : goal.returns
returns c =
    let a = c.args in
    let l = a.recording.now in
    let s = a.start.0 in
    let k = a.panel in
    let p = c.in-Ok.part in
    let answer = c.ended.result in
    let from = ap (λ m. end_of (walked p m)) (part_from s l) in
    let by : Panel → Type 0 = λ known. ReplaysFrom p k l s (record { answer = answer; panel = known }) in
    from_records _ k l s p _ c.in-Ok.ensures
    (elim c.match-from.branch [
      | in-Character+in-Ok-ending w ↦
          let r = w.character_walk-walked.result in
          let is = c.from.ensures ∙ ap part_is w.in-Character.is in
          let walk = subst (λ x. OfCharacter.Walks x k.character (drop s l) r) is (subst (λ m. OfCharacter.Walks p k.character m r) (part_from s l) w.character_walk-walked.ensures) in
          let told = c.ended.ensures ∙ ap (λ e. ended_as e s (length l)) w.ending-is in
          subst⁻¹ by w.known-is
          (subst⁻¹ (λ x. ReplaysFrom x k l s (record { answer = answer; panel = record { segment = k.segment; character = r.k } })) is (characters_done k l s answer r walk w.in-Ok-ending.is told))
      | in-Character+in_default w ↦ let d = w.in_default in
          subst⁻¹ by w.known-is (stopped k l s answer p c.match-from.ending d.field-0.refusal d.field-0.at (w.ending-is ∙ w.character_walk-walked.ensures.ended ∙ from) (w.ending-is ∙ d.is) c.ended.ensures)
      | in-Segment+in-Ok-ending-2 w ↦
          let r = w.segment_walk-walked.result in
          let f = w.in-Segment.family in
          let is = c.from.ensures ∙ ap part_is w.in-Segment.is in
          let walk = subst (λ m. OfSegment.Walks p f k.segment m r) (part_from s l) w.segment_walk-walked.ensures in
          let told = c.ended.ensures ∙ ap (λ e. ended_as e s (length l)) w.ending-is in
          subst⁻¹ by w.known-is (segments_done k l s answer f p is r walk w.in-Ok-ending-2.is told)
      | in-Segment+in_default-ending w ↦ let d = w.in_default-ending in
          subst⁻¹ by w.known-is (stopped k l s answer p c.match-from.ending d.field-0.refusal d.field-0.at (w.ending-is ∙ w.segment_walk-walked.ensures.ended ∙ from) (w.ending-is ∙ d.is) c.ended.ensures)
    ])
