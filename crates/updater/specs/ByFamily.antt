-- The update of a family, with what is known then. The argument: what is sent for a ring of cells is the update of the family that has so many; where a cell is
-- named as the one behind the last run, something was sent, and where none is named, nothing has changed.
use Rattle.std.specs.Prelude.{ℕ, zero, suc, ◌≡◌, refl, Bool, List, Some, None}
use Rattle.std.proofs.Common.{sym, ◌∙◌, subst}
use Rattle.terms.specs.declared.Address.{Address}
use Rattle.segment.specs.declared.Family.{Family}
use Rattle.segment.specs.Family.{sizes}
use Rattle.segment.specs.Fact.{Fact}
use Rattle.segment_knowledge.specs.declared.Knowledge.{Knowledge}
use Rattle.segment_knowledge.specs.View.{kview}
use Rattle.panel.specs.declared.Panel.{Panel}
use Rattle.runs.specs.Survey.{differ}
use Rattle.updating.specs.declared.Refreshed.{Refreshed}
use Rattle.updating.specs.Update.{is_set}
use Rattle.updating.specs.Updated.{known_after}
use Rattle.updating.specs.Answer.{Updated, number, UpdatesSegment}
use Rattle.updating.specs.Refresh.{ByNumber}
use Rattle.segment_updater.specs.declared.Sending.{Sending}
use Rattle.segment_updater.specs.Sends.{Sends, behind_of, sent_some, sent_none}
use Rattle.segment_refreshed.specs.Sent.{SentSome, unsent_known}

-- Where the update was sent, what is known then, r, and the half that speaks of PT6302 as it was.
abbrev pub LearnsSegment : Family → Panel → List ℕ → Panel → Type 0
LearnsSegment q k w r = ((f : Fact) → kview r.segment f ≡ known_after (sizes q) (kview k.segment) w f) × (r.character ≡ k.character)

abbrev pub RefreshesSegment : Family → Panel → List ℕ → List ℕ → Refreshed → List ℕ → Type 0
RefreshesSegment q k w out r after =
    UpdatesSegment q k.segment w out r.answer after × ByNumber (number r.answer) k r.panel (LearnsSegment q k w r.panel)

pub by_family : (q : Family) (k : Knowledge) (w out : List ℕ) (r : Updated) (after : List ℕ) (n : ℕ) (set : Bool) → n ≡ (sizes q).cells → set ≡ is_set (kview k)
    → Sends n (differ k.cells w) set w out r after → Sends (sizes q).cells (differ k.cells w) (is_set (kview k)) w out r after
by_family q k w out r after n set e f h =
    subst (λ (t : Bool). Sends (sizes q).cells (differ k.cells w) t w out r after) f (subst (λ (m : ℕ). Sends m (differ k.cells w) set w out r after) e h)

module _ (q : Family) (k : Panel) (w : List ℕ) (n : ℕ) (cells : n ≡ (sizes q).cells) (x : Sending)
    (met : x.behind ≡ behind_of n (differ k.segment.cells w) (number x.answer)) where
  told : x.behind ≡ behind_of (sizes q).cells (differ k.segment.cells w) (number x.answer)
  told = rw cells at met

  -- Where a cell is named, something was sent.
  pub named_sent : (set : Bool) (cell : Address) → set ≡ is_set (kview k.segment) → x.behind ≡ Some cell → SentSome (sizes q) (kview k.segment) w set cell.0
  named_sent set cell f e =
      let (z, some, end) = sent_some (sizes q).cells (differ k.segment.cells w) (number x.answer) cell (sym told ∙ e) in
      record { some = some; set_is = f; end_is = end }

  pub named_learns : (cell : Address) (r : Panel) → x.behind ≡ Some cell → LearnsSegment q k w r → ByNumber (number x.answer) k r (LearnsSegment q k w r)
  named_learns cell r e h =
      let (z, some, end) = sent_some (sizes q).cells (differ k.segment.cells w) (number x.answer) cell (sym told ∙ e) in
      subst (λ (m : ℕ). ByNumber m k r (LearnsSegment q k w r)) (sym z) h

  -- Where none is named, all is as it was, be it that the update was refused or that it had nothing to send.
  pub unnamed_learns : x.behind ≡ None → ByNumber (number x.answer) k k (LearnsSegment q k w k)
  unnamed_learns e = go (number x.answer) (sym told ∙ e)
    where
      go : (m : ℕ) → behind_of (sizes q).cells (differ k.segment.cells w) m ≡ None → ByNumber m k k (LearnsSegment q k w k)
      go zero z = (unsent_known (sizes q) (kview k.segment) w (sent_none (sizes q).cells (differ k.segment.cells w) z), refl)
      go (suc m) z = refl
