-- What becomes of the account at the end of a packet's records (M-100): number, place, unfinished bytes, total and standing
-- refusal, by how the records end.
use Rattle.std.specs.Prelude.{ℕ, ◌+◌, ◌≡◌, List, [], drop, Ok, None, Some, Err}
use Rattle.terms.specs.declared.Part.{Part}
use Rattle.recording.specs.Walk.{walked, end_of, Ending}
use Rattle.recording.specs.declared.Refusal.{Refusal}
use Rattle.recording.specs.declared.Refusal.TheVariants.{Unlisted, Foreign, CutShort, Forbidden}
use Rattle.answers.specs.Answer.{number, place, refused_as}
use Rattle.account.specs.declared.unfinished.Unfinished.{Unfinished}
use Rattle.account.specs.declared.unfinished.Unfinished.TheVariants as Left
use Rattle.account.specs.Bytes.{bytes_of}
use Rattle.account_ends.specs.declared.ended.Ended.{Ended}

-- Number 0 at the total, which now counts the packet's bytes, too; `left` is unfinished, and no refusal stands.
pub record Goes (total : ℕ) (left : List ℕ) (r : Ended) : Type 0 where
  pub numbered : number r.answer ≡ 0
  pub placed : place r.answer ≡ total
  pub counted : r.account.total ≡ total
  pub unfinished : bytes_of r.account.unfinished ≡ left
  pub stands : r.account.kept ≡ None

-- Refused by a record, with the number n at the place that the refusal points at: that stands, unfinished bytes are dropped,
-- and the total is that before the packet.
pub record Halts (n at total : ℕ) (r : Ended) : Type 0 where
  pub numbered : number r.answer ≡ n
  pub placed : place r.answer ≡ at
  pub counted : r.account.total ≡ total
  pub unfinished : bytes_of r.account.unfinished ≡ []
  pub stands : r.account.kept ≡ Some r.answer

-- By what refuses a record at the place `at`, in front of the bytes `left`; `before` and `after` are the totals before and after
-- the packet.
abbrev pub ByRefusal : Refusal → (at before after : ℕ) (left : List ℕ) → Ended → Type 0
ByRefusal Unlisted at before after left r = Halts 5 at before r
ByRefusal Foreign at before after left r = Halts 6 at before r
ByRefusal CutShort at before after left r = Goes after left r
ByRefusal Forbidden at before after left r = Halts 8 at before r

-- By how the records of the row l end, whose first byte stands at the place `first`. What a refusal points at, by `recording/Record.place_within`, is a place in the row, also if the
-- record's first bytes came in an earlier packet.
abbrev pub ByEnd : Ending → (first before after : ℕ) → List ℕ → Ended → Type 0
ByEnd (Ok u) first before after l r = Goes after [] r
ByEnd (Err s) first before after l r = ByRefusal s.refusal (first + s.at.0) before after (drop s.at.0 l) r

-- So the records of the row l end, read for some part.
abbrev pub EndOf : Ending → List ℕ → Type 0
EndOf e l = (p : Part) × (end_of (walked p l) ≡ e)

-- The two ends, written out.
abbrev pub went : Unfinished → ℕ → Ended
went u total = record { answer = Ok (record { 0 = total }); account = record { unfinished = u; total = total; kept = None } }

abbrev pub halted : ℕ → Refusal → ℕ → Ended
halted total x at = record {
  answer = refused_as x (record { 0 = at });
  account = record { unfinished = Left.None; total = total; kept = Some (refused_as x (record { 0 = at })) };
}
