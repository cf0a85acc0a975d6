-- Two ends of one packet's records are one. The argument: number and place fix the answer, the row fixes the unfinished
-- bytes, and total and standing refusal are told in full.
use Rattle.std.specs.Prelude.{ℕ, ◌+◌, ◌≡◌, List, [], drop, Some, Ok, Err}
use Rattle.std.proofs.Common.{sym, ap, ◌∙◌}
use Rattle.recording.specs.declared.Refusal.{Refusal}
use Rattle.recording.specs.declared.Refusal.TheVariants.{Unlisted, Foreign, CutShort, Forbidden}
use Rattle.answers.specs.Unique.{same_answer}
use Rattle.account.specs.Bytes.{bytes_of}
use Rattle.account.specs.Unique.{same_bytes}
use Rattle.account_ends.specs.declared.ended.Ended.{Ended}
use Rattle.recording.specs.Walk.{Ending}
use Rattle.account_ends.specs.Ended.{Goes, Halts, ByRefusal, ByEnd}

module _ (r q : Ended) where
  same_ended : r.answer ≡ q.answer → bytes_of r.account.unfinished ≡ bytes_of q.account.unfinished → r.account.total ≡ q.account.total → r.account.kept ≡ q.account.kept → r ≡ q
  same_ended a u t s = let v = same_bytes r.account.unfinished q.account.unfinished u in λ i. record { answer = a i; account = record { unfinished = v i; total = t i; kept = s i } }

  pub one_going : (total : ℕ) (left : List ℕ) → Goes total left r → Goes total left q → r ≡ q
  one_going total left h g =
      same_ended (same_answer r.answer q.answer (h.numbered ∙ sym g.numbered) (h.placed ∙ sym g.placed))
      (h.unfinished ∙ sym g.unfinished) (h.counted ∙ sym g.counted) (h.stands ∙ sym g.stands)

  one_halt : (n at total : ℕ) → Halts n at total r → Halts n at total q → r ≡ q
  one_halt n at total h g =
      let a = same_answer r.answer q.answer (h.numbered ∙ sym g.numbered) (h.placed ∙ sym g.placed) in
      same_ended a (h.unfinished ∙ sym g.unfinished) (h.counted ∙ sym g.counted) (h.stands ∙ ap Some a ∙ sym g.stands)

  one_refusal : (x : Refusal) (at before after : ℕ) (left : List ℕ) → ByRefusal x at before after left r → ByRefusal x at before after left q → r ≡ q
  one_refusal Unlisted at before after left h g = one_halt 5 at before h g
  one_refusal Foreign at before after left h g = one_halt 6 at before h g
  one_refusal CutShort at before after left h g = one_going after left h g
  one_refusal Forbidden at before after left h g = one_halt 8 at before h g

  pub one_end : (e : Ending) (first before after : ℕ) (l : List ℕ) → ByEnd e first before after l r → ByEnd e first before after l q → r ≡ q
  one_end (Ok u) first before after l h g = one_going after [] h g
  one_end (Err s) first before after l h g = one_refusal s.refusal (first + s.at.0) before after (drop s.at.0 l) h g
