-- Two answers to one packet are one. The argument: number and place fix the answer, what is known of every fact fixes the
-- knowledge, and how the records end fixes the account.
use Rattle.std.specs.Prelude.{ℕ, ◌≡◌, List, ◌++◌, Ok, Err, Option, None, Some}
use Rattle.std.proofs.Common.{sym, ◌∙◌}
use Rattle.rules.specs.Where.{where_both}
use Rattle.terms.specs.declared.Part.{Part}
use Rattle.terms.specs.Part.{PartRead}
use Rattle.recording.specs.Walk.{walked, end_of}
use Rattle.panel.specs.declared.Panel.{Panel}
use Rattle.panel.specs.Unique.{Shaped, same_panel}
use Rattle.answers.specs.Answer.{Answer, number, place}
use Rattle.answers.specs.Unique.{same_answer}
use Rattle.account.specs.Bytes.{bytes_of}
use Rattle.account_tests.specs.Tests.{ByKept}
use Rattle.account_ends.specs.Unique.{one_end}
use Rattle.feed.specs.declared.Feed.{Feed}
use Rattle.packets.specs.declared.records.Taken.{Taken}
use Rattle.packets.specs.Takes.{RefusedBy, ends, taking, ReadsRow, Takes}

module _ (r q : Taken) where
  same_taken : r.answer ≡ q.answer → r.feed ≡ q.feed → r ≡ q
  same_taken a f = λ i. record { answer = a i; feed = f i }

  -- The same knowledge and account.
  same_ends : r.feed.panel ≡ q.feed.panel → ends r ≡ ends q → r ≡ q
  same_ends k e = λ i. taking (k i) (e i)

  one_refusal : (n at : ℕ) (s : Feed) → RefusedBy n at s r → RefusedBy n at s q → r ≡ q
  one_refusal n at s h g =
      same_taken (same_answer r.answer q.answer (h.numbered ∙ sym g.numbered) (h.placed ∙ sym g.placed)) (h.kept ∙ sym g.kept)

  module _ (sr : Shaped r.feed.panel) (sq : Shaped q.feed.panel) where
    pub one_row : (p : Part) (k : Panel) (first before after : ℕ) (l : List ℕ) → ReadsRow p k first before after l r → ReadsRow p k first before after l q → r ≡ q
    one_row p k first before after l h g =
        same_ends (same_panel p k r.feed.panel q.feed.panel sr sq (λ f. h.known f ∙ sym (g.known f)) h.kept g.kept)
        (one_end (ends r) (ends q) (end_of (walked p l)) first before after l h.ended g.ended)

    one_kept : (k : Option Answer) (s : Feed) (P Q : Type 0) → (P → Q → r ≡ q) → ByKept k (λ n at. RefusedBy n at s r) P → ByKept k (λ n at. RefusedBy n at s q) Q → r ≡ q
    one_kept None s P Q same h g = same h g
    one_kept (Some a) s P Q same h g = one_refusal (number a) (place a) s h g

    -- Two answers to one packet are one.
    pub one_taken : (part : PartRead) (s : Feed) (l : List ℕ) → Takes part s l r → Takes part s l q → r ≡ q
    one_taken (Ok p) s l h g =
        where_both
        (one_kept s.account.kept s _ _ (where_both (one_row p s.panel _ s.account.total _ (bytes_of s.account.unfinished ++ l)) (one_refusal 4 0 s)))
        (one_refusal 2 0 s) h g
    one_taken (Err e) s l h g = one_refusal 1 0 s h g
