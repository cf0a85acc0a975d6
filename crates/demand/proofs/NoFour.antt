-- When packets meet no 4. The argument: 4 is answered only by its own test, behind which a record's refusal or none follows; and
-- a packet's bytes are all that the total grows by.
use Rattle.std.specs.Prelude.{ℕ, ◌+◌, ◌≤◌, ◌≡◌, true, List, [], ◌∷◌, ◌++◌, Ok, Option, None, Some, Err}
use Rattle.std.proofs.Common.{arith, ap, ◌∙◌, true≢false, length-append, drop}
use Rattle.std.proofs.Math.Path.{sym}
use Rattle.std.proofs.Math.ListN.{length}
use Rattle.rules.specs.Where.{Where, good, bad, where_good}
use Rattle.terms.specs.declared.Part.{Part}
use Rattle.terms.specs.Part.{part_of}
use Rattle.recording.specs.Walk.{walked, end_of, Ending}
use Rattle.recording.specs.declared.Refusal.{Refusal}
use Rattle.recording.specs.declared.Refusal.TheVariants.{Unlisted, Foreign, CutShort, Forbidden}
use Rattle.answers.specs.Answer.{Answer, number, place}
use Rattle.account.specs.Bytes.{bytes_of}
use Rattle.account_fair.specs.Fair.{stands, MayStand}
use Rattle.account_tests.specs.Tests.{Fits, ByKept}
use Rattle.account_ends.specs.declared.ended.Ended.{Ended}
use Rattle.account_ends.specs.Ended.{ByRefusal, ByEnd}
use Rattle.feed.specs.declared.Feed.{Feed}
use Rattle.feed.specs.Feed.{first_place}
use Rattle.packets.specs.declared.records.Taken.{Taken}
use Rattle.packets.specs.Takes.{ends, RefusedBy, Reads, TakesPart}
use Rattle.packets.specs.Run.{Run, together, NoFour}
use Rattle.demand.proofs.Packets.{takes_by}
use Rattle.demand.specs.NoFour.{Short}

-- What a row's end is answered, and what it makes of the total.
end_not_four : (e : Ending) (first before after : ℕ) (l : List ℕ) (r : Ended) → ByEnd e first before after l r → number r.answer ≡ 4 → ⊥
end_not_four (Ok u) first before after l r h z = let x = sym h.numbered ∙ z in omega (arith, x)
end_not_four (Err s) first before after l r h z = by s.refusal h
  where
    by : (y : Refusal) → ByRefusal y (first + s.at.0) before after (drop s.at.0 l) r → ⊥
    by Unlisted h = let x = sym h.numbered ∙ z in omega (arith, x)
    by Foreign h = let x = sym h.numbered ∙ z in omega (arith, x)
    by CutShort h = let x = sym h.numbered ∙ z in omega (arith, x)
    by Forbidden h = let x = sym h.numbered ∙ z in omega (arith, x)

end_total : (e : Ending) (first before after : ℕ) (l : List ℕ) (r : Ended) → before ≤ after → ByEnd e first before after l r → r.account.total ≤ after
end_total (Ok u) first before after l r more h = let x = h.counted in omega (arith, x)
end_total (Err s) first before after l r more h = by s.refusal h
  where
    by : (y : Refusal) → ByRefusal y (first + s.at.0) before after (drop s.at.0 l) r → r.account.total ≤ after
    by Unlisted h = let x = h.counted in omega (arith, x, more)
    by Foreign h = let x = h.counted in omega (arith, x, more)
    by CutShort h = let x = h.counted in omega (arith, x)
    by Forbidden h = let x = h.counted in omega (arith, x, more)

-- A refusal that stands is not 4.
standing_not_four : (n : ℕ) → stands n ≡ true → n ≡ 4 → ⊥
standing_not_four n s z = true≢false (sym s ∙ ap stands z)

module _ (p : Part) (s : Feed) (l : List ℕ) (r : Taken) where
  Kinds : Option Answer → Type 0
  Kinds k = ByKept k (λ n at. RefusedBy n at s r) (Where (Fits s.account.total (length l)) (Reads p s l r) (RefusedBy 4 0 s r))

  -- A packet that is not too long, and leaves the total within its limit, is not answered by 4.
  pub not_four : Fits s.account.total (length l) → TakesPart p s l r → number r.answer ≡ 4 → ⊥
  unfolding Kinds
  not_four fits (good fine h) z = by s.account.kept fine.told h
    where
      by : (k : Option Answer) → MayStand k → Kinds k → ⊥
      by None m h =
          end_not_four (end_of (walked p (bytes_of s.account.unfinished ++ l))) (first_place s) s.account.total (s.account.total + length l) (bytes_of s.account.unfinished ++ l) (ends r) (where_good fits h).ended z
      by (Some a) m h = standing_not_four (number a) m (sym h.numbered ∙ z)
  not_four fits (bad wrong h) z = let x = sym h.numbered ∙ z in omega (arith, x)

  same_total : (n at : ℕ) → RefusedBy n at s r → r.feed.account.total ≤ s.account.total + length l
  same_total n at h = let x = ap (λ (f : Feed). f.account.total) h.kept in omega (arith, x)

  -- The total grows by the packet's bytes, or not at all.
  pub total_within : TakesPart p s l r → r.feed.account.total ≤ s.account.total + length l
  unfolding Kinds
  total_within (good fine h) = by s.account.kept h
    where
      by : (k : Option Answer) → Kinds k → r.feed.account.total ≤ s.account.total + length l
      by None (good fits h) =
          end_total (end_of (walked p (bytes_of s.account.unfinished ++ l))) (first_place s) s.account.total (s.account.total + length l) (bytes_of s.account.unfinished ++ l) (ends r) (omega arith) h.ended
      by None (bad no_way h) = same_total 4 0 h
      by (Some a) h = same_total (number a) (place a) h
  total_within (bad wrong h) = same_total 2 0 h

-- Such packets, whose bytes together leave the total within its limit, meet no 4.
pub no_four : (b : ℕ) (p : Part) → part_of b ≡ Ok p → (ls : List (List ℕ)) (s : Feed) (rs : List Taken) → Run (part_of b) s ls rs → Short ls
    → s.account.total + length (together ls) ≤ 4294967295 → NoFour rs
no_four b p named [] s [] run short room = tt
no_four b p named [] s (r ∷ rs) run short room = absurd run
no_four b p named (l ∷ ls) s [] run short room = absurd run
no_four b p named (l ∷ ls) s (r ∷ rs) run short room =
    let met = takes_by (part_of b) p s l r named run.0 in
    let a = length-append l (together ls) in
    let t = total_within p s l r met in
    (not_four p s l r (record { packet = short.0; whole = omega (arith, a, room) }) met, no_four b p named ls r.feed rs run.1 short.1 (omega (arith, a, room, t)))
