-- A record that was begun in an earlier packet. The argument: its bytes up to its length are one record or none
-- (`account/Begun`), and what stands behind them is walked as if it stood alone.
use Rattle.std.specs.Prelude.{ℕ, ◌+◌, ◌-◌, ◌≤◌, ◌≡◌, refl, List, [], ◌++◌, length, drop, take, get_or, Ok, Err}
use Rattle.std.proofs.Common.{arith, sym, ap, ◌∙◌, subst, take-append-drop}
use Rattle.std.proofs.Math.Path.{subst⁻¹}
use Rattle.std.proofs.Math.Seq.{drop-append-add}
use Rattle.terms.specs.declared.Event.{Event}
use Rattle.terms.specs.declared.Place.{Place}
use Rattle.terms.specs.declared.Part.{Part}
use Rattle.recording.specs.Record.{body_of}
use Rattle.recording.specs.Walk.{walked, events, end_of, Ending, stop_of}
use Rattle.recording.specs.Cut.{Open, stands_at, left_by}
use Rattle.recording.specs.declared.Refusal.{Refusal}
use Rattle.walks.specs.Turn.{InTurn}
use Rattle.parts.specs.Facts.{same?, range, move}
use Rattle.panel.specs.declared.Panel.{Panel}
use Rattle.panel.specs.View.{known_of, OtherKept}
use Rattle.account.specs.Bytes.{whole_of}
use Rattle.account.specs.Begun.{Begun, still_short, as_long, whole_told}
use Rattle.account_ends.specs.declared.ended.Ended.{Ended}
use Rattle.account_ends.specs.Ended.{Goes, ByEnd, halted}
use Rattle.account_ends.specs.Laws.{halts_so}
use Rattle.packets.specs.declared.records.Taken.{Taken}
use Rattle.packets.specs.Takes.{taking, ReadsRow}
use Rattle.packets.specs.Rows.{row_as, other_same, row_on, row_told}

-- A row's end, as code finds it.
pub row_ends : (p : Part) (k n : Panel) (first before after : ℕ) (l : List ℕ) (e : Ended) (x : Ending)
    → InTurn (known_of p) (same? p) (range p) (move p) (events (walked p l)) k n → OtherKept p k n
    → x ≡ end_of (walked p l) → ByEnd x first before after l e → ReadsRow p k first before after l (taking n e)
row_ends p k n first before after l e x known kept q h =
    record { ended = subst (λ (y : Ending). ByEnd y first before after l e) q h; known = known; kept = kept }

module _ (p : Part) (k : Panel) (total after : ℕ) (u l : List ℕ) (b : Begun p u total) where
  -- Still cut short, with all that has come.
  pub short_row : (e : Ended) → length u + length l ≤ body_of (get_or u 0 0) → Goes after (u ++ l) e
      → ReadsRow p k (total - length u) total after (u ++ l) (taking k e)
  short_row e short h =
      let w = still_short p total u l b short in
      row_ends p k k (total - length u) total after (u ++ l) e _
      (subst⁻¹ (λ (es : List Event). InTurn (known_of p) (same? p) (range p) (move p) es k k) w.0 (λ f. refl))
      (other_same p k) (sym w.1) h

  -- The record is whole, with bytes of the packet up to the place `from`.
  module _ (n : Panel) (from : ℕ) (fits : length u + from ≡ whole_of u) (there : from ≤ length l)
      (known : InTurn (known_of p) (same? p) (range p) (move p) (events (walked p (take (whole_of u) (u ++ l)))) k n) (kept : OtherKept p k n) where
    abbrev t : List ℕ
    t = take (whole_of u) (u ++ l)

    abbrev behind : List ℕ
    behind = drop (whole_of u) (u ++ l)

    all : whole_of u ≤ length u + length l
    all = omega (arith, fits, there)

    all_of_it : t ++ behind ≡ u ++ l
    all_of_it = take-append-drop (whole_of u) (u ++ l)

    rest_of_it : behind ≡ drop from l
    rest_of_it = ap (λ (i : ℕ). drop i (u ++ l)) (sym fits) ∙ drop-append-add u l from

    pub joined_done : (r : Taken) → Ok tt ≡ end_of (walked p t) → ReadsRow p n (total + from) total after (drop from l) r
        → ReadsRow p k (total - length u) total after (u ++ l) r
    joined_done r q h =
        let long = as_long p total u l b all in
        let here : ReadsRow p n (total - length u + length t) total after ([] ++ behind) r = row_as p n (omega (arith, long, fits, b.counted)) refl (sym rest_of_it) h in
        row_as p k refl refl all_of_it
        (row_on p k n (total - length u) total after t behind r known kept (subst Open q tt)
        (subst (λ (e : Ending). ReadsRow p n (total - length u + stands_at e t) total after (left_by e t ++ behind) r) q here))

    pub joined_halts : (x : Refusal) (at : Place) (e : Ended) → Err (stop_of x at) ≡ end_of (walked p t) → e ≡ halted total x (total - length u + at.0)
        → ReadsRow p k (total - length u) total after (u ++ l) (taking n e)
    joined_halts x at e q same =
        let shut = whole_told p total u l b all x at q in
        row_as p k refl refl all_of_it
        (row_told p k (total - length u) total after after t behind (taking n e) (λ o. shut (subst⁻¹ Open q o))
        (row_ends p k n (total - length u) total after t e (Err (stop_of x at)) known kept q
        (halts_so (total - length u) total after t (Err (stop_of x at)) x x at (total - length u + at.0) e refl refl shut refl same)))
