-- A record that was begun in an earlier packet. The argument: its kind tells its length, so that its bytes up to that length
-- are one record, or none and refused by 8.
use Rattle.std.specs.Prelude.{ℕ, suc, ◌+◌, ◌≤◌, ◌≡◌, refl, Bool, true, false, List, [], ◌∷◌, ◌++◌, ◌⊎◌, length, drop, take, get_or, Ok, Err}
use Rattle.std.proofs.Common.{arith, sym, ap, ◌∙◌, subst, ⊎_elim, inl, inr, length-append, length-take-le}
use Rattle.std.proofs.Math.Seq.{drop-length}
use Rattle.rules.specs.Choice.{whether}
use Rattle.terms.specs.declared.Event.{Event}
use Rattle.terms.specs.declared.Place.{Place}
use Rattle.terms.specs.declared.Part.{Part}
use Rattle.recording.specs.Record.{listed, belongs, body_of, allowed, of_body, event_of, front, place_within, record_of}
use Rattle.recording.specs.Walk.{walked, events, end_of, stop_of, Ending}
use Rattle.recording.specs.Laws.{at_body}
use Rattle.recording.specs.Append.{shifted}
use Rattle.recording.specs.Cut.{Open, walked_next, walked_stops}
use Rattle.recording.specs.Start.{CutOff, none, some, started}
use Rattle.recording.specs.Tests.{Starts, starts}
use Rattle.recording.specs.declared.Refusal.{Refusal}
use Rattle.recording.specs.declared.Refusal.TheVariants.{CutShort, Forbidden}
use Rattle.account.specs.Bytes.{whole_of}

-- The unfinished bytes are such a record's, and counted in the total.
pub record Begun (p : Part) (u : List ℕ) (total : ℕ) : Type 0 where
  pub starts : Starts p u
  pub more : 1 ≤ length u
  pub counted : length u ≤ total

-- So are the bytes of a cut-off start, if there are any.
pub begun : (p : Part) (u : List ℕ) (total : ℕ) → CutOff p u → 1 ≤ length u → length u ≤ total → Begun p u total
begun p u total cut more counted = record { starts = by u cut more; more = more; counted = counted }
  where
    by : (v : List ℕ) → CutOff p v → 1 ≤ length v → Starts p v
    by [] none h = absurd (omega arith)
    by (b ∷ l) (some _ _ q) h = starts p (b ∷ l) q

-- Bytes that are just one record long are a record, or refused by 8.
module _ (p : Part) (t : List ℕ) (kind : listed (get_or t 0 0) ≡ true) (own : belongs p (get_or t 0 0) ≡ true) (long : length t ≡ whole_of t) where
  whole_body : front p t ≡ of_body p (get_or t 0 0) t
  whole_body = sym (at_body p t 0 (of_body p (get_or t 0 0) t) kind own (omega (arith, long)) refl)

  one_record : (end_of (walked p t) ≡ Ok tt) ⊎ (end_of (walked p t) ≡ Err (stop_of Forbidden (record { 0 = place_within Forbidden (get_or t 0 0) })))
  one_record = by (allowed p (get_or t 0 0) (get_or t 1 0) (get_or t 4 0)) refl
    where
      e : Event
      e = event_of (get_or t 0 0) (get_or t 1 0) (get_or t 2 0) (get_or t 3 0) (get_or t 4 0)

      nothing_more : drop (whole_of t) t ≡ []
      nothing_more = ap (λ (n : ℕ). drop n t) (sym long) ∙ drop-length t

      by : (b : Bool) → allowed p (get_or t 0 0) (get_or t 1 0) (get_or t 4 0) ≡ b
          → (end_of (walked p t) ≡ Ok tt) ⊎ (end_of (walked p t) ≡ Err (stop_of Forbidden (record { 0 = place_within Forbidden (get_or t 0 0) })))
      by true a =
          let q : front p t ≡ Ok (record_of e (whole_of t)) = whole_body ∙ ap (λ (b : Bool). whether b (Ok (record_of e (whole_of t))) (Err Forbidden)) a in
          let w = walked_next p t (omega (arith, long)) e (whole_of t) q in
          inl (w.ends ∙ ap (λ (m : List ℕ). shifted (whole_of t) (end_of (walked p m))) nothing_more)
      by false a =
          let q : front p t ≡ Err Forbidden = whole_body ∙ ap (λ (b : Bool). whether b (Ok (record_of e (whole_of t))) (Err Forbidden)) a in
          inr (walked_stops p t (omega (arith, long)) Forbidden q).1

  -- So a stop is told.
  one_told : (x : Refusal) (at : Place) → Err (stop_of x at) ≡ end_of (walked p t) → Open (Err (stop_of x at)) → ⊥
  one_told x at q o = ⊎_elim (λ d. stops_not_done (q ∙ d)) (λ s. subst Open (q ∙ s) o) one_record
    where
      stops_not_done : ◌≡◌ {A = Ending} (Err (stop_of x at)) (Ok tt) → ⊥
      stops_not_done z = let i : ◌≡◌ {A = ℕ} 0 1 = cc in omega arith

module _ (p : Part) (total : ℕ) (u l : List ℕ) (b : Begun p u total) where
  -- Still cut short, with all that has come.
  pub still_short : length u + length l ≤ body_of (get_or u 0 0)
      → (events (walked p (u ++ l)) ≡ []) × (end_of (walked p (u ++ l)) ≡ Err (stop_of CutShort (record { 0 = 0 })))
  still_short short = by u b.starts b.more short
    where
      by : (v : List ℕ) → Starts p v → 1 ≤ length v → length v + length l ≤ body_of (get_or v 0 0)
          → (events (walked p (v ++ l)) ≡ []) × (end_of (walked p (v ++ l)) ≡ Err (stop_of CutShort (record { 0 = 0 })))
      by [] s more short = absurd (omega arith)
      by (x ∷ v) s more short =
          let a = length-append (x ∷ v) l in
          walked_stops p (x ∷ v ++ l) (omega arith) CutShort (started p (x ∷ v ++ l) (record { kind = s.kind; own = s.own; short = omega (arith, a, short) }))

  -- All bytes of the record have come.
  module _ (all : whole_of u ≤ length u + length l) where
    pub as_long : length (take (whole_of u) (u ++ l)) ≡ whole_of u
    as_long = let a = length-append u l in length-take-le (whole_of u) (u ++ l) (omega (arith, a, all))

    same_kind : get_or (take (whole_of u) (u ++ l)) 0 0 ≡ get_or u 0 0
    same_kind = by u b.more
      where
        by : (v : List ℕ) → 1 ≤ length v → get_or (take (whole_of v) (v ++ l)) 0 0 ≡ get_or v 0 0
        by [] h = absurd (omega arith)
        by (x ∷ v) h = refl

    -- A stop in it is told.
    pub whole_told : (x : Refusal) (at : Place) → Err (stop_of x at) ≡ end_of (walked p (take (whole_of u) (u ++ l))) → Open (Err (stop_of x at)) → ⊥
    whole_told x at q =
        one_told p (take (whole_of u) (u ++ l)) (ap listed same_kind ∙ b.starts.kind) (ap (belongs p) same_kind ∙ b.starts.own)
        (as_long ∙ ap (λ (k : ℕ). suc (body_of k)) (sym same_kind)) x at q
