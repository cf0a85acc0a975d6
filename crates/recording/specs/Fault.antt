-- 8 points at the byte at fault. The argument: of each kind at most one body byte is looked at, and that is the one.
use Rattle.std.specs.Prelude.{ℕ, suc, ◌+◌, ◌-◌, ◌<◌, ◌≡◌, refl, Bool, true, false, List, length, drop, get_or, eqb, Ok, Err}
use Rattle.std.proofs.Common.{arith, sym, ap, ◌∙◌, length-drop, get_or-drop, eqb-true}
use Rattle.rules.specs.Choice.{whether}
use Rattle.terms.specs.declared.Event.{Event}
use Rattle.terms.specs.declared.Part.{Part}
use Rattle.recording.specs.declared.Refusal.TheVariants.{Forbidden}
use Rattle.recording.specs.Record.{listed, belongs, body_of, allowed, event_of, of_body, front, record_of}
use Rattle.recording.specs.Laws.{kind_at, at_body}
use Rattle.recording.specs.Tests.{Forbids, forbids}
use Rattle.recording.specs.Points.{Points}

-- The byte that 8 points at in a record of this kind.
abbrev looked : (kind b0 b3 : ℕ) → ℕ
looked kind b0 b3 = whether (eqb kind 7) b3 b0

only_looked : (p : Part) (kind b0 b3 : ℕ) → allowed p kind b0 b3 ≡ allowed p kind (looked kind b0 b3) (looked kind b0 b3)
only_looked p kind b0 b3 = by (eqb kind 7) refl
  where
    by : (seven : Bool) → eqb kind 7 ≡ seven → allowed p kind b0 b3 ≡ allowed p kind (whether seven b3 b0) (whether seven b3 b0)
    by true t = rw (eqb-true kind 7 t) refl
    by false t = rw t refl

-- The byte at the place `at` alone is at fault in what starts at the place `first`. Whatever else a recording of the same length
-- holds: as long as the kind and that byte stand, so does 8; and with an allowed value in that byte's place it is a record. The
-- value stands for both bytes that `allowed` asks about, of which a kind looks at one.
pub record Blames (p : Part) (l : List ℕ) (first at : ℕ) : Type 0 where
  pub stands : (m : List ℕ) → length m ≡ length l → get_or m first 0 ≡ get_or l first 0 → get_or m at 0 ≡ get_or l at 0 → front p (drop first m) ≡ Err Forbidden
  pub mends : (m : List ℕ) → length m ≡ length l → get_or m first 0 ≡ get_or l first 0 → allowed p (get_or l first 0) (get_or m at 0) (get_or m at 0) ≡ true
      → (e : Event) × (front p (drop first m) ≡ Ok (record_of e (suc (body_of (get_or l first 0)))))

module _ (p : Part) (l : List ℕ) (from at : ℕ) (h : Points p l from Forbidden at) where
  abbrev first : ℕ
  first = h.first

  abbrev kind : ℕ
  kind = get_or l first 0

  there : (n : List ℕ) → looked kind (get_or (drop first n) 1 0) (get_or (drop first n) 4 0) ≡ get_or n at 0
  there n = by (eqb kind 7) ∙ ap (λ (i : ℕ). get_or n i 0) (sym h.there)
    where
      by : (seven : Bool) → whether seven (get_or (drop first n) 4 0) (get_or (drop first n) 1 0) ≡ get_or n (first + whether seven 4 1) 0
      by true = get_or-drop first n 4 0
      by false = get_or-drop first n 1 0

  seen : (n : List ℕ) → allowed p kind (get_or (drop first n) 1 0) (get_or (drop first n) 4 0) ≡ allowed p kind (get_or n at 0) (get_or n at 0)
  seen n = only_looked p kind (get_or (drop first n) 1 0) (get_or (drop first n) 4 0) ∙ ap (λ (v : ℕ). allowed p kind v v) (there n)

  tests : Forbids p (drop first l)
  tests = forbids p (drop first l) h.none

  not_allowed : allowed p kind (get_or l at 0) (get_or l at 0) ≡ false
  not_allowed = sym (seen l) ∙ ap (λ (k : ℕ). allowed p k (get_or (drop first l) 1 0) (get_or (drop first l) 4 0)) (sym (kind_at l first)) ∙ tests.not_allowed

  -- Another recording, of the same length, and with the same kind there.
  module _ (m : List ℕ) (long : length m ≡ length l) (same : get_or m first 0 ≡ kind) where
    there_too : body_of (get_or m first 0) < length m - first
    there_too =
        let k = ap body_of (same ∙ sym (kind_at l first)) in
        let t = tests.long in
        let d = length-drop first l in
        omega (arith, k, t, d, long)

    is_read : front p (drop first m) ≡ of_body p kind (drop first m)
    is_read =
        sym (at_body p m first (of_body p (get_or m first 0) (drop first m)) (ap listed (same ∙ sym (kind_at l first)) ∙ tests.kind)
        (ap (belongs p) (same ∙ sym (kind_at l first)) ∙ tests.own) there_too refl)
        ∙ ap (λ (k : ℕ). of_body p k (drop first m)) same

    abbrev e : Event
    e = event_of kind (get_or (drop first m) 1 0) (get_or (drop first m) 2 0) (get_or (drop first m) 3 0) (get_or (drop first m) 4 0)

    by_byte : (b : Bool) → allowed p kind (get_or m at 0) (get_or m at 0) ≡ b → front p (drop first m) ≡ whether b (Ok (record_of e (suc (body_of kind)))) (Err Forbidden)
    by_byte b q = is_read ∙ ap (λ (x : Bool). whether x (Ok (record_of e (suc (body_of kind)))) (Err Forbidden)) (seen m ∙ q)

  pub blames : Blames p l first at
  blames = record {
    stands = λ m long same byte. by_byte m long same false (ap (λ (v : ℕ). allowed p kind v v) byte ∙ not_allowed);
    mends = λ m long same fine. (e m long same, by_byte m long same true fine);
  }
