-- What `send` answers, for a ring of n cells, and why the sum of its pieces is the whole. The argument: the 40H strobe, if it is sent, stands at the front,
-- and the runs behind it; their lengths are told by what was counted.
use Rattle.std.specs.Prelude.{ℕ, zero, suc, ◌+◌, ◌*◌, ◌<◌, ◌≤◌, ◌≡◌, refl, Bool, true, false, not, ◌&&◌, List, [], ◌∷◌, length, eqb, Option, Some, None}
use Rattle.std.proofs.Common.{arith, ap, ◌∙◌, subst, length-append}
use mir.Val.{bool_byte}
use Rattle.rules.specs.Choice.{whether}
use Rattle.writing.specs.declared.Writer.{Writer}
use Rattle.writing.specs.Wrote.{Wrote}
use Rattle.strobes.specs.Stream.{wrote_events}
use Rattle.rules.specs.Where.{Where}
use Rattle.terms.specs.declared.Address.{Address}
use Rattle.terms.specs.Event.{recording, recording_append, strobe}
use Rattle.survey.specs.declared.Survey.{Survey}
use Rattle.runs.specs.Runs.{wanted, differing, starts, starts_of, last_end, run_events}
use Rattle.runs.specs.Linear.{those_most}
use Rattle.runs.specs.Survey.{Surveyed}
use Rattle.runs.specs.Count.{run_length}
use Rattle.updating.specs.Update.{needs40, setting_events, sent_events, sent_bytes}
use Rattle.updating.specs.Answer.{Updated, RefusedBy, Sent}

-- Number 10 exactly where the output is shorter than the stream.
abbrev pub Sends : ℕ → (ℕ → Bool) → Bool → List ℕ → List ℕ → Updated → List ℕ → Type 0
Sends n d set w out r after =
    Where (length (recording (sent_events n d set (wanted w))) ≤ length out)
    (Sent (recording (sent_events n d set (wanted w))) (sent_bytes n d set) out r after)
    (RefusedBy 10 out r after)

-- The cell behind the last run, of an update that is answered by the number; where that is refused, or nothing differs, nothing was sent.
abbrev pub behind_of : ℕ → (ℕ → Bool) → ℕ → Option Address
behind_of n d zero = whether (eqb (length (differing n d)) 0) None (Some (record { 0 = last_end n d 0 (starts_of n d) }))
behind_of n d (suc m) = None

-- A cell is named only where the update was sent and something differs, and it is the one behind the last run; where it was sent and none is named, nothing differs.
module _ (n : ℕ) (d : ℕ → Bool) where
  pub sent_some : (m : ℕ) (cell : Address) → behind_of n d m ≡ Some cell → (m ≡ 0) × (eqb (length (differing n d)) 0 ≡ false) × (cell.0 ≡ last_end n d 0 (starts_of n d))
  sent_some zero cell e = let (some, end) = go (eqb (length (differing n d)) 0) refl e in (refl, some, end)
    where
      go : (b : Bool) → eqb (length (differing n d)) 0 ≡ b → whether b None (Some (record { 0 = last_end n d 0 (starts_of n d) })) ≡ Some cell
          → (eqb (length (differing n d)) 0 ≡ false) × (cell.0 ≡ last_end n d 0 (starts_of n d))
      go true z e = let x : ◌≡◌ {A = ℕ} 0 1 = cc in absurd (omega arith)
      go false z e = let x : cell.0 ≡ last_end n d 0 (starts_of n d) = cc in (z, x)
  sent_some (suc m) cell e = let x : ◌≡◌ {A = ℕ} 0 1 = cc in absurd (omega arith)

  pub sent_none : behind_of n d 0 ≡ None → eqb (length (differing n d)) 0 ≡ true
  sent_none e = go (eqb (length (differing n d)) 0) e
    where
      go : (b : Bool) → whether {A = Option Address} b None (Some (record { 0 = last_end n d 0 (starts_of n d) })) ≡ None → b ≡ true
      go true e = refl
      go false e = let x : ◌≡◌ {A = ℕ} 0 1 = cc in absurd (omega arith)

module _ (n : ℕ) (d : ℕ → Bool) (set : Bool) (w : List ℕ) (some : 0 < n) where
  setting_length : length (recording (setting_events n d set)) ≡ 4 * whether (needs40 n d set) 1 0
  setting_length = go (needs40 n d set)
    where
      go : (b : Bool) → length (recording (whether b (strobe (0x40 ∷ [])) [])) ≡ 4 * whether b 1 0
      go true = refl
      go false = refl

  -- How long the stream is.
  pub sent_length : length (recording (sent_events n d set (wanted w)))
      ≡ 2 * length (differing n d) + 4 * (length (starts_of n d) + whether (needs40 n d set) 1 0)
  sent_length =
      let a = ap length (recording_append (setting_events n d set) (run_events n d (wanted w))) in
      let b = length-append (recording (setting_events n d set)) (recording (run_events n d (wanted w))) in
      let c = run_length n d (wanted w) some in
      let e = setting_length in
      omega arith

  -- What code has found: how many cells and runs there are, and whether 40H goes first.
  pub record Told (cells runs first : ℕ) (setting : Bool) : Type 0 where
    pub cells_are : cells ≡ length (differing n d)
    pub runs_are : runs ≡ length (starts_of n d)
    pub first_is : first ≡ whether (needs40 n d set) 1 0
    pub setting_is : setting ≡ needs40 n d set

  pub told : (r : Survey) → Surveyed n d r → Told r.cells r.runs (bool_byte (not set && not (eqb r.cells 0))) (not set && not (eqb r.cells 0))
  told r s =
      let z : (not set && not (eqb r.cells 0)) ≡ needs40 n d set = ap (λ (k : ℕ). not set && not (eqb k 0)) s.cells in
      record { cells_are = s.cells; runs_are = s.runs; first_is = one_if (not set && not (eqb r.cells 0)) ∙ ap (λ (t : Bool). whether t 1 0) z; setting_is = z }
    where
      one_if : (t : Bool) → bool_byte t ≡ whether t 1 0
      one_if true = refl
      one_if false = refl

  module _ (cells runs first : ℕ) (setting : Bool) (t : Told cells runs first setting) where
    pub told_most : (cells ≤ n) × (runs ≤ n) × (first ≤ 1)
    told_most = (omega (arith, t.cells_are, those_most d n 0), omega (arith, t.runs_are, those_most (starts n d) n 0), one (needs40 n d set) t.first_is)
      where
        one : (b : Bool) → first ≡ whether b 1 0 → first ≤ 1
        one true e = omega arith
        one false e = omega arith

    pub told_size : 2 * cells + 4 * (runs + first) ≡ length (recording (sent_events n d set (wanted w)))
    told_size = omega (arith, t.cells_are, t.runs_are, t.first_is, sent_length)

    pub told_count : cells + runs + first ≡ sent_bytes n d set
    told_count = omega (arith, t.cells_are, t.runs_are, t.first_is)

    pub told_behind : (end : Address) (b : Option Address) → end.0 ≡ last_end n d 0 (starts_of n d) → b ≡ whether (eqb cells 0) None (Some end) → b ≡ behind_of n d 0
    told_behind end b e f = f ∙ (λ i. whether (eqb (t.cells_are i) 0) None (Some (record { 0 = e i })))

  -- The setting, if it is needed, and the runs behind it are the stream.
  pub sent_written : {u v x : Writer} (setting : Bool) → setting ≡ needs40 n d set → Wrote u (recording (whether setting (strobe (0x40 ∷ [])) [])) v
      → Wrote v (recording (run_events n d (wanted w))) x → Wrote u (recording (sent_events n d set (wanted w))) x
  sent_written {u} {v} setting e p q =
      wrote_events (setting_events n d set) (run_events n d (wanted w)) (subst (λ (b : Bool). Wrote u (recording (whether b (strobe (0x40 ∷ [])) [])) v) e p) q
