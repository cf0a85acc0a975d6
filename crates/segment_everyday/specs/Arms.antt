-- What each arm of the walk owes: that what is left behind its records makes of the knowledge behind them what was left before makes of the knowledge before.
use Rattle.std.specs.Prelude.{ℕ, suc, ◌+◌, ◌*◌, ◌<◌, ◌≤◌, ◌≡◌, refl, Bool, true, false, List, ltb, length, get_or, drop, Ok}
use Rattle.std.proofs.Common.{arith, sym, ap, ◌∙◌, subst}
use Rattle.std.proofs.Math.Path.{subst⁻¹}
use Rattle.rules.specs.Choice.{whether}
use Rattle.terms.specs.declared.Event.{Event}
use Rattle.terms.specs.declared.Event.TheVariants.{Falls, ByteIn, Rises, Gap}
use Rattle.terms.specs.declared.Part.{Part}
use Rattle.knowing.specs.Standing.{Standing, known, unknown}
use Rattle.knowing.specs.Know.{know}
use Rattle.fact.specs.View.{stands}
use Rattle.lamps.specs.Lamp.{wide8, wide4}
use Rattle.recording.specs.Record.{front, record_of}
use Rattle.recording.specs.Steps.{rest}
use Rattle.recording.specs.Walk.{walked}
use Rattle.one_record.specs.Glance.{InByte}
use Rattle.lamps.specs.View.{shown}
use Rattle.changes.specs.Change.{among, Changes, Met, met_run, shared_by}
use Rattle.changes.specs.Run.{shared_none_past, shared_met_code, shared_cut, met_none}
use Rattle.walks.specs.Kept.{Kept, kept_read, kept_same}
use Rattle.walks.specs.Reads.{falls_there, byte_there, rises_there, gap_there}
use Rattle.walks.specs.Run.{Run, byte_of, kept_run}
use Rattle.stored_runs.specs.Putting.{PutsRun}
use Rattle.byte_runs.specs.Sharing.{Shares}
use Rattle.segment.specs.declared.Family.{Family}
use Rattle.segment.specs.declared.command.Command.{Command}
use Rattle.segment.specs.Command.{command_of}
use Rattle.segment.specs.Fact.{Fact, same?, range, cell, address, data_mode, stepping, mode, dimming, display, led, key, switches, read_count, position}
use Rattle.segment.specs.Family.{sizes}
use Rattle.segment.specs.Laws.{every}
use Rattle.segment.specs.Move.{commanded, byte_in, move}
use Rattle.segment_knowledge.specs.declared.Control.{Control}
use Rattle.segment_knowledge.specs.declared.Knowledge.{Knowledge}
use Rattle.segment_knowledge.specs.View.{held, cview, kview, Knows}
use Rattle.segment_steps.specs.declared.Step.{Step}
use Rattle.segment_steps.specs.Step.{Steps, Keeps, Forgets, kept_of, forgotten_of}
use Rattle.segment_steps.specs.StepLaws.{as_steps, kept_steps, forgotten_steps}
use Rattle.segment_steps.specs.StepWays.{step_known}
use Rattle.segment_known.specs.Everyday.{Counting, Roaming, Drifting, PerhapsLit, ring, counted_known, counted_first, counted_each, roamed_known, roamed_first, roamed_each}
use Rattle.segment_known.specs.Moved.{step_done}
use Rattle.segment_known.specs.Drift.{drifted, drifted_each, drifted_ends}
use Rattle.segment_known.specs.Writes.{writing, pointing}
use Rattle.segment_everyday.specs.Still.{Stills}

-- A command does what the byte says that it is.
module _ (p : Family) (b : ℕ) (begun r : Control) (is says : Command) (e : is ≡ command_of (sizes p) b) (f : is ≡ says) where
  pub sets_by : Keeps (sizes p) (commanded says) begun r → Steps (sizes p) (commanded (command_of (sizes p) b)) begun (kept_of r)
  sets_by h = as_steps (sizes p) (ap commanded (sym e ∙ f)) (kept_steps (sizes p) refl h)

  pub tests_by : Forgets (sizes p) (commanded says) begun r → Steps (sizes p) (commanded (command_of (sizes p) b)) begun (forgotten_of r)
  tests_by h = as_steps (sizes p) (ap commanded (sym e ∙ f)) (forgotten_steps (sizes p) refl h)

-- A byte in, as a record of the part.
pub byte_is : (part : Part) (l : List ℕ) (i b : ℕ) → InByte l i b → front part (drop i l) ≡ Ok (record_of (ByteIn b) 2)
byte_is part l i b h = byte_there part l i h.kind h.there ∙ ap (λ (v : ℕ). Ok (record_of (ByteIn v) 2)) (sym h.byte)

module _ (part : Part) (p : Family) (l : List ℕ) (first : Knowledge) where
  -- The walk stands at place i, with the knowledge k, and the cells are as many as they were.
  pub record Here (i : ℕ) (cells : List ℕ) (c : Control) : Type 0 where
    pub size : length cells ≡ 36
    pub kept : Kept same? (range (sizes p)) (move (sizes p)) (walked part l) (kview first) (rest part l i) (kview (record { cells = cells; control = c }))

  -- One record.
  pub takes : (i n : ℕ) (e : Event) (old new : List ℕ) (c r : Control) → i < length l → front part (drop i l) ≡ Ok (record_of e n) → length new ≡ 36
      → Knows (sizes p) (move (sizes p) e) (record { cells = old; control = c }) (record { cells = new; control = r }) → Here i old c → Here (i + n) new r
  takes i n e old new c r inside is size met h = record {
    size = size;
    kept = kept_read same? (range (sizes p)) (move (sizes p)) part l i (walked part l) (kview first) (kview (record { cells = old; control = c })) (kview (record { cells = new; control = r })) e n inside is met h.kept;
  }

  pub fell : (i : ℕ) (cells : List ℕ) (c r : Control) → i < length l → get_or l i 0 ≡ 2 → Keeps (sizes p) (move (sizes p) Falls) c r → Here i cells c → Here (i + 1) cells r
  fell i cells c r inside kind k h = takes i 1 Falls cells cells c r inside (falls_there part l i kind inside) h.size (k (held cells)) h

  pub rose : (i : ℕ) (cells : List ℕ) (c r : Control) → i < length l → get_or l i 0 ≡ 4 → Keeps (sizes p) (move (sizes p) Rises) c r → Here i cells c → Here (i + 1) cells r
  rose i cells c r inside kind k h = takes i 1 Rises cells cells c r inside (rises_there part l i kind inside) h.size (k (held cells)) h

  -- Behind a gap nothing is known.
  pub lost : (i : ℕ) (old new : List ℕ) (c r : Control) → i < length l → get_or l i 0 ≡ 5 → length new ≡ 36 → ((i k : ℕ) → held new i k ≡ unknown) → ((f : Fact) → cview (λ i k. unknown) r f ≡ unknown)
      → Here i old c → Here (i + 1) new r
  lost i old new c r inside kind size none n h =
      takes i 1 Gap old new c r inside (gap_there part l i kind inside) size
      (every _ none (n address) (n data_mode) (n stepping) (n mode) (n dimming) (n display) (λ k. n (led k)) (λ j. n (key j)) (n switches) (n read_count) (n position)) h

  -- A byte in.
  pub took : (i b : ℕ) (old new : List ℕ) (c : Control) (x : Step) → InByte l i b → length new ≡ 36 → Steps (sizes p) (move (sizes p) (ByteIn b)) c x → Changes 8 x.change old new
      → Here i old c → Here (i + 2) new x.control
  took i b old new c x in-byte size s d h =
      let there = in-byte.there in
      takes i 2 (ByteIn b) old new c x.control (omega (arith, there))
      (byte_is part l i b in-byte) size (step_done p (record { cells = old; control = c }) (ByteIn b) x new s d) h

  -- The strobe falls, and its first byte is a command.
  pub ordered : (i b : ℕ) (old new : List ℕ) (c begun : Control) (x : Step) → get_or l i 0 ≡ 2 → InByte l (i + 1) b → length new ≡ 36 → Keeps (sizes p) (move (sizes p) Falls) c begun
      → stands begun.position ≡ known 1 → Steps (sizes p) (commanded (command_of (sizes p) b)) begun x → Changes 8 x.change old new → Here i old c → Here (i + 3) new x.control
  ordered i b old new c begun x kind in-byte size k at s d h =
      let there = in-byte.there in
      let e : i + 1 + 2 ≡ i + 3 = omega arith in
      subst (λ (j : ℕ). Here j new x.control) e
      (took (i + 1) b old new begun x in-byte size (step_known (sizes p) position (byte_in (sizes p) b) begun 1 (λ cells. at) s) d (fell i old c begun (omega (arith, there)) kind k h))

  -- A run of bytes: what is known behind each of them.
  ran : (i n : ℕ) (old new : List ℕ) (c r : Control) (knows : ℕ → Fact → Standing) → Run l i n → length new ≡ 36 → ((f : Fact) → kview (record { cells = old; control = c }) f ≡ knows 0 f)
      → ((f : Fact) → knows n f ≡ kview (record { cells = new; control = r }) f) → ((j : ℕ) → j < n → (f : Fact) → knows (suc j) f ≡ know same? (range (sizes p)) (move (sizes p) (ByteIn (byte_of l i j))) (knows j) f)
      → Here i old c → Here (i + 2 * n) new r
  ran i n old new c r knows run size start end each h = record {
    size = size;
    kept =
        kept_same same? (range (sizes p)) (move (sizes p)) (walked part l) (kview first) (rest part l (i + 2 * n)) (knows n) (kview (record { cells = new; control = r })) end
        (kept_run same? (range (sizes p)) (move (sizes p)) part l i n (walked part l) (kview first) knows run each
        (kept_same same? (range (sizes p)) (move (sizes p)) (walked part l) (kview first) (rest part l i) (kview (record { cells = old; control = c })) (knows 0) start h.kept));
  }

  -- A run that changes nothing.
  pub passes : (i n : ℕ) (cells : List ℕ) (c : Control) → Run l i n
      → ((b : ℕ) (f : Fact) → cview (held cells) c f ≡ know same? (range (sizes p)) (move (sizes p) (ByteIn b)) (cview (held cells) c) f) → Here i cells c → Here (i + 2 * n) cells c
  passes i n cells c run deaf h = ran i n cells cells c c (λ j. cview (held cells) c) run h.size (λ f. refl) (λ f. refl) (λ j o. deaf (byte_of l i j)) h

  -- The same of a run of which each byte changes nothing.
  pub stays : (i n : ℕ) (cells : List ℕ) (c : Control) → Stills p c cells l i n → Here i cells c → Here (i + 2 * n) cells c
  stays i n cells c s h = ran i n cells cells c c (λ j. cview (held cells) c) s.run h.size (λ f. refl) (λ f. refl) (λ j o. s.each j o) h

  -- A run that is stored.
  pub stores : (i n to : ℕ) (old new : List ℕ) (c r : Control) → Counting (sizes p) c to → PutsRun 65535 to (sizes p).cells l i old n new → length new ≡ 36 → r ≡ pointing c (ring (sizes p) (to + n))
      → Here i old c → Here (i + 2 * n) new r
  stores i n to old new c r counting puts size e h =
      ran i n old new c r (counted_known p c to n (byte_of l i) (held old) counting puts.room) puts.run size
      (counted_first p c to n (byte_of l i) (held old) counting puts.room)
      (λ f. sym (ap (λ (x : Control). cview (held new) x f) e ∙ every (λ (f : Fact). cview (held new) (pointing c (ring (sizes p) (to + n))) f ≡ counted_known p c to n (byte_of l i) (held old) counting puts.room n f)
      (puts.stored 8 wide8) refl refl refl refl refl refl (λ k. refl) (λ j. refl) refl refl refl f))
      (counted_each p c to n (byte_of l i) (held old) counting puts.room) h

  -- The cells where each byte of a run may have gone to any of them.
  abbrev pub Together : ℕ → ℕ → List ℕ → List ℕ → Type 0
  Together i n old new = (j k : ℕ) → whether (among 0 1 (sizes p).cells j) (met_run 8 (byte_of l i) n k (held old j k)) (held old j k) ≡ held new j k

  -- They meet what the bytes have in common.
  pub met_together : (i n code : ℕ) (old new : List ℕ) → Shares 65535 l i n code → Met 65535 code old 0 1 (sizes p).cells new → Together i n old new
  met_together i n code old new shares met j k =
      sym (met.shows 8 wide8 (shared_none_past 8 (byte_of l i) code shares.others (shares.common 8 wide8)) j k
      ∙ ap (λ (s : Standing). whether (among 0 1 (sizes p).cells j) s (held old j k)) (shared_met_code 8 (byte_of l i) code shares.others (shares.common 8 wide8) k (held old j k) ∙ ap (λ (m : ℕ). met_run 8 (byte_of l i) m k (held old j k)) (sym shares.counted)))

  -- Or nothing is known of them, and they stay.
  pub none_together : (i n : ℕ) (cells : List ℕ) → ((j k : ℕ) → held cells j k ≡ unknown) → Together i n cells cells
  none_together i n cells none j k = either (among 0 1 (sizes p).cells j) _ _ (met_none 8 (byte_of l i) n k (held cells j k) (none j k) ∙ sym (none j k))
    where
      either : (t : Bool) (x y : Standing) → x ≡ y → whether t x y ≡ y
      either true x y e = e
      either false x y e = refl

  -- A run of which each byte may have gone to any cell.
  pub roam : (i n : ℕ) (old new : List ℕ) (c : Control) → Roaming c → Run l i n → length new ≡ 36 → Together i n old new → Here i old c → Here (i + 2 * n) new c
  roam i n old new c roaming run size cells h =
      ran i n old new c c (roamed_known p c (byte_of l i) (held old) roaming) run size (roamed_first p c (byte_of l i) (held old) roaming)
      (every (λ (f : Fact). roamed_known p c (byte_of l i) (held old) roaming n f ≡ kview (record { cells = new; control = c }) f) cells refl refl refl refl refl refl (λ k. refl) (λ j. refl) refl refl refl)
      (λ j o. roamed_each p c (byte_of l i) (held old) roaming j) h

  -- A run of which each byte may have gone to any cell, or to the LED, or nowhere.
  pub drift_on : (i n code low : ℕ) (old new : List ℕ) (c r : Control) → Drifting c unknown → Shares 65535 l i n code → ((k : ℕ) → shown 4 low k ≡ whether (ltb k 4) (shown 8 code k) unknown) → PerhapsLit low c r
      → length new ≡ 36 → Together i n old new → Here i old c → Here (i + 2 * n) new r
  drift_on i n code low old new c r d shares cut lit size cells h =
      ran i n old new c r (drifted (sizes p) (byte_of l i) (kview start)) shares.run size (λ f. refl)
      (λ f. ends f ∙ sym (ap (λ (x : Control). cview (held new) x f) lit.others))
      (λ j o. drifted_each p (byte_of l i) (kview start) (record { opened = d.opened; writing = d.writing; pointed = d.address }) j) h
    where
      start : Knowledge
      start = record { cells = old; control = c }

      common : (k : ℕ) → shown 4 low k ≡ shared_by 4 (byte_of l i) shares.others k
      common = shared_cut 8 (byte_of l i) 4 (omega arith) code low shares.others (shares.common 8 wide8) cut

      light : (k : ℕ) → met_run 4 (byte_of l i) n k (shown 4 c.led k) ≡ shown 4 r.led k
      light k =
          sym (lit.lit 4 wide4 (shared_none_past 4 (byte_of l i) low shares.others common) k
          ∙ shared_met_code 4 (byte_of l i) low shares.others common k (shown 4 c.led k) ∙ ap (λ (m : ℕ). met_run 4 (byte_of l i) m k (shown 4 c.led k)) (sym shares.counted))

      ends : (f : Fact) → drifted (sizes p) (byte_of l i) (kview start) n f ≡ cview (held new) (writing c c.address r.led) f
      ends =
          let e = drifted_ends (sizes p) (byte_of l i) (kview start) n in
          every (λ (f : Fact). drifted (sizes p) (byte_of l i) (kview start) n f ≡ cview (held new) (writing c c.address r.led) f)
          (λ j k. e (cell j k) ∙ cells j k) (e address) (e data_mode) (e stepping) (e mode) (e dimming) (e display) (λ k. e (led k) ∙ light k) (λ j. e (key j)) (e switches) (e read_count) (e position)

-- What the records of every day owe together: wherever a walk stands at place i with what is known there, it stands at place j with what is known then.
pub record GoesOn (p : Family) (l : List ℕ) (i : ℕ) (old : List ℕ) (c : Control) (j : ℕ) (new : List ℕ) (r : Control) : Type 0 where
  pub behind : i ≤ j
  pub inside : j ≤ length l
  pub size : length new ≡ 36
  pub stands : (part : Part) (first : Knowledge) → Here part p l first i old c → Here part p l first j new r

-- From there it goes on to a further place.
pub goes_on : {p : Family} {l : List ℕ} {i : ℕ} {old : List ℕ} {c : Control} {j : ℕ} {new : List ℕ} {r : Control} {k : ℕ} {last : List ℕ} {s : Control} → GoesOn p l i old c j new r → j ≤ k → k ≤ length l → length last ≡ 36
    → ((part : Part) (first : Knowledge) → Here part p l first j new r → Here part p l first k last s) → GoesOn p l i old c k last s
goes_on {p} {l} {i} {old} {c} {j} {new} {r} {k} {last} {s} g further inside size on = record { behind = omega (arith, g.behind); inside = inside; size = size; stands = λ part first h. on part first (g.stands part first h) }

-- Said of the cells and the control in other words.
pub goes_as : {p : Family} {l : List ℕ} {i : ℕ} {old : List ℕ} {c : Control} {j : ℕ} {new last : List ℕ} {r s : Control} → last ≡ new → s ≡ r → GoesOn p l i old c j new r → GoesOn p l i old c j last s
goes_as {p} {l} {i} {old} {c} {j} {new} {last} {r} {s} e f g = subst⁻¹ (λ (x : List ℕ). GoesOn p l i old c j x s) e (subst⁻¹ (λ (x : Control). GoesOn p l i old c j new x) f g)
