-- A run of bytes of unknown place. The argument: behind each byte what is known beside the memory is told by the law of such runs, and the cells meet at the end what the bytes have in
-- common, as each meets the bytes one after the other.
use Rattle.std.specs.Prelude.{ℕ, zero, suc, ◌+◌, ◌*◌, ◌-◌, ◌<◌, ◌≤◌, ◌≡◌, refl, List, length, get_or, ltb}
use Rattle.std.proofs.Common.{add-one, arith, sym, ap, ap₂, ◌∙◌, subst}
use Rattle.rules.specs.Choice.{whether}
use Rattle.knowing.specs.Standing.{Standing, unknown}
use Rattle.knowing.specs.Know.{join}
use Rattle.knowing.specs.Join.{join_itself}
use Rattle.lamps.specs.View.{shown, told, Wide, OfByte}
use Rattle.lamps.specs.Lamp.{wide8, wide7, wide2}
use Rattle.changes.specs.Change.{shared_by, Met}
use Rattle.changes.specs.Run.{shared_cut}
use Rattle.terms.specs.declared.Part.{Part}
use Rattle.recording.specs.Walk.{Walk}
use Rattle.character.specs.Command.{command_of}
use Rattle.character.specs.Fact.{Fact}
use Rattle.character.specs.Laws.{every}
use Rattle.character_knowledge.specs.declared.Control.{Control}
use Rattle.character_knowledge.specs.declared.Knowledge.{Knowledge}
use Rattle.character_knowledge.specs.View.{cview, memory, kview}
use Rattle.character_known.specs.Ram.{Ram, text, columns, pairs, Roams, Adrift}
use Rattle.character_known.specs.Weakened.{Weakens}
use Rattle.character_known.specs.Drift.{in_text, in_columns, in_pairs, after, drifted, Drifted, still_adrift, drift_none, drift_more, roam_all}
use Rattle.byte_runs.specs.Sharing.{Shares}
use Rattle.walks.specs.Run.{Run, byte_of, run_none, run_more}
use Rattle.character_walks.specs.Reached.{Sized, knowledge, Reached}
use Rattle.character_walks.specs.declared.drift.Gathered.{Gathered}
use Rattle.character_walks.specs.Runs.{met_all, leads}

-- What the first byte has in common with itself and with each of n bytes from it on.
abbrev gathered : ℕ → (ℕ → ℕ) → ℕ → ℕ → Standing
gathered w b zero k = told w (b 0) k unknown
gathered w b (suc n) k = join (gathered w b n k) (told w (b n) k unknown)

-- The first one need not be counted twice.
gathered_shared : (w : ℕ) (b : ℕ → ℕ) (n k : ℕ) → gathered w b (suc n) k ≡ shared_by w b n k
gathered_shared w b zero k = join_itself (told w (b 0) k unknown)
gathered_shared w b (suc n) k = ap (λ (s : Standing). join s (told w (b (suc n)) k unknown)) (gathered_shared w b n k)

-- n bytes from a place on leave r of c, and the code is what they have in common with the first.
pub record Drifts (l : List ℕ) (i : ℕ) (c : Control) (n code : ℕ) (r : Control) : Type 0 where
  pub run : Run l i n
  pub adrift : Adrift r
  pub leaves : Drifted 16 40 16 (byte_of l i) n c r
  pub common : (w : ℕ) → Wide w 65535 → (k : ℕ) → shown w code k ≡ gathered w (byte_of l i) n k

module _ (l : List ℕ) (i : ℕ) (c : Control) where
  pub drifts_none : (code : ℕ) → i ≤ length l → Adrift c → ((w : ℕ) → Wide w 65535 → OfByte w (get_or l (i + 1) 0) code) → Drifts l i c 0 code c
  drifts_none code h a o =
      let e : i + 1 ≡ i + 2 * 0 + 1 = omega arith in
      record { run = run_none l i h; adrift = a; leaves = drift_none 16 40 16 (byte_of l i) c; common = λ w W k. rw e at (o w W k) }

  pub drifts_more : (n code one both : ℕ) (d r : Control) → Drifts l i c n code d → i + 2 * n + 1 < length l → get_or l (i + 2 * n) 0 ≡ 3 → Weakens (command_of (byte_of l i n)) d r
      → ((w : ℕ) → Wide w 65535 → OfByte w (byte_of l i n) one) → ((w k : ℕ) → shown w both k ≡ join (shown w code k) (shown w one k)) → Drifts l i c (n + 1) both r
  drifts_more n code one both d r h there kind weak o joins = record {
    run = run_more l i n h.run there kind;
    adrift = still_adrift (byte_of l i n) d r h.adrift weak;
    leaves = subst (λ (x : ℕ). Drifted 16 40 16 (byte_of l i) x c r) (sym (add-one n)) (drift_more (byte_of l i) n c d r h.adrift weak h.leaves);
    common = λ w W k. rw add-one (joins w k ∙ ap₂ join (h.common w W k) (o w W k));
  }

-- What is gathered of a run: r tells what n bytes leave of c, what they have in common where there are any, and how many cells of each RAM meet that.
pub record Gathers (l : List ℕ) (i : ℕ) (c : Control) (r : Gathered) : Type 0 where
  pub text : r.dcram ≤ 16
  pub columns : r.cgram ≤ 40
  pub pairs : r.adram ≤ 16
  pub leaves : Drifted r.dcram r.cgram r.adram (byte_of l i) r.count c r.control
  pub shares : 0 < r.count → Shares 65535 l i r.count r.code

module _ {l : List ℕ} {i : ℕ} {c : Control} where
  pub gathers_none : Gathers l i c (record { control = c; count = 0; code = 0; dcram = 0; cgram = 0; adram = 0 })
  gathers_none = record { text = omega arith; columns = omega arith; pairs = omega arith; leaves = drift_none 0 0 0 (byte_of l i) c; shares = λ h. absurd (omega arith) }

  pub gathers_drift : {n code : ℕ} {d : Control} → Drifts l i c n code d → Gathers l i c (record { control = d; count = n; code = code; dcram = 16; cgram = 40; adram = 16 })
  gathers_drift {n} h = record {
    text = omega arith;
    columns = omega arith;
    pairs = omega arith;
    leaves = h.leaves;
    shares = λ o.
        let e : n ≡ suc (n - 1) = omega arith in
        record { others = n - 1; counted = e; run = h.run; common = λ w W k. h.common w W k ∙ ap (λ (m : ℕ). gathered w (byte_of l i) m k) e ∙ gathered_shared w (byte_of l i) (n - 1) k };
  }

  pub gathers_roaming : {n code : ℕ} (ram : Ram) → Roams ram c → Shares 65535 l i n code
      → Gathers l i c (record { control = c; count = n; code = code; dcram = in_text ram; cgram = in_columns ram; adram = in_pairs ram })
  gathers_roaming {n} ram h s = record { text = in_text_lem ram; columns = in_columns_lem ram; pairs = in_pairs_lem ram; leaves = roam_all ram (byte_of l i) c h n; shares = λ o. s }
    where
      in_text_lem : (ram : Ram) → in_text ram ≤ 16
      in_text_lem text = omega arith
      in_text_lem columns = omega arith
      in_text_lem pairs = omega arith

      in_columns_lem : (ram : Ram) → in_columns ram ≤ 40
      in_columns_lem text = omega arith
      in_columns_lem columns = omega arith
      in_columns_lem pairs = omega arith

      in_pairs_lem : (ram : Ram) → in_pairs ram ≤ 16
      in_pairs_lem text = omega arith
      in_pairs_lem columns = omega arith
      in_pairs_lem pairs = omega arith

-- Of the bits of a width they have the same in common.
shares_cut : {wide small code i n : ℕ} {l : List ℕ} → Shares 65535 l i n code → ((w : ℕ) → Wide w wide → (k : ℕ) → shown w small k ≡ whether (ltb k w) (shown 8 code k) unknown) → Shares wide l i n small
shares_cut {wide} {small} {code} {i} {n} {l} s cuts = record {
  others = s.others;
  counted = s.counted;
  run = s.run;
  common = λ w W. shared_cut 8 (byte_of l i) w W.byte code small s.others (s.common 8 wide8) (cuts w W);
}

-- The memory meets them once.
pub strayed_on : {p : Part} {l : List ℕ} {w : Walk} {first : Fact → Standing} {i : ℕ} {k : Knowledge} (r : Gathered) (seven two : ℕ) (d g a : List ℕ) → Reached p l w first i k → Gathers l i k.control r
    → 0 < r.count → Met 65535 r.code k.dcram 0 1 r.dcram d
    → ((w : ℕ) → Wide w 32639 → (k : ℕ) → shown w seven k ≡ whether (ltb k w) (shown 8 r.code k) unknown) → Met 32639 seven k.cgram 0 1 r.cgram g
    → ((w : ℕ) → Wide w 771 → (k : ℕ) → shown w two k ≡ whether (ltb k w) (shown 8 r.code k) unknown) → Met 771 two k.adram 0 1 r.adram a
    → Sized (knowledge d g a r.control) → Reached p l w first (i + 2 * r.count) (knowledge d g a r.control)
strayed_on {l = l} {i = i} {k = k} r seven two d g a here h some met8 cut7 met7 cut2 met2 =
    let s = h.shares some in
    leads r.count here s.run (λ j. after (byte_of l i) j (kview k)) (knowledge d g a r.control) (λ f. refl) (λ j o f. refl)
    (λ f. sym (h.leaves (memory k) f)
    ∙ every (λ (f : Fact). cview (drifted r.dcram r.cgram r.adram (memory k) (byte_of l i) r.count) r.control f ≡ kview (knowledge d g a r.control) f)
    (λ x y. sym (met_all 8 65535 r.dcram r.code l i r.count k.dcram d wide8 s met8 x y))
    (λ x y. sym (met_all 7 32639 r.cgram seven l i r.count k.cgram g wide7 (shares_cut s cut7) met7 x y))
    (λ x y. sym (met_all 2 771 r.adram two l i r.count k.adram a wide2 (shares_cut s cut2) met2 x y))
    refl refl refl refl (λ k. refl) refl refl refl refl f)
