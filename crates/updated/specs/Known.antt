-- What is known after an update. The argument: the data setting is known where something differs, since it was known or 40H sets it; each strobe begins with
-- a fall, so that its first byte is known to be a command, and that command is an address; so each byte behind it looks at what is known. Thus the knowledge
-- goes as every chip goes that fits it, and every such chip ends updated.
use Rattle.std.specs.Prelude.{ℕ, suc, ◌+◌, ◌<◌, ◌≡◌, refl, Bool, true, false, not, ◌&&◌, ltb}
use Rattle.std.proofs.Common.{ap, ◌∙◌, true≢false}
use Rattle.std.proofs.Math.Path.{subst⁻¹}
use mathlib.Core.List.{List, [], ◌∷◌, ◌++◌, map, Memᴰ}
use Rattle.rules.specs.Choice.{whether, both}
use Rattle.knowing.specs.Standing.{Standing, known}
use Rattle.knowing.specs.Holds.{is_known_lem}
use Rattle.knowing.specs.Fill.{fill, filled, agrees}
use Rattle.knowing.specs.Turn.{in_turn}
use Rattle.terms.specs.declared.Event.{Event}
use Rattle.terms.specs.Event.{strobe}
use Rattle.segment.specs.declared.Family.{Family}
use Rattle.segment.specs.declared.Sizes.{Sizes}
use Rattle.segment.specs.declared.Position.TheVariants.{Open}
use Rattle.segment.specs.Family.{sizes}
use Rattle.segment.specs.Fact.{Fact, same?, range, address, data_mode, stepping}
use Rattle.segment.specs.Move.{sets, then, setting, commanded, move}
use Rattle.segment.specs.Laws.{every}
use Rattle.painting.specs.SegmentLeads.{Paintable, paintable}
use Rattle.repainted.specs.Follows.{set_settles, filled_where, filled_bits, known_at_end, one_end, Follows, ends}
use Rattle.repainted.specs.Strobe.{From, no_more, single, row}
use Rattle.repainted.specs.Segment.{Set, Writing, bus, then_settles, setting_settles, cell_byte}
use Rattle.runs.specs.Runs.{wanted, run, strobes_of}
use Rattle.runs.specs.Right.{start_inside}
use Rattle.updating.specs.Update.{differs, starts, is_set, sends40, update_events}
use Rattle.updating.specs.Updated.{nothing, last_address, run_address, updated, known_after}
use Rattle.updated.specs.Leads.{nothing_sent, update_leads}

module _ (s : Sizes) (ok : Paintable s) (d : ℕ → Bool) (w : ℕ → ℕ) where
  -- Runs, where the data setting is known, which they leave known.
  runs_follow : (is : List ℕ) → ((i : ℕ) → Memᴰ i is → i < s.cells) → From (bus s) Set (strobes_of s.cells d w is)
  runs_follow [] h = no_more (bus s)
  runs_follow (i ∷ is) h =
      row (bus s) Set Writing (0xC0 + i) (map w (run s.cells d i)) (sets address (suc i) (then Open))
      (ap commanded (ok.start_read i (h i (Memᴰ.head refl))))
      (set_settles same? address (suc i) (then Open) (then_settles Open)) (λ k g. (refl, g.0, g.1, (_, refl))) (cell_byte s) (λ k g. (g.1, g.2))
      (runs_follow is (λ j m. h j (Memᴰ.tail m)))

-- The 40H strobe, and what follows it: the data setting is known already, or 40H sets it.
setting_follows : (s : Sizes) {es : List Event} (k : Fact → Standing) (a b : Bool) → (a ≡ true → Set k) → b ≡ false → From (bus s) Set es
    → Follows same? (range s) (map (move s) (whether (not a && not b) (strobe (0x40 ∷ [])) [] ++ es)) k
setting_follows s k true b h e rest = rest.from k (h refl)
setting_follows s k false false h e rest =
    (single (bus s) {P = λ _. Unit} Set 0x40 (sets data_mode 0 (setting 0)) refl (setting_settles 0) (λ l _. (refl, refl)) rest).from k tt
setting_follows s k false true h e rest = absurd (true≢false e)

module _ (s : Sizes) (k : Fact → Standing) (w : List ℕ) where
  update_follows : Paintable s → (b : Bool) → nothing s k w ≡ b → Follows same? (range s) (map (move s) (update_events s k w)) k
  update_follows ok true e = subst⁻¹ (λ (es : List Event). Follows same? (range s) (map (move s) es) k) (nothing_sent s k w e) ends
  update_follows ok false e =
      setting_follows s k (is_set k) (nothing s k w) (λ t. let (a, b) = both _ _ t in (is_known_lem (k data_mode) 0 a, is_known_lem (k stepping) 0 b)) e
      (runs_follow s ok (differs s k w) (wanted w) (starts s k w) (λ i m. (start_inside s.cells (differs s k w) i m).0))

  last_filled : (d : ℕ) (is : List ℕ) (t : Standing) → last_address s k w (λ a. a) is (fill d t) ≡ fill d (last_address s k w known is t)
  last_filled d [] t = refl
  last_filled d (i ∷ is) t = last_filled d is (known (run_address s k w i))

  -- A chip that has d wherever nothing is known is updated as the knowledge is.
  updated_filled : (d : ℕ) (f : Fact) → updated s k w (filled d k) f ≡ fill d (known_after s k w f)
  updated_filled d =
      every _ (λ i j. filled_bits d (ltb i s.cells) (ltb j 8) _ _) (last_filled d (starts s k w) (k address))
      (filled_where d (sends40 s k w) _ _) (filled_where d (sends40 s k w) _ _)
      refl refl refl (λ j. refl) (λ i. refl) refl (filled_where d (sends40 s k w) _ _) (filled_where d (nothing s k w) _ _)

-- All that is known after the update.
pub update_knows : (q : Family) (k : Fact → Standing) (w : List ℕ) (f : Fact)
    → in_turn same? (range (sizes q)) (map (move (sizes q)) (update_events (sizes q) k w)) k f ≡ known_after (sizes q) k w f
update_knows q k w =
    let s = sizes q in
    let rules = map (move s) (update_events s k w) in
    known_at_end same? (range s) rules k (known_after s k w) (update_follows s k w (paintable q) (nothing s k w) refl)
    (λ d x h f. one_end same? (range s) rules (filled d k) x (updated s k w (filled d k)) h (update_leads q k w (filled d k) (λ g. agrees d (k g))) f
    ∙ updated_filled s k w d f)
