-- Demand 3 over events in turn, whatever brought them: one recording, or packets. The argument: what holds of events in
-- turn is shown in `whole` over any facts.
use Rattle.std.specs.Prelude.{ℕ, ◌≡◌, false, List, map}
use Rattle.std.proofs.Common.{sym, ◌∙◌, subst}
use Rattle.std.proofs.Math.Path.{fun_ext, subst⁻¹}
use Rattle.rules.specs.Range.{Good}
use Rattle.rules.specs.Turn.{Ends}
use Rattle.knowing.specs.Standing.{Standing, known, Agrees, Fits, Within, Sound}
use Rattle.terms.specs.declared.Event.{Event}
use Rattle.terms.specs.Event.{Bytes}
use Rattle.terms.specs.declared.Part.{Part}
use Rattle.walks.specs.Turn.{InTurn}
use Rattle.parts.specs.Facts.{Fact, same?, range, move}
use Rattle.parts.specs.Laws.{two, ranged}
use Rattle.panel.specs.declared.Panel.{Panel}
use Rattle.panel.specs.View.{known_of}
use Rattle.whole.specs.Usual.{Each}
use Rattle.whole.specs.Turns.{Chain, KnowsAtLeast}
use Rattle.whole.specs.Sentence.{position, StartKnows, has_gap, DefinedOn, NoUndefined, starts_first, IsMemory, AllEnd}
use Rattle.whole.specs.Whole.{turn_chain, chain_one, ends_fit, turn_more, turn_sound}
use Rattle.whole.proofs.Parts.{facts_exact}

module _ (p : Part) (es : List Event) (k r : Panel) (turned : InTurn (known_of p) (same? p) (range p) (move p) es k r)
    (carry : Each Bytes es) (sound : Sound (range p) (known_of p k)) where
  -- A chain of knowledges, one behind each event, each exact from the one before, and no such chain ends in another.
  pub turned_chain : Chain (range p) (map (move p) es) (known_of p k) (known_of p r)
  turned_chain =
      subst (Chain (range p) (map (move p) es) (known_of p k)) (sym (fun_ext turned))
      (turn_chain (same? p) (range p) (two p) (move p) Bytes (ranged p) es (known_of p k) carry sound)

  pub turned_one_end : (q : Fact p → Standing) → Chain (range p) (map (move p) es) (known_of p k) q → (f : Fact p) → q f ≡ known_of p r f
  turned_one_end q h = chain_one (range p) (map (move p) es) (known_of p k) q (known_of p r) h turned_chain

  pub turned_fits : (c x : Fact p → ℕ) → Good (range p) c → Fits (known_of p k) c → Ends (range p) (map (move p) es) c x → Fits (known_of p r) x
  turned_fits c x good fits ends f =
      subst⁻¹ (λ (t : Standing). Agrees t (x f)) (turned f)
      (ends_fit (same? p) (range p) (two p) (move p) Bytes (ranged p) es (known_of p k) carry sound c x good fits ends f)

  pub turned_in_range : Sound (range p) (known_of p r)
  turned_in_range f =
      subst⁻¹ (λ (t : Standing). Within (range p f) t) (turned f)
      (turn_sound (same? p) (range p) (two p) (move p) Bytes (ranged p) es (known_of p k) carry sound f)

  pub turned_more : (more q : Panel) → InTurn (known_of p) (same? p) (range p) (move p) es more q → Sound (range p) (known_of p more)
      → KnowsAtLeast (known_of p k) (known_of p more) → KnowsAtLeast (known_of p r) (known_of p q)
  turned_more more q again in_range h f v e =
      again f
      ∙ turn_more (same? p) (range p) (two p) (move p) Bytes (ranged p) es (known_of p k) (known_of p more) carry sound in_range h f v (sym (turned f) ∙ e)

  pub turned_cells_exact : StartKnows p (known_of p k) → has_gap es ≡ false → NoUndefined (DefinedOn p) (starts_first p (known_of p k (position p))) es
      → (f : Fact p) → IsMemory p f → (v : ℕ)
      → (known_of p r f ≡ known v → AllEnd (range p) (map (move p) es) (known_of p k) f v)
      × (AllEnd (range p) (map (move p) es) (known_of p k) f v → known_of p r f ≡ known v)
  turned_cells_exact knows gapless defined f _ v =
      let x = facts_exact p es (known_of p k) carry sound knows gapless defined f v in
      (λ e. x.0 (sym (turned f) ∙ e), λ all. turned f ∙ x.1 all)
