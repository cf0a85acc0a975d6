-- Runs of bytes to one RAM, over any of the three, that are put in its cells one behind the other.
-- Here m is what is known of the memory before the run and c what is known beside it; b j is byte j of the run. The argument: each byte makes its step of
-- what the bytes before it have left, and the step says what is known behind it.
use Rattle.std.specs.Prelude.{ℕ, suc, ◌+◌, ◌<◌, ◌≤◌, ◌≡◌, refl}
use Rattle.std.proofs.Common.{arith, sym, ap, ◌∙◌}
use Rattle.std.proofs.Math.Path.{subst⁻¹}
use Rattle.knowing.specs.Standing.{Standing, known}
use Rattle.knowing.specs.Know.{know}
use Rattle.changes.specs.declared.Change.{Change}
use Rattle.changes.specs.Change.{seen, stored_run}
use Rattle.terms.specs.declared.Event.TheVariants.{ByteIn}
use Rattle.character.specs.Fact.{Fact, same?, range}
use Rattle.character.specs.Laws.{every}
use Rattle.character.specs.Move.{move}
use Rattle.character_knowledge.specs.declared.Control.{Control}
use Rattle.character_knowledge.specs.View.{Memory, cview}
use Rattle.character_steps.specs.Step.{sview, Steps}
use Rattle.character_known.specs.Ram.{Ram, text, columns, pairs, cells, bits, aimed, Aims, changed_in, put_in, of_ram, with_ram}
use Rattle.character_known.specs.Aimed.{aims_at, aims_step}

-- What is known goes by what is known of each cell of the RAM.
pub in_ram : (ram : Ram) (m : Memory) (u v : ℕ → ℕ → Standing) (c : Control) → ((i k : ℕ) → u i k ≡ v i k) → (f : Fact) → cview (with_ram ram u m) c f ≡ cview (with_ram ram v m) c f
in_ram text m u v c h = every _ h (λ i k. refl) (λ i k. refl) refl refl refl refl (λ k. refl) refl refl refl refl
in_ram columns m u v c h = every _ (λ i k. refl) h (λ i k. refl) refl refl refl refl (λ k. refl) refl refl refl refl
in_ram pairs m u v c h = every _ (λ i k. refl) (λ i k. refl) h refl refl refl refl (λ k. refl) refl refl refl refl

-- What a step that changes one RAM leaves.
step_ram : (ram : Ram) (m : Memory) (v : ℕ → ℕ → Standing) (c : Control) (x : Change) (f : Fact)
    → cview (with_ram ram (λ i k. seen (bits ram) x i k (v i k)) m) c f ≡ sview (with_ram ram v m) (changed_in ram c x) f
step_ram text m v c x f = refl
step_ram columns m v c x f = refl
step_ram pairs m v c x f = refl

-- The address is set anew.
aims_on : (ram : Ram) (c : Control) (n b : ℕ) → Aims ram (aimed ram c n) n → Steps (move (ByteIn b)) (aimed ram c n) (changed_in ram (aimed ram c (suc n)) (put_in n b))
aims_on text c n b h = aims_step b text h
aims_on columns c n b h = aims_step b columns h
aims_on pairs c n b h = aims_step b pairs h

module _ (ram : Ram) (m : Memory) (c : Control) (b : ℕ → ℕ) where
  -- One byte more of a run that has left the RAM as v has it.
  more : (v : ℕ → ℕ → ℕ → Standing) (j : ℕ) (d e : Control) (x : Change) → ((i k : ℕ) → v (suc j) i k ≡ seen (bits ram) x i k (v j i k)) → Steps (move (ByteIn (b j))) d (changed_in ram e x)
      → (f : Fact) → cview (with_ram ram (v (suc j)) m) e f ≡ know same? range (move (ByteIn (b j))) (cview (with_ram ram (v j) m) d) f
  more v j d e x h s f = in_ram ram m (v (suc j)) (λ i k. seen (bits ram) x i k (v j i k)) e h f ∙ step_ram ram m (v j) e x f ∙ s.knows (with_ram ram (v j) m) f

  -- The bytes are put one behind the other, from `first` on.
  module _ (first : ℕ) where
    abbrev stored_ram : ℕ → ℕ → ℕ → Standing
    stored_ram j = stored_run (bits ram) first b j (of_ram ram m)

    abbrev pub stored : ℕ → Fact → Standing
    stored j = cview (with_ram ram (stored_ram j) m) (aimed ram c (first + j))

    pub stored_more : (n : ℕ) → Aims ram c first → first + n ≤ cells ram → (j : ℕ) → j < n → (f : Fact) → stored (suc j) f ≡ know same? range (move (ByteIn (b j))) (stored j) f
    stored_more n h room j l f =
        let e : first + suc j ≡ suc (first + j) = omega arith in
        subst⁻¹ (λ (x : ℕ). cview (with_ram ram (stored_ram (suc j)) m) (aimed ram c x) f ≡ know same? range (move (ByteIn (b j))) (stored j) f) e
        (more stored_ram j (aimed ram c (first + j)) (aimed ram c (suc (first + j))) (put_in (first + j) (b j)) (λ i k. refl)
        (aims_on ram c (first + j) (b j) (aims_at ram c (first + j) h.here (omega arith))) f)

-- Where the run starts, nothing has changed.
pub stored_none : (ram : Ram) (m : Memory) (c : Control) (b : ℕ → ℕ) (first : ℕ) → Aims ram c first → (f : Fact) → stored ram m c b first 0 f ≡ cview m c f
stored_none text m c b first h =
    let i = h.inside in
    every _ (λ i k. refl) (λ i k. refl) (λ i k. refl) (ap known (omega arith) ∙ sym h.there) refl refl refl (λ k. refl) refl refl refl refl
stored_none columns m c b first h =
    let i = h.inside in
    every _ (λ i k. refl) (λ i k. refl) (λ i k. refl) refl (ap known (omega arith) ∙ sym h.there.0) refl (ap known (omega arith) ∙ sym h.there.1) (λ k. refl) refl refl refl refl
stored_none pairs m c b first h =
    let i = h.inside in
    every _ (λ i k. refl) (λ i k. refl) (λ i k. refl) refl refl (ap known (omega arith) ∙ sym h.there) refl (λ k. refl) refl refl refl refl
