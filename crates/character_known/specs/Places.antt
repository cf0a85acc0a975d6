-- What a byte that goes to a RAM makes of a knowledge, place by place: it is put in a cell that is known, whatever the number that the address has, and it meets
-- the columns that it may have gone to.
use Rattle.std.specs.Prelude.{ℕ, ◌+◌, ◌*◌, ◌%◌, ◌≡◌}
use native.Mathlib.Omega.{arith}
use Rattle.std.proofs.Math.Decide.{ℕ_discrete}
use Rattle.std.proofs.Math.Path.{refl, sym, subst⁻¹}
use Rattle.std.proofs.Common.{ap, ap₂, ◌∙◌, eq-eqb, ne_eqb}
use Rattle.rules.specs.Rule.{Rule, look}
use Rattle.rules.specs.Change.{set_bits}
use Rattle.knowing.specs.Standing.{known, unknown}
use Rattle.fact.specs.View.{stands}
use Rattle.fact.specs.declared.Single.{Single}
use Rattle.fact.specs.declared.Single.TheVariants.{Known, Unknown}
use Rattle.terms.specs.declared.Address.{Address}
use Rattle.changes.specs.declared.Change.{Change}
use Rattle.changes.specs.declared.Change.TheVariants.{Meet}
use Rattle.changes.specs.Laws.{put_told}
use Rattle.character.specs.Fact.{Fact, same?, dcram, cgram, adram, cgram_at, column}
use Rattle.character.specs.Laws.{every, dcram_apart, cgram_apart, adram_apart}
use Rattle.character.specs.Move.{shown, marked, drawn}
use Rattle.character_knowledge.specs.declared.Control.{Control}
use Rattle.character_knowledge.specs.View.{cview, points}
use Rattle.character_steps.specs.declared.Step.{Step}
use Rattle.character_steps.specs.Step.{Steps}
use Rattle.character_known.specs.Columns.{column_open, character_open}
use Rattle.character_known.specs.Ram.{Ram, text, columns, pairs, aimed, changed_in, put_in}

-- The same with another place in CGRAM.
abbrev pub placed : Control → Single Address → Single ℕ → Control
placed c at col = record {
  dcram_at = c.dcram_at;
  cgram_at = at;
  adram_at = c.adram_at;
  column = col;
  port = c.port;
  duty = c.duty;
  digits = c.digits;
  lights = c.lights;
  position = c.position;
}

-- A step said of what is another, in name.
pub as_changed : {rule : Rule Fact Fact} {c d e : Control} {x y : Change} (ram : Ram) → e ≡ d → y ≡ x → Steps rule c (changed_in ram d x) → Steps rule c (changed_in ram e y)
as_changed {rule} {c} ram p q h = subst⁻¹ (λ (r : Step). Steps rule c r) (ap₂ (changed_in ram) p q) h

module _ (b : ℕ) (c : Control) where
  pub shown_at : (a : ℕ) → Steps (shown b a) c (changed_in text (aimed text c (a % 16 + 1)) (put_in (a % 16) b))
  unfolding set_bits
  shown_at a = record {
    knows = λ m. every _ (λ i k. put_told same? dcram dcram_apart (cview m c) 8 (a % 16) b i k) (λ i k. refl) (λ i k. refl) refl refl refl refl (λ k. refl) refl refl refl refl;
    inside = (omega arith, (tt, tt));
  }

  pub marked_at : (a : ℕ) → Steps (marked b a) c (changed_in pairs (aimed pairs c (a % 16 + 1)) (put_in (a % 16) b))
  unfolding set_bits
  marked_at a = record {
    knows = λ m. every _ (λ i k. refl) (λ i k. refl) (λ i k. put_told same? adram adram_apart (cview m c) 2 (a % 16) b i k) refl refl refl refl (λ k. refl) refl refl refl refl;
    inside = (tt, (tt, omega arith));
  }

  -- Both the character and the column are known: behind the last column comes the next character, and before that the address stays.
  pub drawn_at : (a n to : ℕ) → points c.cgram_at ≡ known a → (n % 5 ≡ 4 → to ≡ (a % 8 + 1) % 8) → (¬ (n % 5 ≡ 4) → to ≡ a)
      → Steps (drawn b a n) c (changed_in columns (placed c (Known (record { 0 = to })) (Known ((n % 5 + 1) % 5))) (put_in (a % 8 * 5 + n % 5) b))
  unfolding set_bits
  drawn_at a n to p f g = go (ℕ_discrete (n % 5) 4)
    where
      go : Dec (n % 5 ≡ 4) → Steps (drawn b a n) c (changed_in columns (placed c (Known (record { 0 = to })) (Known ((n % 5 + 1) % 5))) (put_in (a % 8 * 5 + n % 5) b))
      go (yes q) = record {
        knows = λ m. simp (eq-eqb (n % 5) 4 q)
            (every _ (λ i k. refl) (λ i k. put_told same? cgram cgram_apart (cview m c) 7 (a % 8 * 5 + n % 5) b i k) (λ i k. refl) refl (ap known (f q)) refl (ap known (omega arith)) (λ k. refl) refl refl refl refl);
        inside = (tt, (omega arith, tt));
      }
      go (no q) = record {
        knows = λ m. simp (ne_eqb (n % 5) 4 q)
            (every _ (λ i k. refl) (λ i k. put_told same? cgram cgram_apart (cview m c) 7 (a % 8 * 5 + n % 5) b i k) (λ i k. refl) refl (ap known (g q) ∙ sym p) refl (ap known (omega arith)) (λ k. refl) refl refl refl refl);
        inside = (tt, (omega arith, tt));
      }

  -- The character is known, and the column is not.
  pub column_step : (a : ℕ) (col : Single ℕ) → points c.cgram_at ≡ known a → stands c.column ≡ unknown → stands col ≡ unknown
      → Steps (look column (drawn b a)) c (changed_in columns (placed c Unknown col) (Meet (record { 0 = a % 8 * 5 }) 1 5 b))
  column_step a col p u v = record {
    knows = λ m. column_open (cview m c) _ b
        (every _ (λ i k n. refl) (λ i k n. absurd (n refl)) (λ i k n. refl) (λ n. refl) (λ n. absurd (n refl)) (λ n. refl) (λ n. absurd (n refl)) (λ k n. refl) (λ n. refl) (λ n. refl) (λ n. refl) (λ n. refl))
        a p u (λ i k. refl) refl v;
    inside = (tt, ((omega arith, λ j h. omega arith), tt));
  }

  -- The column is known, and the character is not.
  pub character_step : (n : ℕ) → points c.cgram_at ≡ unknown → stands c.column ≡ known n
      → Steps (look cgram_at (λ a. look column (drawn b a))) c (changed_in columns (placed c Unknown (Known ((n % 5 + 1) % 5))) (Meet (record { 0 = n % 5 }) 5 8 b))
  character_step n u p = record {
    knows = λ m. character_open (cview m c) _ b
        (every _ (λ i k n. refl) (λ i k n. absurd (n refl)) (λ i k n. refl) (λ n. refl) (λ n. absurd (n refl)) (λ n. refl) (λ n. absurd (n refl)) (λ k n. refl) (λ n. refl) (λ n. refl) (λ n. refl) (λ n. refl))
        n u p (λ i k. refl) refl refl;
    inside = (tt, ((omega arith, λ j h. omega arith), tt));
  }
