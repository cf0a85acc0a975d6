-- A byte to a RAM at a known address is put in its cell, and the address goes to the next. Everything that its rule looks at is known, and in range, so only
-- the RAM's own rule is left.
use Prim.Native.Nat.{ℕ, suc, ◌+◌, ◌*◌, ◌/◌, ◌%◌, ◌<◌}
use native.Mathlib.Omega.{arith}
use Rattle.std.proofs.Math.Decide.{ℕ_discrete}
use Rattle.std.specs.Prelude.{◌≡◌}
use Rattle.std.proofs.Math.Path.{refl}
use Rattle.std.proofs.Common.{sym, ap, ◌∙◌, eq-eqb, ne_eqb}
use Rattle.rules.specs.Rule.{look}
use Rattle.rules.specs.Change.{set_bits}
use Rattle.knowing.specs.Standing.{known}
use Rattle.fact.specs.View.{stands}
use Rattle.changes.specs.Laws.{put_told}
use Rattle.terms.specs.declared.Event.TheVariants.{ByteIn}
use Rattle.character.specs.Fact.{same?, dcram, cgram, adram, dcram_at, cgram_at, adram_at, column, position}
use Rattle.character.specs.Laws.{every, dcram_apart, cgram_apart, adram_apart}
use Rattle.character.specs.Value.{at_position}
use Rattle.character.specs.Move.{shown, marked, drawn, byte_in, move}
use Rattle.character_knowledge.specs.declared.Control.{Control}
use Rattle.character_knowledge.specs.View.{cview}
use Rattle.character_steps.specs.Step.{Steps}
use Rattle.character_steps.specs.Steps.{known_step}
use Rattle.character_known.specs.Ram.{Ram, text, columns, pairs, cells, place, aimed, Pointed, Aims, changed_in, put_in}

-- With the address at one of its cells, the next byte goes there.
pub aims_at : (ram : Ram) (c : Control) (n : ℕ) → stands c.position ≡ known (at_position (place ram)) → n < cells ram → Aims ram (aimed ram c n) n
aims_at text c n h l = record { here = h; there = ap known (omega arith); inside = l }
aims_at columns c n h l = record { here = h; there = (ap known (omega arith), refl); inside = l }
aims_at pairs c n h l = record { here = h; there = ap known (omega arith); inside = l }

-- What the rule of a byte at the RAM's position makes of it.
module _ (b : ℕ) {c : Control} {n : ℕ} where
  shown_step : n < 16 → Steps (shown b n) c (changed_in text (aimed text c (suc n)) (put_in n b))
  unfolding set_bits
  shown_step h =
      let e : n % 16 ≡ n = omega arith in
      let next : suc n % 16 ≡ (n + 1) % 16 = omega arith in
      record {
        knows = λ m. every _ (λ i k. rw e (put_told same? dcram dcram_apart (cview m c) 8 n b i k)) (λ i k. refl) (λ i k. refl) (rw (e, next) refl) refl refl refl (λ k. refl) refl refl refl refl;
        inside = (h, (tt, tt));
      }

  marked_step : n < 16 → Steps (marked b n) c (changed_in pairs (aimed pairs c (suc n)) (put_in n b))
  unfolding set_bits
  marked_step h =
      let e : n % 16 ≡ n = omega arith in
      let next : suc n % 16 ≡ (n + 1) % 16 = omega arith in
      record {
        knows = λ m. every _ (λ i k. refl) (λ i k. refl) (λ i k. rw e (put_told same? adram adram_apart (cview m c) 2 n b i k)) refl refl (rw (e, next) refl) refl (λ k. refl) refl refl refl refl;
        inside = (tt, (tt, h));
      }

  drawn_step : Pointed columns c n → n < 40 → Steps (drawn b (n / 5) (n % 5)) c (changed_in columns (aimed columns c (suc n)) (put_in n b))
  unfolding set_bits
  drawn_step p h = go (ℕ_discrete (n % 5 % 5) 4)
    where
      there : n / 5 % 8 * 5 + n % 5 % 5 ≡ n
      there = omega arith

      on : n % 5 % 5 ≡ 4 → suc n / 5 % 8 ≡ (n / 5 % 8 + 1) % 8
      on q =
          let e : suc n / 5 ≡ n / 5 + 1 = omega arith in
          let f : n / 5 % 8 ≡ n / 5 = omega arith in
          rw (e, f) refl

      go : Dec (n % 5 % 5 ≡ 4) → Steps (drawn b (n / 5) (n % 5)) c (changed_in columns (aimed columns c (suc n)) (put_in n b))
      go (yes q) = record {
        knows = λ m. rw (eq-eqb (n % 5 % 5) 4 q, there)
            (every _ (λ i k. refl) (λ i k. put_told same? cgram cgram_apart (cview m c) 7 n b i k) (λ i k. refl) refl (ap known (on q)) refl (ap known (omega arith)) (λ k. refl) refl refl refl refl);
        inside = (tt, (h, tt));
      }
      go (no q) = record {
        knows = λ m. rw (ne_eqb (n % 5 % 5) 4 q, there)
            (every _ (λ i k. refl) (λ i k. put_told same? cgram cgram_apart (cview m c) 7 n b i k) (λ i k. refl) refl (ap known (omega arith) ∙ sym p.0) refl (ap known (omega arith)) (λ k. refl) refl refl refl refl);
        inside = (tt, (h, tt));
      }

  pub aims_step : (ram : Ram) → Aims ram c n → Steps (move (ByteIn b)) c (changed_in ram (aimed ram c (suc n)) (put_in n b))
  aims_step text h = known_step position (byte_in b) c _ 2 (λ m. h.here) (known_step dcram_at (shown b) c _ n (λ m. h.there) (shown_step h.inside))
  aims_step columns h =
      known_step position (byte_in b) c _ 3 (λ m. h.here)
      (known_step cgram_at (λ a. look column (drawn b a)) c _ (n / 5) (λ m. h.there.0)
      (known_step column (drawn b (n / 5)) c _ (n % 5) (λ m. h.there.1) (drawn_step h.there h.inside)))
  aims_step pairs h = known_step position (byte_in b) c _ 4 (λ m. h.here) (known_step adram_at (marked b) c _ n (λ m. h.there) (marked_step h.inside))
