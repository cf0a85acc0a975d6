-- A byte to a RAM at an unknown address may have gone to any of its cells: each keeps what it has in common with the byte, and nothing else changes.
use Rattle.std.specs.Prelude.{ℕ, refl}
use Rattle.std.proofs.Common.{arith}
use Rattle.terms.specs.declared.Event.TheVariants.{ByteIn}
use Rattle.character.specs.Fact.{position}
use Rattle.character.specs.Laws.{every}
use Rattle.character.specs.Value.{at_position}
use Rattle.character.specs.Move.{byte_in, move}
use Rattle.character_knowledge.specs.declared.Control.{Control}
use Rattle.character_knowledge.specs.View.{cview}
use Rattle.character_steps.specs.Step.{Steps}
use Rattle.character_steps.specs.Steps.{known_step}
use Rattle.character_known.specs.Cells.{dcram_open, adram_open}
use Rattle.character_known.specs.Columns.{place_open}
use Rattle.character_known.specs.Ram.{Ram, text, columns, pairs, place, Open, Roams, changed_in, met_in}

-- What the rule of a byte at the RAM's position makes of it.
pub open_step : (b : ℕ) (ram : Ram) {c : Control} → Open ram c → Steps (byte_in b (at_position (place ram))) c (changed_in ram c (met_in ram b))
open_step b text {c} u = record {
  knows = λ m. dcram_open (cview m c) _ b u (λ i k. refl) u
      (every _ (λ i k n. absurd (n refl)) (λ i k n. refl) (λ i k n. refl) (λ n. absurd (n refl)) (λ n. refl) (λ n. refl) (λ n. refl) (λ k n. refl) (λ n. refl) (λ n. refl) (λ n. refl) (λ n. refl));
  inside = ((omega arith, λ j h. omega arith), (tt, tt));
}
open_step b columns {c} u = record {
  knows = λ m. place_open (cview m c) _ b
      (every _ (λ i k n. refl) (λ i k n. absurd (n refl)) (λ i k n. refl) (λ n. refl) (λ n. absurd (n refl)) (λ n. refl) (λ n. absurd (n refl)) (λ k n. refl) (λ n. refl) (λ n. refl) (λ n. refl) (λ n. refl))
      u.0 u.1 (λ i k. refl) u.0 u.1;
  inside = (tt, ((omega arith, λ j h. omega arith), tt));
}
open_step b pairs {c} u = record {
  knows = λ m. adram_open (cview m c) _ b u (λ i k. refl) u
      (every _ (λ i k n. refl) (λ i k n. refl) (λ i k n. absurd (n refl)) (λ n. refl) (λ n. refl) (λ n. absurd (n refl)) (λ n. refl) (λ k n. refl) (λ n. refl) (λ n. refl) (λ n. refl) (λ n. refl));
  inside = (tt, (tt, (omega arith, λ j h. omega arith)));
}

-- And so the event.
pub roams_step : (b : ℕ) (ram : Ram) {c : Control} → Roams ram c → Steps (move (ByteIn b)) c (changed_in ram c (met_in ram b))
roams_step b ram {c} h = known_step position (byte_in b) c _ (at_position (place ram)) (λ m. h.here) (open_step b ram h.unsure)
