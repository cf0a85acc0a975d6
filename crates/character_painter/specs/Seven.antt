-- The strobes of PT6302's RAMs and settings: written one behind the other they are the painting, and how long they are.
use Rattle.std.specs.Prelude.{ℕ, ◌+◌, ◌*◌, ◌≡◌, List, ◌∷◌, ◌++◌, length}
use Rattle.std.proofs.Common.{arith, sym, ap, ◌∙◌, append_assoc, length-append}
use Rattle.writing.specs.declared.Writer.{Writer}
use Rattle.writing.specs.Wrote.{Wrote, wrote_then}
use Rattle.terms.specs.declared.Event.{Event}
use Rattle.terms.specs.Event.{recording, recording_append, strobe}
use Rattle.painting.specs.Character.{three_rams}
use Rattle.strobes.specs.Stream.{strobe_length}

abbrev pub rams_stream : List ℕ → List ℕ → List ℕ → List ℕ
rams_stream ds gs pairs = recording (strobe (0x10 ∷ ds)) ++ (recording (strobe (0x20 ∷ gs)) ++ recording (strobe (0x30 ∷ pairs)))

-- The RAMs' strobes in their pieces, whatever stands behind them.
pub rams_pieces : (ds gs pairs : List ℕ) (rest : List Event)
    → recording (three_rams ds gs pairs rest) ≡ rams_stream ds gs pairs ++ recording rest
rams_pieces ds gs pairs rest =
    let d = recording (strobe (0x10 ∷ ds)) in
    let g = recording (strobe (0x20 ∷ gs)) in
    let a = recording (strobe (0x30 ∷ pairs)) in
    recording_append (strobe (0x10 ∷ ds)) (strobe (0x20 ∷ gs) ++ (strobe (0x30 ∷ pairs) ++ rest))
    ∙ ap (λ (l : List ℕ). d ++ l) (recording_append (strobe (0x20 ∷ gs)) (strobe (0x30 ∷ pairs) ++ rest) ∙ ap (λ (l : List ℕ). g ++ l) (recording_append (strobe (0x30 ∷ pairs)) rest))
    ∙ ap (λ (l : List ℕ). d ++ l) (sym (append_assoc g a (recording rest)))
    ∙ sym (append_assoc d (g ++ a) (recording rest))

pub rams_length : (ds gs pairs : List ℕ) → length (rams_stream ds gs pairs) ≡ 12 + 2 * (length ds + (length gs + length pairs))
rams_length ds gs pairs =
    let d = recording (strobe (0x10 ∷ ds)) in
    let g = recording (strobe (0x20 ∷ gs)) in
    let a = recording (strobe (0x30 ∷ pairs)) in
    omega (arith, length-append d (g ++ a), length-append g a, strobe_length 0x10 ds, strobe_length 0x20 gs, strobe_length 0x30 pairs)

-- The RAMs' strobes, and what is written behind them.
pub rams_then : {u v w : Writer} (ds gs pairs : List ℕ) (rest : List Event) → Wrote u (rams_stream ds gs pairs) v → Wrote v (recording rest) w
    → Wrote u (recording (three_rams ds gs pairs rest)) w
rams_then ds gs pairs rest p q = rw (rams_pieces ds gs pairs rest) (wrote_then p q)

pub seven_length : (ds gs pairs : List ℕ) (rest : List Event)
    → length (recording (three_rams ds gs pairs rest)) ≡ 12 + 2 * (length ds + (length gs + length pairs)) + length (recording rest)
seven_length ds gs pairs rest =
    let e = ap length (rams_pieces ds gs pairs rest) in
    omega (arith, length-append (rams_stream ds gs pairs) (recording rest), rams_length ds gs pairs)
