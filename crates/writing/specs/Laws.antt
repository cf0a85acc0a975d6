-- Laws of writing: texts written one behind the other are one text, and a text with room for all of it stands at the
-- front.
use Rattle.std.specs.Prelude.{ℕ, ◌+◌, ◌≤◌, ◌≡◌, refl, List, [], ◌++◌, length, drop}
use Rattle.std.proofs.Common.{sym, ap, ◌∙◌, length-append}
use native.Mathlib.Omega.{arith, min_cases}
use Rattle.std.proofs.lemmas.List.Edits.{sets}
use Rattle.std.proofs.Math.Seq.{length-sets}
use Rattle.writing.specs.Sets.{sets_append, sets_out, front}
use Rattle.writing.specs.Writes.{Writes}

-- Writing changes no length.
pub writes_length : {out : List ℕ} {at : ℕ} {text : List ℕ} {r : ℕ} {out' : List ℕ} → Writes out at text r out' → length out' ≡ length out
writes_length {out} {at} {text} w = ap length w.bytes ∙ length-sets out at text

-- Nothing done is no text written.
pub writes_none : (out : List ℕ) (at : ℕ) → Writes out at [] at out
writes_none out at = record { place = omega arith; bytes = refl }

-- A text, and one behind it, are one text. Where the first fills the memory, the other finds no room in either account.
pub writes_then : {out : List ℕ} {at : ℕ} {one : List ℕ} {a₁ : ℕ} {out₁ : List ℕ} {other : List ℕ} {a₂ : ℕ} {out₂ : List ℕ}
    → Writes out at one a₁ out₁ → Writes out₁ a₁ other a₂ out₂ → Writes out at (one ++ other) a₂ out₂
writes_then {out} {at} {one} {a₁} {out₁} {other} {a₂} {out₂} p q =
    let l : length out₁ ≡ length out = writes_length p in
    let n = length-append one other in
    let m : length (sets out at one) ≡ length out = length-sets out at one in
    let next = at + length one in
    record {
      place = omega (arith, p.place, q.place);
      bytes =
          q.bytes
          ∙ min_cases next (length out) (sets out₁ a₁ other ≡ sets (sets out at one) next other)
          (λ h e. let here : a₁ ≡ next = omega (arith, p.place) in rw (here, p.bytes) refl)
          (λ h e. sets_out other out₁ a₁ (omega (arith, p.place)) ∙ p.bytes ∙ sym (sets_out other (sets out at one) next (omega arith)))
          ∙ sym (sets_append one other out at);
    }

-- With room for all of it, the text stands at the front, and the rest is as it was.
pub writes_front : {out text : List ℕ} {r : ℕ} {out' : List ℕ} → length text ≤ length out → Writes out 0 text r out'
    → (r ≡ length text) × (out' ≡ text ++ drop (length text) out)
writes_front {out} {text} h w = (omega (arith, w.place), w.bytes ∙ front text out h)
