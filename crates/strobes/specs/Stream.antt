-- Laws of writing a stream: what is written piece by piece is the whole, and how long it is.
use Rattle.std.specs.Prelude.{ℕ, suc, ◌+◌, ◌*◌, ◌<◌, ◌≤◌, ◌≡◌, refl, List, [], ◌∷◌, ◌++◌, map, length, get_or, take, set}
use Rattle.std.proofs.Common.{arith, add-one, sym, ap, ◌∙◌, length-append, take-suc, length-take-le}
use Rattle.std.proofs.lemmas.List.Edits.{sets}
use Rattle.writing.specs.Sets.{sets_append}
use Rattle.writing.specs.declared.Writer.{Writer}
use Rattle.writing.specs.Wrote.{Wrote, wrote_then}
use Rattle.terms.specs.declared.Event.{Event}
use Rattle.terms.specs.declared.Event.TheVariants.{ByteIn, Rises}
use Rattle.terms.specs.Event.{recording, recording_append, strobe}

pub bytes_length : (bs : List ℕ) → length (recording (map ByteIn bs)) ≡ 2 * length bs
bytes_length [] = refl
bytes_length (b ∷ bs) =
    let h = bytes_length bs in
    omega arith

map-append : (xs ys : List ℕ) → map ByteIn (xs ++ ys) ≡ map ByteIn xs ++ map ByteIn ys
map-append [] ys = refl
map-append (x ∷ xs) ys = ap (λ (l : List Event). ByteIn x ∷ l) (map-append xs ys)

-- One byte more.
pub bytes_more : (bs : List ℕ) (i : ℕ) → i < length bs
    → recording (map ByteIn (take (i + 1) bs)) ≡ recording (map ByteIn (take i bs)) ++ (3 ∷ get_or bs i 0 ∷ [])
bytes_more bs i h =
    ap (λ (k : ℕ). recording (map ByteIn (take k bs))) (add-one i)
    ∙ ap (λ (l : List ℕ). recording (map ByteIn l)) (take-suc bs i 0 h)
    ∙ ap recording (map-append (take i bs) (get_or bs i 0 ∷ []))
    ∙ recording_append (map ByteIn (take i bs)) (ByteIn (get_or bs i 0) ∷ [])

-- A strobe in its pieces.
pub strobe_pieces : (b : ℕ) (bs : List ℕ) → recording (strobe (b ∷ bs)) ≡ 2 ∷ ((3 ∷ b ∷ []) ++ (recording (map ByteIn bs) ++ (4 ∷ [])))
strobe_pieces b bs = ap (λ (l : List ℕ). 2 ∷ 3 ∷ b ∷ l) (recording_append (map ByteIn bs) (Rises ∷ []))

pub strobe_length : (b : ℕ) (bs : List ℕ) → length (recording (strobe (b ∷ bs))) ≡ 2 * length bs + 4
strobe_length b bs =
    let e = ap length (recording_append (map ByteIn bs) (Rises ∷ [])) in
    let n = length-append (recording (map ByteIn bs)) (4 ∷ []) in
    let k = bytes_length bs in
    omega arith

-- Two bytes, one behind the other.
pub pair_written : (o₀ o₁ o₂ : List ℕ) (at a₁ x y : ℕ) → a₁ ≡ at + 1 → o₁ ≡ set o₀ at x → o₂ ≡ set o₁ a₁ y → o₂ ≡ sets o₀ at (x ∷ y ∷ [])
pair_written o₀ o₁ o₂ at a₁ x y p e₁ e₂ =
    e₂ ∙ ap (λ (l : List ℕ). set l a₁ y) e₁ ∙ ap (λ (k : ℕ). set (set o₀ at x) k y) (p ∙ add-one at)

-- A byte clocked in behind those that stand there.
pub wrote_more : (first now' next bytes : List ℕ) (at i to : ℕ) → now' ≡ sets first at (recording (map ByteIn (take i bytes))) → to ≡ at + 2 * i → i < length bytes
    → next ≡ sets now' to (3 ∷ get_or bytes i 0 ∷ []) → next ≡ sets first at (recording (map ByteIn (take (i + 1) bytes)))
wrote_more first now' next bytes at i to p q h e =
    let r : List ℕ = recording (map ByteIn (take i bytes)) in
    let n : length r ≡ 2 * length (take i bytes) = bytes_length (take i bytes) in
    let l : length (take i bytes) ≡ i = length-take-le i bytes (omega arith) in
    let t : to ≡ at + length r = omega arith in
    e ∙ ap (λ (x : List ℕ). sets x to (3 ∷ get_or bytes i 0 ∷ [])) p
    ∙ ap (λ (k : ℕ). sets (sets first at r) k (3 ∷ get_or bytes i 0 ∷ [])) t
    ∙ sym (sets_append r (3 ∷ get_or bytes i 0 ∷ []) first at)
    ∙ ap (λ (x : List ℕ). sets first at x) (sym (bytes_more bytes i h))

-- A strobe, written in its four pieces.
pub strobe_written : (o₀ o₁ o₂ o₃ o₄ : List ℕ) (at a₁ a₂ a₃ b : ℕ) (bs : List ℕ)
    → a₁ ≡ at + 1 → o₁ ≡ set o₀ at 2 → a₂ ≡ a₁ + 2 → o₂ ≡ sets o₁ a₁ (3 ∷ b ∷ []) → a₃ ≡ a₂ + 2 * length bs → o₃ ≡ sets o₂ a₂ (recording (map ByteIn bs))
    → o₄ ≡ set o₃ a₃ 4 → o₄ ≡ sets o₀ at (recording (strobe (b ∷ bs)))
strobe_written o₀ o₁ o₂ o₃ o₄ at a₁ a₂ a₃ b bs p₁ e₁ p₂ e₂ p₃ e₃ e₄ =
    let r : List ℕ = recording (map ByteIn bs) in
    let n : length r ≡ 2 * length bs = bytes_length bs in
    let q₃ : a₃ ≡ a₂ + length r = omega arith in
    let q₁ : a₁ ≡ suc at = omega arith in
    e₄ ∙ ap (λ (x : List ℕ). set x a₃ 4) e₃
    ∙ ap (λ (k : ℕ). set (sets o₂ a₂ r) k 4) q₃
    ∙ sym (sets_append r (4 ∷ []) o₂ a₂)
    ∙ ap (λ (x : List ℕ). sets x a₂ (r ++ (4 ∷ []))) e₂
    ∙ ap (λ (k : ℕ). sets (sets o₁ a₁ (3 ∷ b ∷ [])) k (r ++ (4 ∷ []))) p₂
    ∙ sym (sets_append (3 ∷ b ∷ []) (r ++ (4 ∷ [])) o₁ a₁)
    ∙ ap (λ (x : List ℕ). sets x a₁ ((3 ∷ b ∷ []) ++ (r ++ (4 ∷ [])))) e₁
    ∙ ap (λ (k : ℕ). sets (set o₀ at 2) k ((3 ∷ b ∷ []) ++ (r ++ (4 ∷ [])))) q₁
    ∙ ap (λ (x : List ℕ). sets o₀ at x) (sym (strobe_pieces b bs))

-- The records of events, and of others behind them, are those of all of them.
pub wrote_events : {u v w : Writer} (es ds : List Event) → Wrote u (recording es) v → Wrote v (recording ds) w → Wrote u (recording (es ++ ds)) w
wrote_events es ds p q = rw (recording_append es ds) (wrote_then p q)

-- What is stored at a place with room for all of it is written.
pub wrote_at : {v w : Writer} {text : List ℕ} → w.out.ghost_name ≡ v.out.ghost_name → v.at + length text ≤ length v.out.now → w.at ≡ v.at + length text
    → w.out.now ≡ sets v.out.now v.at text → Wrote v text w
wrote_at same room place bytes = record { same = same; written = record { place = omega (arith, room, place); bytes = bytes } }
