-- Laws of lines: one line more is the lines before it and the one behind them, so that a loop writes them one by one.
use Rattle.std.specs.Prelude.{ℕ, zero, suc, ◌+◌, ◌*◌, ◌≡◌, refl, List, ◌++◌, take, drop}
use Rattle.std.proofs.Common.{suc-mul, arith, sym, ap, ◌∙◌, append_assoc, append-nil, drop-drop}
use Rattle.writing.specs.Wrote.{Wrote, wrote_then}
use Rattle.writing.specs.declared.Writer.{Writer}
use Rattle.lines.specs.Lines.{line, lines}

module _ (full : ℕ) (name : ℕ → List ℕ) (width : ℕ) where
  -- n lines and one more, from line number i on.
  lines_one_more : (n i : ℕ) (cs : List ℕ) → lines full name width (suc n) i cs ≡ lines full name width n i cs ++ line full (name (i + n)) (take width (drop (n * width) cs))
  lines_one_more zero i cs =
      let e : i + 0 ≡ i = omega arith in
      let z : 0 * width ≡ 0 = omega arith in
      rw (e, z) (append-nil (line full (name i) (take width cs)))
  lines_one_more (suc n) i cs =
      let e : suc i + n ≡ i + suc n = omega arith in
      let k : width + n * width ≡ suc n * width = omega (arith, suc-mul n width) in
      let d : drop (n * width) (drop width cs) ≡ drop (suc n * width) cs = drop-drop (n * width) width cs ∙ ap (λ (j : ℕ). drop j cs) k in
      let first : List ℕ = line full (name i) (take width cs) in
      ap (λ (l : List ℕ). first ++ l) (lines_one_more n (suc i) (drop width cs) ∙ rw (e, d) refl)
      ∙ sym (append_assoc first (lines full name width n (suc i) (drop width cs)) (line full (name (i + suc n)) (take width (drop (suc n * width) cs))))

  pub lines_more : {u v w : Writer} (i : ℕ) (cs : List ℕ) → Wrote u (lines full name width i 0 cs) v
      → Wrote v (line full (name i) (take width (drop (i * width) cs))) w → Wrote u (lines full name width (i + 1) 0 cs) w
  lines_more i cs p q =
      let e : i + 1 ≡ suc i = omega arith in
      let z : 0 + i ≡ i = omega arith in
      rw (e, lines_one_more i 0 cs, z) (wrote_then p q)
