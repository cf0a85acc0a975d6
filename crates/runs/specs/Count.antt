-- How many bytes the runs have. The argument: once around the ring each cell that differs is clocked in, and at each fall one address besides; the
-- strobes of the runs fall as often as there are runs.
use Rattle.std.specs.Prelude.{ℕ, zero, suc, ◌+◌, ◌*◌, ◌-◌, ◌<◌, ◌≡◌, refl, Bool, true, false, List, [], ◌∷◌, ◌++◌, map, length}
use Rattle.std.proofs.Common.{arith, ap, ◌∙◌, length-append}
use Rattle.rules.specs.Choice.{whether}
use Rattle.terms.specs.declared.Event.{Event}
use Rattle.terms.specs.declared.Event.TheVariants.{Power, Falls, ByteIn, Rises, Gap, Unfinished, Keys, Switches, ByteOut}
use Rattle.terms.specs.Event.{recording, recording_append, strobe}
use Rattle.strobes.specs.Stream.{strobe_length}
use Rattle.runs.specs.Runs.{those, behind, differing, starts_of, run, run_strobe, strobes_of, run_events}
use Rattle.runs.specs.Linear.{cell_events, those_ahead, goes, goes_runs, once, in_order}
use Rattle.runs.specs.Front.{front_of, front_is}

-- How many bytes are clocked in, and how often the strobe falls.
abbrev pub bytes_in : List Event → ℕ
bytes_in [] = 0
bytes_in (ByteIn b ∷ es) = suc (bytes_in es)
bytes_in (Power ∷ es) = bytes_in es
bytes_in (Falls ∷ es) = bytes_in es
bytes_in (Rises ∷ es) = bytes_in es
bytes_in (Gap ∷ es) = bytes_in es
bytes_in (Unfinished n ∷ es) = bytes_in es
bytes_in (Keys a b c d ∷ es) = bytes_in es
bytes_in (Switches v ∷ es) = bytes_in es
bytes_in (ByteOut ∷ es) = bytes_in es

abbrev falls : List Event → ℕ
falls [] = 0
falls (Falls ∷ es) = suc (falls es)
falls (ByteIn b ∷ es) = falls es
falls (Power ∷ es) = falls es
falls (Rises ∷ es) = falls es
falls (Gap ∷ es) = falls es
falls (Unfinished n ∷ es) = falls es
falls (Keys a b c d ∷ es) = falls es
falls (Switches v ∷ es) = falls es
falls (ByteOut ∷ es) = falls es

-- A strobe, and what stands behind it.
pub strobe_bytes : (bs : List ℕ) (es : List Event) → bytes_in (strobe bs ++ es) ≡ length bs + bytes_in es
strobe_bytes [] es = omega arith
strobe_bytes (b ∷ bs) es = let h = strobe_bytes bs es in omega arith

strobe_falls : (bs : List ℕ) (es : List Event) → falls (strobe bs ++ es) ≡ suc (falls es)
strobe_falls [] es = refl
strobe_falls (b ∷ bs) es = strobe_falls bs es

module _ (n : ℕ) (d : ℕ → Bool) (w : ℕ → ℕ) where
  strobes_fall : (is : List ℕ) → falls (strobes_of n d w is) ≡ length is
  strobes_fall [] = refl
  strobes_fall (i ∷ is) = strobe_falls ((0xC0 + i) ∷ map w (run n d i)) (strobes_of n d w is) ∙ ap suc (strobes_fall is)

  -- The recording has two bytes for each that is clocked in, and two for each strobe.
  strobes_length : (is : List ℕ) → length (recording (strobes_of n d w is)) ≡ 2 * bytes_in (strobes_of n d w is) + 2 * length is
  strobes_length [] = refl
  strobes_length (i ∷ is) =
      let more = strobes_length is in
      let bs : List ℕ = map w (run n d i) in
      let a = ap length (recording_append (run_strobe n d w i) (strobes_of n d w is)) in
      let b = length-append (recording (run_strobe n d w i)) (recording (strobes_of n d w is)) in
      let c = strobe_length (0xC0 + i) bs in
      let e = strobe_bytes ((0xC0 + i) ∷ bs) (strobes_of n d w is) in
      omega arith

  goes_bytes : (m i : ℕ) (low : Bool) → bytes_in (goes n d w m i low) ≡ length (those_ahead n d m i) + falls (goes n d w m i low)
  goes_bytes zero i true = refl
  goes_bytes zero i false = refl
  goes_bytes (suc m) i low = go low (d i) (λ b. goes_bytes m (behind n i) b)
    where
      go : (low here : Bool) → ((b : Bool) → bytes_in (goes n d w m (behind n i) b) ≡ length (those_ahead n d m (behind n i)) + falls (goes n d w m (behind n i) b))
          → bytes_in (cell_events low here i (w i) ++ goes n d w m (behind n i) here)
          ≡ length (whether here (i ∷ those_ahead n d m (behind n i)) (those_ahead n d m (behind n i))) + falls (cell_events low here i (w i) ++ goes n d w m (behind n i) here)
      go true true more = let h = more true in omega arith
      go true false more = let h = more false in omega arith
      go false true more = let h = more true in omega arith
      go false false more = let h = more false in omega arith

  -- Cells plus runs; and the length of the recording.
  pub run_bytes : 0 < n → bytes_in (run_events n d w) ≡ length (differing n d) + length (starts_of n d)
  run_bytes some =
      let f : ℕ = front_of n d in
      let front = front_is n d some in
      let g = goes_runs n d w f front in
      let b = goes_bytes n f false in
      let o = ap length (once n d f front.inside) in
      let i = ap length (in_order n d f front.inside) in
      let p = length-append (those d (n - f) f) (those d f 0) in
      let q = length-append (those d f 0) (those d (n - f) f) in
      let r = strobes_fall (starts_of n d) in
      let x = ap bytes_in g in
      let y = ap falls g in
      omega arith

  pub run_length : 0 < n → length (recording (run_events n d w)) ≡ 2 * length (differing n d) + 4 * length (starts_of n d)
  run_length some =
      let a = strobes_length (starts_of n d) in
      let b = run_bytes some in
      omega arith
