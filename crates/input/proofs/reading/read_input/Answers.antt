-- What one call took stands behind what came before it, so that both together are what the calls so far took. Assumes nothing.
use Rattle.std.proofs.Common.{◌≡◌, ℕ, ◌+◌, ◌-◌, ◌≤◌, List, ◌++◌, arith, take, slice_range, sym, ap, ◌∙◌, subst}
use Rattle.std.specs.Io.KnownBytes.{Consumes}
use Rattle.std.proofs.KnownBytes.{Consumes-trans}
use lib.Seq.{take-add}
use Rattle.input.proofs.reading.read_input.Goals as goal

joined : (a b : ℕ) (old new : List ℕ) → a ≤ b → take a new ≡ take a old → take a old ++ slice_range new a b ≡ take b new
joined a b old new h front =
    let same : a + (b - a) ≡ b = omega arith in
    ap (λ l. l ++ slice_range new a b) (sym front) ∙ sym (take-add a (b - a) new) ∙ ap (λ n. take n new) same

pub loop-done-preserved-in-Came : goal.loop-done-preserved-in-Came
loop-done-preserved-in-Came g c =
    let goes = c.in-Came.ensures.goes in
    let done = c.loop-done.done in
    record {
      within = omega (arith, goes.fits.1, goes.size);
      size = goes.size ∙ c.loop-done.invariant.size;
      bytes =
          subst (Consumes _ _) (joined done (done + c.in-Came.n) c.loop-done.buffer c.read_on.new.buffer (omega arith) goes.kept)
          (Consumes-trans _ _ _ _ _ c.loop-done.invariant.bytes c.in-Came.ensures.bytes);
    }
