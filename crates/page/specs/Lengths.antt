-- How long the line of a replay that is done is at most: with the memory, no page is longer than the room that is asked for.
use Rattle.std.specs.Prelude.{ℕ, ◌≤◌, [], ◌∷◌, length}
use Rattle.std.proofs.Common.{arith, length-append}
use Rattle.text.specs.Text.{newline, decimal}
use Rattle.text.specs.Decimal.{decimal_length}
use Rattle.page.specs.Page.{done_at}

pub done_length : (p : ℕ) → length (done_at p) ≤ 29
done_length p = omega (arith, length-append (decimal p) (newline ∷ []), decimal_length p)
