-- For who lends the buffer: the whole input stands within it.
use Rattle.std.specs.Prelude.{ℕ, ◌≤◌, ◌≡◌, List, length, take}
use Rattle.std.proofs.Common.{sym, subst, le_of_lt, length-take-le}
use Rattle.read_answer.specs.declared.Input.{Input}
use Rattle.read_answer.specs.declared.Input.TheVariants.{Whole}
use Rattle.input.specs.Reading.{LeavesRoom, Reads}

pub whole_within : {old new : List ℕ} {r : Input} {n : ℕ} → Reads old r new → r ≡ Whole n → n ≤ length new
whole_within {new = new} h e = le_of_lt (subst (LeavesRoom (length new)) e h.leaves)

pub whole_long : {old new : List ℕ} {r : Input} {n : ℕ} → Reads old r new → r ≡ Whole n → n ≡ length (take n new)
whole_long h e = sym (length-take-le _ _ (whole_within h e))
