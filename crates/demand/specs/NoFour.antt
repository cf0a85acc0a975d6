-- Packets that are short enough; that none of them is answered by 4 stands in proofs/NoFour.
use Rattle.std.specs.Prelude.{ℕ, ◌≤◌, List, [], ◌∷◌}
use Rattle.std.proofs.Math.ListN.{length}

-- Packets of no more than 65,535 bytes each.
abbrev pub Short : List (List ℕ) → Type 0
Short [] = Unit
Short (l ∷ ls) = (length l ≤ 65535) × Short ls
