-- What is said of the answers of packets, and a record that is cut in two; where packets point stands in proofs/Places.
use Rattle.std.specs.Prelude.{ℕ, ◌≤◌, ◌≡◌, List, [], ◌∷◌}
use Rattle.answers.specs.Answer.{Answer, number}
use Rattle.packets.specs.declared.records.Taken.{Taken}

-- Each answer of 5, 6, 7 or 8 is a.
abbrev pub AllLast : Answer → List Taken → Type 0
AllLast a [] = Unit
AllLast a (r ∷ rs) = (5 ≤ number r.answer → r.answer ≡ a) × AllLast a rs

-- A record that is cut in two: of this 07 the kind comes in the first packet, and its fourth body byte, at the place 4, in the
-- second. Whatever is known of the panel, within its ranges, every run of these two ends so.
abbrev pub split : List (List ℕ)
split = (0x07 ∷ 0x12 ∷ 0x34 ∷ []) ∷ (0x05 ∷ 0x01 ∷ []) ∷ []
