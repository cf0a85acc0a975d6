-- Packets in turn (M-100): what each is answered, and what is kept in the end.
use Rattle.std.specs.Prelude.{ℕ, ◌+◌, ◌≡◌, List, [], ◌∷◌, ◌++◌, length, Ok}
use Rattle.terms.specs.declared.Part.{Part}
use Rattle.terms.specs.Part.{PartRead}
use Rattle.recording.specs.Walk.{walked, end_of}
use Rattle.recording.specs.Cut.{Open}
use Rattle.answers.specs.Answer.{Answer, number, place}
use Rattle.feed.specs.declared.Feed.{Feed}
use Rattle.packets.specs.declared.records.Taken.{Taken}
use Rattle.packets.specs.Takes.{Takes}

-- Each packet is taken through what the one before left.
abbrev pub Run : PartRead → Feed → List (List ℕ) → List Taken → Type 0
Run q s [] [] = Unit
Run q s [] (r ∷ rs) = ⊥
Run q s (l ∷ ls) [] = ⊥
Run q s (l ∷ ls) (r ∷ rs) = Takes q s l r × Run q r.feed ls rs

-- The recording that the packets make together.
abbrev pub together : List (List ℕ) → List ℕ
together [] = []
together (l ∷ ls) = l ++ together ls

-- What stands for the last answer where there is no packet: number 0 at the total. No call gave it.
abbrev pub started : Feed → Taken
started s = record { answer = Ok (record { 0 = s.account.total }); feed = s }

-- The last answer, and what is kept then.
abbrev pub ending : Taken → List Taken → Taken
ending x [] = x
ending x (r ∷ rs) = ending r rs

-- No packet is answered by 4.
abbrev pub NoFour : List Taken → Type 0
NoFour [] = Unit
NoFour (r ∷ rs) = (number r.answer ≡ 4 → ⊥) × NoFour rs

-- Every one is answered by a.
abbrev pub AllAnswered : Answer → List Taken → Type 0
AllAnswered a [] = Unit
AllAnswered a (r ∷ rs) = (r.answer ≡ a) × AllAnswered a rs

-- The course of the answers to packets that follow a row of bytes, whose total is `total`: each is 0 at its total, as long
-- as no record of the bytes up to its end is refused; the packet that lets a refusal be told is answered by a, and so is
-- every later one. `before` is the total before that packet, or at the end.
pub data Course (p : Part) (a : Answer) : (row : List ℕ) (total : ℕ) → List (List ℕ) → List Taken → (before : ℕ) → Type 0 where
  over : (row : List ℕ) (total : ℕ) → Course p a row total [] [] total
  goes : (row : List ℕ) (total : ℕ) (l : List ℕ) (ls : List (List ℕ)) (r : Taken) (rs : List Taken) (before : ℕ) → Open (end_of (walked p (row ++ l)))
      → number r.answer ≡ 0 → place r.answer ≡ total + length l → Course p a (row ++ l) (total + length l) ls rs before
      → Course p a row total (l ∷ ls) (r ∷ rs) before
  halts : (row : List ℕ) (total : ℕ) (l : List ℕ) (ls : List (List ℕ)) (r : Taken) (rs : List Taken) → (Open (end_of (walked p (row ++ l))) → ⊥)
      → AllAnswered a (r ∷ rs) → Course p a row total (l ∷ ls) (r ∷ rs) total

-- Every packet is answered 0 at its total.
abbrev pub AllGo : ℕ → List (List ℕ) → List Taken → Type 0
AllGo total [] [] = Unit
AllGo total [] (r ∷ rs) = ⊥
AllGo total (l ∷ ls) [] = ⊥
AllGo total (l ∷ ls) (r ∷ rs) = (number r.answer ≡ 0) × (place r.answer ≡ total + length l) × AllGo (total + length l) ls rs
