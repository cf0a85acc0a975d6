-- A byte of which every bit is known or unknown, as a code of two bytes: the values below, and above them the marks of the
-- bits that are known (M-107). A bit without a mark is stored as 0, so that there is one code for what is known of a byte.
use Rattle.std.specs.Prelude.{ℕ, ◌+◌, ◌/◌, ◌%◌, ◌^◌, ◌-◌, ◌≤◌, ◌≡◌, false, List, ltb, get_or}
use Rattle.rules.specs.Choice.{whether, of2}
use Rattle.rules.specs.Digit.{digit}
use Rattle.knowing.specs.Standing.{Standing, known, unknown}
use Rattle.knowing.specs.Know.{join}

-- A bit, by its value and its mark. A 1 without a mark is stored wrongly, and reads as a value that no bit has; h is 0 for
-- a bit of the width, and 3 past it, so that a mark on a bit that is none reads as such a value, too.
abbrev pub lit : ℕ → ℕ → ℕ → Standing
lit h value mark = of2 (of2 unknown (known 2) value) (known (h + value)) mark

abbrev pub past : ℕ → ℕ → ℕ
past w k = whether (ltb k w) 0 3

-- What a code says of bit k of a number of w bits.
unfoldable pub shown : ℕ → ℕ → ℕ → Standing
shown w n k = lit (past w k) (digit k (n % 256)) (digit k (n / 256))

-- What is known of bit k of number i of a row of them. Behind the row nothing is known.
abbrev pub held : ℕ → List ℕ → ℕ → ℕ → Standing
held w l i k = shown w (get_or l i 0) k

-- The bits of a width, in both bytes of a code: FFFF for 8, 7F7F for 7, 0F0F for 4, 0303 for 2.
pub record Wide (w wide : ℕ) : Type 0 where
  pub low : wide % 256 ≡ 2 ^ w - 1
  pub high : wide / 256 ≡ 2 ^ w - 1
  pub byte : w ≤ 8

-- What is known of a bit, for bytes of w bits, when a byte is put there, and when it may have been.
abbrev pub told : ℕ → ℕ → ℕ → Standing → Standing
told w b k s = whether (ltb k w) (known (digit k b)) s

abbrev pub met : ℕ → ℕ → ℕ → Standing → Standing
met w b k s = whether (ltb k w) (join s (known (digit k b))) s

-- What is known of a bit where what the code c says may have gone there.
abbrev pub met_code : ℕ → ℕ → ℕ → Standing → Standing
met_code w c k s = whether (ltb k w) (join s (shown w c k)) s

-- The code c says nothing past the width.
abbrev pub NonePast : ℕ → ℕ → Type 0
NonePast w c = (k : ℕ) → ltb k w ≡ false → shown w c k ≡ unknown

-- The code c is that of the byte b: every bit of the width is known, and nothing past it.
abbrev pub OfByte : ℕ → ℕ → ℕ → Type 0
OfByte w b c = (k : ℕ) → shown w c k ≡ told w b k unknown

-- The code r is a with the byte b put.
abbrev pub Puts : ℕ → ℕ → ℕ → ℕ → Type 0
Puts wide b a r = (w : ℕ) → Wide w wide → (k : ℕ) → shown w r k ≡ told w b k (shown w a k)

-- The code r is what is left of a where what the code c says may have gone there.
abbrev pub Meets : ℕ → ℕ → ℕ → ℕ → Type 0
Meets wide c a r = (w : ℕ) → Wide w wide → NonePast w c → (k : ℕ) → shown w r k ≡ met_code w c k (shown w a k)
