-- What a glance at the kind tells of the record at a place.
use Rattle.std.specs.Prelude.{ℕ, ◌+◌, ◌<◌, ◌≡◌, List, length, get_or}
use Rattle.one_record.specs.declared.glance.Everyday.{Everyday}
use Rattle.one_record.specs.declared.glance.Everyday.TheVariants.{Falls, Strobe, Rises, ByteIn, Gap, Other}

-- Kind 03, and behind it the byte b.
pub record InByte (l : List ℕ) (i b : ℕ) : Type 0 where
  pub kind : get_or l i 0 ≡ 3
  pub there : i + 1 < length l
  pub byte : b ≡ get_or l (i + 1) 0

abbrev pub Shows : List ℕ → ℕ → Everyday → Type 0
Shows l i Falls = get_or l i 0 ≡ 2
Shows l i (Strobe b) = (get_or l i 0 ≡ 2) × InByte l (i + 1) b
Shows l i Rises = get_or l i 0 ≡ 4
Shows l i (ByteIn b) = InByte l i b
Shows l i Gap = get_or l i 0 ≡ 5
Shows l i Other = Unit
