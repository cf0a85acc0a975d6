-- Number 2, taken apart: the single facts in range, and that with the rows it is every fact.
use Rattle.std.specs.Prelude.{ℕ, ◌≡◌, length}
use Rattle.knowing.specs.Standing.{Standing, Within, Sound}
use Rattle.lamps.specs.Row.{LampsSound, whole_lamps}
use Rattle.character.specs.Fact.{Fact, range, dcram, cgram, adram, dcram_at, cgram_at, adram_at, column, port, duty, digits, lights, position}
use Rattle.character.specs.Laws.{every}
use Rattle.character_knowledge.specs.declared.Knowledge.{Knowledge}
use Rattle.character_knowledge.specs.View.{kview}

abbrev In : (Fact → Standing) → Fact → Type 0
In k f = Within (range f) (k f)

abbrev pub SinglesSound : (Fact → Standing) → Type 0
SinglesSound k =
    (((In k dcram_at × In k adram_at) × (In k cgram_at × In k column)) × (((((j : ℕ) → In k (port j)) × In k duty) × In k digits) × In k lights)) × In k position

module _ (k : Knowledge) where
  abbrev pub Parts : Type 0
  Parts = ((LampsSound 8 k.dcram 16 × LampsSound 2 k.adram 16) × LampsSound 7 k.cgram 40) × SinglesSound (kview k)

  pub sound_whole : length k.dcram ≡ 16 → length k.adram ≡ 16 → length k.cgram ≡ 40 → Parts → Sound range (kview k)
  sound_whole ld la lg p =
      let a = p.1.0.0 in
      let o = p.1.0.1 in
      every (λ (f : Fact). In (kview k) f) (whole_lamps 8 k.dcram 16 ld p.0.0.0) (whole_lamps 7 k.cgram 40 lg p.0.1) (whole_lamps 2 k.adram 16 la p.0.0.1)
      a.0.0 a.1.0 a.0.1 a.1.1 o.0.0.0 o.0.0.1 o.0.1 o.1 p.1.1

  pub sound_parts : Sound range (kview k) → Parts
  sound_parts h = (
    (((λ i j p. h (dcram i j)), (λ i j p. h (adram i j))), (λ i j p. h (cgram i j))),
    ((((h dcram_at, h adram_at), (h cgram_at, h column)), (((λ j. h (port j), h duty), h digits), h lights)), h position),
  )
