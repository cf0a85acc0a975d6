-- Chips that fit a knowledge: wherever it does not know, any value will do.
use Rattle.std.specs.Prelude.{ℕ, ◌<◌, refl}
use Rattle.rules.specs.Range.{Good}
use Rattle.knowing.specs.Standing.{Standing, known, unknown, Agrees, Fits, Within, Sound}

abbrev pub fill : ℕ → Standing → ℕ
fill d (known v) = v
fill d unknown = d

-- The chip that has d wherever k does not know.
abbrev pub filled : {F : Type 0} → ℕ → (F → Standing) → F → ℕ
filled d k f = fill d (k f)

pub agrees : (d : ℕ) (s : Standing) → Agrees s (fill d s)
agrees d (known v) = refl
agrees d unknown = tt

below : (n d : ℕ) (s : Standing) → d < n → Within n s → fill d s < n
below n d (known v) h w = w
below n d unknown h w = h

module _ {F : Type 0} (range : F → ℕ) (d : ℕ) (room : (f : F) → d < range f) (k : F → Standing) where
  pub filled_fits : Fits k (filled d k)
  filled_fits f = agrees d (k f)

  pub filled_good : Sound range k → Good range (filled d k)
  filled_good s f = below (range f) d (k f) (room f) (s f)
