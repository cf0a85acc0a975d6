-- How the code of a key byte is read as known or unknown.
use Rattle.std.specs.Prelude.{ℕ, eqb}
use Rattle.rules.specs.Choice.{whether}
use Rattle.knowing.specs.Standing.{Standing, known, unknown}

-- 256 is unknown.
abbrev pub coded : ℕ → Standing
coded n = whether (eqb n 256) unknown (known n)
