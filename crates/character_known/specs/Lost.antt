-- Nothing at all is known, as behind a gap: a byte clocked in leaves it so, as it may have come while nothing was heard.
use Rattle.std.specs.Prelude.{ℕ, ◌≡◌, refl}
use Rattle.std.proofs.Common.{arith}
use Rattle.knowing.specs.Standing.{Standing, unknown}
use Rattle.knowing.specs.Know.{know}
use Rattle.knowing.specs.Lost.{look_lost}
use Rattle.terms.specs.declared.Event.TheVariants.{ByteIn}
use Rattle.character.specs.Fact.{Fact, same?, range, position}
use Rattle.character.specs.Move.{byte_in, move}

pub lost_deaf : (k : Fact → Standing) → ((f : Fact) → k f ≡ unknown) → (b : ℕ) (f : Fact) → k f ≡ know same? range (move (ByteIn b)) k f
lost_deaf k none b f = look_lost same? range position (byte_in b) 0 5 (omega arith) (omega arith) (λ e. omega arith) refl refl k (none position) f (none f)
