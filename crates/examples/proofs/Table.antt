-- Every row of the table holds: the test passes, by computation alone, and its law does the rest.
use Rattle.std.specs.Prelude.{refl}
use Rattle.std.proofs.Math.Decide.{ℕ_discrete}
use Rattle.rules.specs.Digit.{digit}
use Rattle.rules.specs.Change.{set_bits}
use Rattle.knowing.specs.Know.{join, common, kept_if}
use Rattle.segment.specs.Family.{sizes}
use Rattle.examples.specs.Row.{AllHold}
use Rattle.examples.specs.Test.{alike, equal, as_said, passes, test}
use Rattle.examples.specs.Table.{table}
use Rattle.examples.proofs.Test.{law}

pub holds : AllHold table
unfolding test passes as_said alike equal sizes ℕ_discrete join common kept_if digit set_bits
holds = law table refl
