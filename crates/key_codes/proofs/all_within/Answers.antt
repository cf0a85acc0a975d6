-- `key_codes::all_within` meets its contract: the codes passed are all within, where no one is found that is not. Assumes nothing.
use Rattle.std.specs.Prelude.{ℕ, length, take, get_or, ◌<◌, IsTrue, ◌↔◌}
use Rattle.std.proofs.Common.{rules}
use Rattle.knowing.specs.Standing.{Within}
use Rattle.key_codes.specs.View.{coded}
use Rattle.key_codes.specs.Codes.{first_within, small}
use Rattle.key_codes.proofs.all_within.Goals as goal

pub returns : goal.returns
returns c =
    let a = c.args in
    let t : IsTrue c.all.result ↔ ((k : ℕ) → k < length (take a.count a.codes.now) → Within a.limit (coded (get_or (take a.count a.codes.now) k 0))) = search rules in
    (first_within a.codes.now a.count a.limit c.requires t, small a.codes.now (λ i. (c.type_inv.codes i).fits))
