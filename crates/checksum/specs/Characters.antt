-- The facts of a PT6302 panel in the checksum, in paper 01's order.
use Rattle.std.specs.Prelude.{ℕ}
use Rattle.terms.specs.declared.Address.{Address}
use Rattle.fact.specs.declared.Single.{Single}
use Rattle.character_knowledge.specs.declared.Control.{Control}
use Rattle.character_knowledge.specs.declared.Knowledge.{Knowledge}
use Rattle.checksum.specs.Sum.{taken, all_taken, code_of, fact_code}

abbrev pub address_code : Single Address → ℕ
address_code = code_of (λ cell. cell.0)

abbrev pub memory_sum : ℕ → Knowledge → ℕ
memory_sum sum k = all_taken (all_taken (all_taken sum k.dcram) k.cgram) k.adram

abbrev pub address_sum : ℕ → Control → ℕ
address_sum sum c = taken (taken (taken sum (address_code c.dcram_at)) (address_code c.cgram_at)) (address_code c.adram_at)

abbrev pub fact_sum : ℕ → Control → ℕ
fact_sum sum c =
    taken (taken (taken (taken (taken (taken sum (fact_code c.column)) c.port) (fact_code c.duty)) (fact_code c.digits)) (fact_code c.lights))
    (fact_code c.position)

abbrev pub character_sum : ℕ → Knowledge → ℕ
character_sum sum k = fact_sum (address_sum (memory_sum sum k) k.control) k.control
