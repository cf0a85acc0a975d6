-- The facts of a PT6312 or PT6315 panel in the checksum, in paper 01's order. What the part lacks is left out.
use Rattle.std.specs.Prelude.{ℕ, List, take}
use Rattle.segment.specs.declared.Family.{Family}
use Rattle.segment.specs.declared.Family.TheVariants.{Pt6312, Pt6315}
use Rattle.segment.specs.Family.{sizes}
use Rattle.fact.specs.declared.Single.{Single}
use Rattle.fact.specs.declared.Single.TheVariants.{Known, Unknown}
use Rattle.segment.specs.declared.Pointer.{Pointer}
use Rattle.segment.specs.declared.Pointer.TheVariants.{At, Invalid}
use Rattle.segment_knowledge.specs.declared.Control.{Control}
use Rattle.segment_knowledge.specs.declared.Knowledge.{Knowledge}
use Rattle.checksum.specs.Sum.{taken, all_taken, fact_code}

-- An invalid address counts as 255.
abbrev pub address_code : Single Pointer → ℕ
address_code (Known (At cell)) = cell.0
address_code (Known Invalid) = 255
address_code Unknown = 256

-- The cells, and the key bytes, that the part has.
abbrev pub cell_sum : ℕ → Family → List ℕ → ℕ
cell_sum sum family cells = all_taken sum (take (sizes family).cells cells)

abbrev pub key_sum : ℕ → Family → List ℕ → ℕ
key_sum sum family keys = all_taken sum (take (sizes family).keys keys)

abbrev pub switch_sum : ℕ → Family → Single ℕ → ℕ
switch_sum sum Pt6312 switches = taken sum (fact_code switches)
switch_sum sum Pt6315 switches = sum

abbrev pub setting_sum : ℕ → Control → ℕ
setting_sum sum c =
    taken (taken (taken (taken (taken (taken sum (fact_code c.«data»)) (fact_code c.stepping)) (fact_code c.mode)) (fact_code c.dimming)) (fact_code c.display))
    c.led

abbrev pub input_sum : ℕ → Family → Control → ℕ
input_sum sum family c = switch_sum (key_sum sum family c.keys) family c.switches

abbrev pub segment_sum : ℕ → Family → Knowledge → ℕ
segment_sum sum family k =
    let c = k.control in
    taken (taken (input_sum (setting_sum (taken (cell_sum sum family k.cells) (address_code c.address)) c) family c) (fact_code c.count)) (fact_code c.position)
