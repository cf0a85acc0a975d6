-- Two knowledges that say the same are equal. The argument: there is one code for each standing, and each field is that of a fact.
use Rattle.std.specs.Prelude.{◌≡◌, length}
use Rattle.fact.specs.declared.Single.{Single}
use Rattle.fact.specs.View.{same_fact, same_single}
use Rattle.lamps.specs.Lamp.{one_code}
use Rattle.lamps.specs.Row.{one_row}
use Rattle.character.specs.Fact.{Fact, dcram, cgram, adram, dcram_at, cgram_at, adram_at, column, port, duty, digits, lights, position}
use Rattle.terms.specs.declared.Address.{Address}
use Rattle.character_knowledge.specs.declared.Knowledge.{Knowledge}
use Rattle.character_knowledge.specs.View.{points, kview}

-- The rows are as long as the arrays of the type. This holds of every knowledge that code hands over.
pub record Shaped (k : Knowledge) : Type 0 where
  pub dcram : length k.dcram ≡ 16
  pub cgram : length k.cgram ≡ 40
  pub adram : length k.adram ≡ 16

same_address : (a b : Address) → a.0 ≡ b.0 → a ≡ b
same_address a b e = λ i. record { 0 = e i }

same_pointing : (a b : Single Address) → points a ≡ points b → a ≡ b
same_pointing = same_fact (λ a. a.0) same_address

pub same_knowledge : (a b : Knowledge) → Shaped a → Shaped b → ((f : Fact) → kview a f ≡ kview b f) → a ≡ b
same_knowledge a b sa sb h =
    let ds = one_row 8 16 a.dcram b.dcram sa.dcram sb.dcram (λ i k. h (dcram i k)) in
    let gs = one_row 7 40 a.cgram b.cgram sa.cgram sb.cgram (λ i k. h (cgram i k)) in
    let aa = one_row 2 16 a.adram b.adram sa.adram sb.adram (λ i k. h (adram i k)) in
    let d = same_pointing a.control.dcram_at b.control.dcram_at (h dcram_at) in
    let g = same_pointing a.control.cgram_at b.control.cgram_at (h cgram_at) in
    let m = same_pointing a.control.adram_at b.control.adram_at (h adram_at) in
    let c = same_single a.control.column b.control.column (h column) in
    let p = one_code 2 a.control.port b.control.port (λ k. h (port k)) in
    let u = same_single a.control.duty b.control.duty (h duty) in
    let n = same_single a.control.digits b.control.digits (h digits) in
    let l = same_single a.control.lights b.control.lights (h lights) in
    let q = same_single a.control.position b.control.position (h position) in
    λ i. record {
      dcram = ds i;
      cgram = gs i;
      adram = aa i;
      control = record {
        dcram_at = d i;
        cgram_at = g i;
        adram_at = m i;
        column = c i;
        port = p i;
        duty = u i;
        digits = n i;
        lights = l i;
        position = q i;
      };
    }
