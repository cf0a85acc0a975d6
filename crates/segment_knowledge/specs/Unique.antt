-- Two knowledges that say the same are equal. The argument: there is one code for each standing, and each field is that of a fact.
use Rattle.std.specs.Prelude.{◌≡◌, refl, length}
use Rattle.std.proofs.Common.{arith}
use Rattle.fact.specs.declared.Single.{Single}
use Rattle.fact.specs.View.{same_fact, same_single}
use Rattle.key_codes.specs.Codes.{same_row}
use Rattle.lamps.specs.Lamp.{one_code}
use Rattle.lamps.specs.Row.{one_row}
use Rattle.segment.specs.Fact.{Fact, cell, address, data_mode, stepping, mode, dimming, display, led, key, switches, read_count, position}
use Rattle.segment.specs.declared.Pointer.{Pointer}
use Rattle.segment.specs.declared.Pointer.TheVariants.{At, Invalid}
use Rattle.segment.specs.Value.{pointer}
use Rattle.segment_knowledge.specs.declared.Knowledge.{Knowledge}
use Rattle.segment_knowledge.specs.View.{points, kview}

-- The rows are as long as the arrays of the type. This holds of every knowledge that code hands over.
pub record Shaped (k : Knowledge) : Type 0 where
  pub cells : length k.cells ≡ 36
  pub keys : length k.control.keys ≡ 4

same_pointer : (a b : Pointer) → pointer a ≡ pointer b → a ≡ b
same_pointer (At x) (At y) e =
    let z : x.0 ≡ y.0 = omega arith in
    λ i. At (record { 0 = z i })
same_pointer (At x) Invalid e = absurd (omega arith)
same_pointer Invalid (At y) e = absurd (omega arith)
same_pointer Invalid Invalid e = refl

same_pointing : (a b : Single Pointer) → points a ≡ points b → a ≡ b
same_pointing = same_fact pointer same_pointer

pub same_knowledge : (a b : Knowledge) → Shaped a → Shaped b → ((f : Fact) → kview a f ≡ kview b f) → a ≡ b
same_knowledge a b sa sb h =
    let cs = one_row 8 36 a.cells b.cells sa.cells sb.cells (λ i k. h (cell i k)) in
    let ks = same_row 4 a.control.keys b.control.keys sa.keys sb.keys (λ i. h (key i)) in
    let to = same_pointing a.control.address b.control.address (h address) in
    let d = same_single a.control.«data» b.control.«data» (h data_mode) in
    let st = same_single a.control.stepping b.control.stepping (h stepping) in
    let m = same_single a.control.mode b.control.mode (h mode) in
    let di = same_single a.control.dimming b.control.dimming (h dimming) in
    let o = same_single a.control.display b.control.display (h display) in
    let l = one_code 4 a.control.led b.control.led (λ k. h (led k)) in
    let sw = same_single a.control.switches b.control.switches (h switches) in
    let n = same_single a.control.count b.control.count (h read_count) in
    let p = same_single a.control.position b.control.position (h position) in
    λ i. record {
      cells = cs i;
      control = record {
        address = to i;
        «data» = d i;
        stepping = st i;
        mode = m i;
        dimming = di i;
        display = o i;
        led = l i;
        keys = ks i;
        switches = sw i;
        count = n i;
        position = p i;
      };
    }
