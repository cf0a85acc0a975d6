-- What stands at a place, for every part, by its kind.
use Rattle.std.specs.Prelude.{ℕ, ◌+◌, ◌<◌, ◌≡◌, refl, List, length, get_or, drop, Ok}
use Rattle.std.proofs.Common.{arith, sym, get_or-drop}
use Rattle.terms.specs.declared.Event.TheVariants.{Falls, ByteIn, Rises, Gap}
use Rattle.terms.specs.declared.Part.{Part}
use Rattle.recording.specs.Record.{front, record_of}
use Rattle.recording.specs.Laws.{at_common}

module _ (p : Part) (l : List ℕ) (i : ℕ) where
  pub falls_there : get_or l i 0 ≡ 2 → i < length l → front p (drop i l) ≡ Ok (record_of Falls 1)
  falls_there e h = sym (at_common p l i (Ok (record_of Falls 1)) (omega (arith, e)) (omega (arith, e)) (rw e (omega (arith, h))) (rw e refl))

  pub byte_there : get_or l i 0 ≡ 3 → i + 1 < length l → front p (drop i l) ≡ Ok (record_of (ByteIn (get_or l (i + 1) 0)) 2)
  byte_there e h = sym (at_common p l i (Ok (record_of (ByteIn (get_or l (i + 1) 0)) 2)) (omega (arith, e)) (omega (arith, e)) (rw e (omega (arith, h))) (rw (e, get_or-drop i l 1 0) refl))

  pub rises_there : get_or l i 0 ≡ 4 → i < length l → front p (drop i l) ≡ Ok (record_of Rises 1)
  rises_there e h = sym (at_common p l i (Ok (record_of Rises 1)) (omega (arith, e)) (omega (arith, e)) (rw e (omega (arith, h))) (rw e refl))

  pub gap_there : get_or l i 0 ≡ 5 → i < length l → front p (drop i l) ≡ Ok (record_of Gap 1)
  gap_there e h = sym (at_common p l i (Ok (record_of Gap 1)) (omega (arith, e)) (omega (arith, e)) (rw e (omega (arith, h))) (rw e refl))
