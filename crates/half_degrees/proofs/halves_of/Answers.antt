-- `half_degrees::halves_of` meets its contract: below nought it is counted from nought downwards, and the count is the one that the float has.
-- Assumes nothing.
use mathlib.Core.Path.{subst}
use mathlib.Core.Bool.{true, false}
use Prim.Native.Nat.{ℕ, suc}
use lib.Ieee.{binary32, sub, of_bits}
use lib.Ieee.Exact.{HasValue}
use Rattle.half_degrees.specs.Laws.{one_size}
use Rattle.half_degrees.specs.Computed.{below_nought, not_below_nought, taken_from_nought}
use Rattle.half_degrees.proofs.halves_of.Goals as goal

pub doubled-requires : goal.doubled-requires
doubled-requires c =
    let a = c in
    let f = a.args.degrees in
    let b = below_nought f a.well_formed.0.1 a.requires c.if-degrees.true in
    record { halves = suc b.0; few = b.1; exact = taken_from_nought f a.well_formed.0.1 b.0 b.1 b.2 }

pub returns-then-degrees : goal.returns-then-degrees
returns-then-degrees c =
    let a = c in
    let f = a.args.degrees in
    let b = below_nought f a.well_formed.0.1 a.requires c.if-degrees.true in
    let e = (one_size (sub binary32 (of_bits binary32 0) f) false false (suc b.0) c.doubled.result (taken_from_nought f a.well_formed.0.1 b.0 b.1 b.2) c.doubled.ensures).1 in
    subst (λ (n : ℕ). HasValue f true n 2) e b.2

pub doubled-requires-2 : goal.doubled-requires-2
doubled-requires-2 c = let a = c in not_below_nought a.args.degrees a.well_formed.0.1 a.requires c.if-degrees.false

pub returns : goal.returns
returns c = c.doubled-2.ensures
