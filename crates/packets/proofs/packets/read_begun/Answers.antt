-- `packets::packets::read_begun` meets its contract: the walk over the record that was begun is done, and the rest of the packet is read behind it, or the record is refused.
-- Assumes nothing.
use native.Mathlib.Omega.{arith}
use Prim.Native.Nat.{ℕ, ◌+◌, ◌≤◌}
use mathlib.Core.Path.{◌≡◌, sym, ap, ◌∙◌, subst, subst⁻¹}
use mathlib.Core.List.{List, ◌++◌}
use Rattle.terms.specs.declared.Part.{Part}
use Rattle.panel.specs.declared.Panel.{Panel}
use Rattle.walks.specs.declared.Walked.{Walked}
use lib.ListN.{length, take, get_or, length-append}
use lib.Seq.{length-take-le}
use Rattle.recording.specs.Start.{body_four}
use Rattle.recording.specs.Points.{stops_within}
use Rattle.packets.specs.Walks.{Walks}
use Rattle.account.specs.Bytes.{bytes_of, first_five, whole_of}
use Rattle.account.specs.Laws.{first_take}
use Rattle.packets.specs.declared.records.Taken.{Taken}
use Rattle.packets.specs.Takes.{ReadsWith}
use Rattle.packets.specs.Joined.{joined_done, joined_halts}
use Rattle.packets.proofs.packets.read_begun.Goals as goal

-- The record fits into the row.
within : (u l row : List ℕ) (n : ℕ) → row ≡ first_five (u ++ l) → n ≡ whole_of u → n ≤ length row
within u l row n same count = omega (arith, body_four (get_or u 0 0), count, ap length same)

come : (u l : List ℕ) (from : ℕ) → length u + from ≡ whole_of u → from ≤ length l → whole_of u ≤ length (u ++ l)
come u l from sum fits = omega (arith, length-append u l, sum, fits)

own : (u l row : List ℕ) (n : ℕ) → row ≡ first_five (u ++ l) → n ≡ whole_of u → whole_of u ≤ length (u ++ l) → take n row ≡ take (whole_of u) (u ++ l)
own u l row n same count long =
    ap (take n) same ∙ ap (λ (i : ℕ). take i (first_five (u ++ l))) count ∙ first_take (u ++ l) (whole_of u) (omega (arith, body_four (get_or u 0 0))) long

-- What the walk promises, of the record's own bytes.
walks : (p : Part) (k : Panel) (w : Walked Panel) (u l row : List ℕ) (n : ℕ) → row ≡ first_five (u ++ l) → n ≡ whole_of u → whole_of u ≤ length (u ++ l)
    → Walks p k (take n row) w → Walks p k (take (whole_of u) (u ++ l)) w
walks p k w u l row n same count long h = subst (λ (m : List ℕ). Walks p k m w) (own u l row n same count long) h

pub begun_refused-requires : goal.begun_refused-requires
begun_refused-requires c =
    let u = bytes_of c.args.account.unfinished in
    let l = c.args.packet.now in
    let long = come u l c.args.from c.requires.2 c.requires.3 in
    let w = walks c.args.part c.args.panel c.panel_walk-walked.result u l c.joined-row.result c.whole_of-whole.result c.joined-row.ensures c.whole_of-whole.ensures long c.panel_walk-walked.ensures in
    let i = stops_within c.args.part (take (whole_of u) (u ++ l)) c.in-Err.stop.refusal c.in-Err.stop.at (sym w.ended ∙ c.in-Err.is) in
    (c.requires.0.counted, omega (arith, i, length-take-le (whole_of u) (u ++ l) long, body_four (get_or u 0 0)))

pub returns-in-Ok : goal.returns-in-Ok
returns-in-Ok c =
    let a = c.args in
    let u = bytes_of a.account.unfinished in
    let l = a.packet.now in
    let long = come u l a.from c.requires.2 c.requires.3 in
    let w = walks a.part a.panel c.panel_walk-walked.result u l c.joined-row.result c.whole_of-whole.result c.joined-row.ensures c.whole_of-whole.ensures long c.panel_walk-walked.ensures in
    joined_done a.part a.panel a.account.total (a.account.total + length l) u l c.requires.0 c.panel_walk-walked.result.k a.from c.requires.2 c.requires.3
    w.known w.kept c.read_from.result (sym c.in-Ok.is ∙ w.ended) c.read_from.ensures

pub returns-in-Err : goal.returns-in-Err
returns-in-Err c =
    let a = c.args in
    let u = bytes_of a.account.unfinished in
    let l = a.packet.now in
    let long = come u l a.from c.requires.2 c.requires.3 in
    let w = walks a.part a.panel c.panel_walk-walked.result u l c.joined-row.result c.whole_of-whole.result c.joined-row.ensures c.whole_of-whole.ensures long c.panel_walk-walked.ensures in
    subst⁻¹ (λ (x : Taken). ReadsWith a.part a.panel a.account.unfinished a.account.total l x) c.with_panel.ensures
    (joined_halts a.part a.panel a.account.total (a.account.total + length l) u l c.requires.0 c.panel_walk-walked.result.k a.from c.requires.2 c.requires.3
    w.known w.kept c.in-Err.stop.refusal c.in-Err.stop.at c.begun_refused.result (sym c.in-Err.is ∙ w.ended) c.begun_refused.ensures)
