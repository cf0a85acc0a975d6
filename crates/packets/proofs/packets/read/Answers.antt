-- `packets::packets::read` meets its contract: where nothing is unfinished the records start at the packet's front; else a record was begun, and with the packet it is still not whole, or it is.
-- Assumes nothing.
use native.Mathlib.Omega.{arith}
use mathlib.Core.Path.{◌≡◌, refl, sym, ap, ◌∙◌, subst⁻¹}
use mathlib.Core.List.{List, ◌++◌}
use Prim.Native.Nat.{ℕ, ◌+◌}
use lib.ListN.{length}
use Rattle.terms.specs.declared.Part.{Part}
use Rattle.feed.specs.declared.Feed.{Feed}
use Rattle.feed.specs.Feed.{Good}
use Rattle.account.specs.Bytes.{bytes_of}
use Rattle.account.specs.Begun.{Begun, begun}
use Rattle.account.specs.Laws.{of_none}
use Rattle.packets.specs.declared.records.Taken.{Taken}
use Rattle.packets.specs.Takes.{ReadsWith}
use Rattle.packets.specs.Rows.{row_as}
use Rattle.packets.specs.Joined.{short_row}
use borrow.Author.Rules.{rules}
use Rattle.packets.proofs.packets.read.Goals as goal

-- Where something is unfinished, a record was begun.
was_begun : (p : Part) (f : Feed) (n : ℕ) → Good p f → n ≡ length (bytes_of f.account.unfinished) → ¬ (n ≡ 0) → Begun p (bytes_of f.account.unfinished) f.account.total
was_begun p f n good count some = begun p (bytes_of f.account.unfinished) f.account.total good.cut_off (omega (arith, count, some)) good.counted

pub returns-then-count-eq0 : goal.returns-then-count-eq0
returns-then-count-eq0 c =
    let a = c.args in
    let none = sym c.count_of-count.ensures ∙ c.if-count-eq0.true in
    let e = of_none (bytes_of a.feed.account.unfinished) none in
    row_as a.part a.feed.panel (omega (arith, none)) refl (ap (λ (u : List ℕ). u ++ a.packet.now) e) c.read_from.ensures

pub overflow_sub-from : goal.overflow_sub-from
overflow_sub-from c = let g = was_begun c.args.part c.args.feed _ c.requires.0 c.count_of-count.ensures c.if-count-eq0.false in search rules

pub returns-then-packet-from : goal.returns-then-packet-from
returns-then-packet-from c =
    let a = c.args in
    let f = a.feed in
    subst⁻¹ (λ (x : Taken). ReadsWith a.part f.panel f.account.unfinished f.account.total a.packet.now x) c.with_panel.ensures
    (short_row a.part f.panel f.account.total (f.account.total + length a.packet.now) (bytes_of f.account.unfinished) a.packet.now (was_begun c.args.part c.args.feed _ c.requires.0 c.count_of-count.ensures c.if-count-eq0.false) c.put_off.result
    (omega (arith, c.count_of-count.ensures, c.whole_of.ensures, c.if-packet-from.true)) c.put_off.ensures)

pub read_begun-requires : goal.read_begun-requires
read_begun-requires c = let g = was_begun c.args.part c.args.feed _ c.requires.0 c.count_of-count.ensures c.if-count-eq0.false in search rules
