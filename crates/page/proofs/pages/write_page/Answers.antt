-- `page::pages::write_page` meets its contract: the number tells which page it is, and no page is longer than the room that was asked for.
-- Assumes nothing.
use native.Mathlib.Omega.{arith}
use lib.ListN.{length-append}
use Rattle.terms.specs.Part.{part_of}
use Rattle.listing.specs.Memory.{memory}
use Rattle.page.specs.Page.{done_at}
use Rattle.refusals.specs.Refusal.{refused_length}
use borrow.Author.Rules.{rules}
use Rattle.writing.specs.Wrote.{wrote_then, wrote_back}
use Rattle.writing.specs.Prints.{prints}
use Rattle.page.specs.Lengths.{done_length}
use Rattle.page.specs.Laws.{page_done, page_refused}
use Rattle.page.proofs.pages.write_page.Goals as goal

pub returns-then-told-eq0 : goal.returns-then-told-eq0
returns-then-told-eq0 c =
    let a = c.args in
    let t = c.told_of-told in
    let m = c.memory.ensures in
    rw (page_done (part_of a.part) a.answer a.panel (omega (arith, t.ensures.0, c.if-told-eq0.true)) t.ensures.1)
    (prints (omega (arith, c.if-out-lt-ROOM.false)) (omega (arith, length-append (done_at t.result.place.0) (memory (part_of a.part) a.panel), done_length t.result.place.0, m.1)) (wrote_back (wrote_then c.done.ensures m.0) (search rules)))

pub returns : goal.returns
returns c =
    let a = c.args in
    let t = c.told_of-told in
    rw (page_refused (part_of a.part) a.answer a.panel (λ z. omega (arith, c.if-told-eq0.false)) t.ensures.0 t.ensures.1)
    (prints (omega (arith, c.if-out-lt-ROOM.false)) (omega (arith, refused_length t.result.number t.result.place.0)) (wrote_back c.refused.ensures (search rules)))
