-- "Empty input prints refused 1 at 0." The argument: the part byte 0 names no part, which the replay refuses by 1 at
-- place 0, and a refusal prints only that.
use Rattle.std.specs.Prelude.{ℕ, List, []}
use Rattle.std.proofs.Common.{arith, sym, subst}
use Rattle.terms.specs.Part.{part_of}
use Rattle.mirror_input.specs.Input.{part_byte, behind}
use Rattle.refusals.specs.Refusal.{refused_at}
use Rattle.writing.specs.Prints.{Prints}
use Rattle.page.specs.Page.{room}
use Rattle.page.specs.Laws.{page_refused}
use Rattle.mirror.specs.Mirror.{Shows}

pub empty_refused : {out : List ℕ} {r : ℕ} {out' : List ℕ} → Shows (part_byte []) (behind []) out r out' → Prints room (refused_at 1 0) out r out'
empty_refused {out} {r} {out'} s =
    let refused = s.replayed.replays in
    let e = page_refused (part_of 0) s.after.answer s.after.panel {n = 1} {p = 0} (λ z. omega arith) (sym refused.numbered) (sym refused.placed) in
    subst (λ (text : List ℕ). Prints room text out r out') e s.printed
