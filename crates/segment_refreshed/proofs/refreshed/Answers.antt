-- `segment_refreshed::refreshed` meets its contract, fact by fact: the cells spell the wanted bytes, and what else an update sets is known as `Sent` says.
-- Assumes nothing.
use native.Mathlib.Omega.{arith}
use mathlib.Core.Path.{◌≡◌, refl, ap, ◌∙◌}
use lib.ListN.{length}
use Rattle.segment.specs.declared.Sizes.{Sizes}
use Rattle.segment.specs.Family.{sizes}
use Rattle.segment.specs.Laws.{room, every}
use Rattle.segment_knowledge.specs.View.{kview}
use Rattle.segment_refreshed.specs.Sent.{address_known, data_known, stepping_known, count_known, position_known}
use borrow.Author.Rules.{rules}
use Rattle.segment_refreshed.proofs.refreshed.Goals as goal

pub spell-requires : goal.spell-requires
spell-requires c =
    let a = c.args in
    let n : c.sizes-sizes.result.cells ≡ (sizes a.family).cells = ap (λ (z : Sizes). z.cells) c.sizes-sizes.ensures in
    let cells : length a.known.cells ≡ 36 = search rules in
    let wanted : length a.wanted ≡ 36 = search rules in
    let r = (room a.family).0 in
    (omega arith, omega arith)

pub returns : goal.returns
returns c =
    let a = c.args in
    let k = kview a.known in
    let s = sizes a.family in
    let h = c.requires in
    let n : c.sizes-sizes.result.cells ≡ s.cells = ap (λ (z : Sizes). z.cells) c.sizes-sizes.ensures in
    every _ (rw n at c.spell.ensures).shows (address_known s k a.wanted _ _ h) (data_known s k a.wanted _ _ h) (stepping_known s k a.wanted _ _ h)
    refl refl refl (λ j. refl) (λ i. refl) refl (c.reads_behind-count.ensures ∙ count_known s k a.wanted _ _ h) (position_known s k a.wanted _ _ h)
