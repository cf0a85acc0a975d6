-- `updater::refresh_segment` meets its contract: number 2 where a known value is out of range, else what is sent for the part's cells, and what is known then
-- by whether it was sent.
-- Assumes nothing.
use native.Mathlib.Omega.{arith}
use lib.ListN.{length}
use mathlib.Core.Path.{◌≡◌, refl, sym, ap, ◌∙◌}
use mathlib.Core.Bool.{true≢false}
use Rattle.rules.specs.Where.{good, bad}
use Rattle.segment.specs.declared.Sizes.{Sizes}
use Rattle.segment.specs.Family.{sizes}
use Rattle.segment.specs.Laws.{room, some_cells}
use Rattle.segment_knowledge.specs.View.{held, kview}
use Rattle.updating.specs.Update.{is_set}
use Rattle.updater.specs.ByFamily.{by_family, named_sent, named_learns, unnamed_learns}
use borrow.Author.Rules.{rules}
use Rattle.updater.proofs.refresh_segment.Goals as goal

pub returns-then-not-sound : goal.returns-then-not-sound
returns-then-not-sound c = (
  bad (λ h. true≢false (sym (c.sound.ensures.back h) ∙ c.if-not-sound.true)) (record { numbered = refl; placed = refl; counted = refl; kept = refl }),
  refl,
)

pub invariant_of-ring : goal.invariant_of-ring
invariant_of-ring c =
    let a = c.args in
    let n : c.sizes-sizes.result.cells ≡ (sizes a.family).cells = ap (λ (z : Sizes). z.cells) c.sizes-sizes.ensures in
    let cells : length a.panel.segment.cells ≡ 36 = search rules in
    let wanted : length a.wanted ≡ 36 = search rules in
    let most = (room a.family).0 in
    let least = some_cells a.family in
    record { some = omega arith; few = omega arith; known = omega arith; asked = omega arith }

pub refreshed-then-requires : goal.refreshed-then-requires
refreshed-then-requires c =
    let a = c.args in
    let n : c.sizes-sizes.result.cells ≡ (sizes a.family).cells = ap (λ (z : Sizes). z.cells) c.sizes-sizes.ensures in
    let t : c.is_set-set.result ≡ is_set (kview a.panel.segment) = c.is_set-set.ensures (held a.panel.segment.cells) in
    named_sent a.family a.panel a.wanted _ n c.send-sending.result c.send-sending.ensures.1 _ _ t c.in-Some.is

pub returns-in_default : goal.returns-in_default
returns-in_default c =
    let a = c.args in
    let s = c.send-sending in
    let n : c.sizes-sizes.result.cells ≡ (sizes a.family).cells = ap (λ (z : Sizes). z.cells) c.sizes-sizes.ensures in
    let t : c.is_set-set.result ≡ is_set (kview a.panel.segment) = c.is_set-set.ensures (held a.panel.segment.cells) in
    let sound = c.sound.ensures.so c.if-not-sound.false in (
      good sound (by_family a.family a.panel.segment a.wanted a.out.now _ _ _ _ n t s.ensures.0),
      unnamed_learns a.family a.panel a.wanted _ n s.result s.ensures.1 c.in_default.is,
    )

pub returns-in-Some : goal.returns-in-Some
returns-in-Some c =
    let a = c.args in
    let s = c.send-sending in
    let n : c.sizes-sizes.result.cells ≡ (sizes a.family).cells = ap (λ (z : Sizes). z.cells) c.sizes-sizes.ensures in
    let t : c.is_set-set.result ≡ is_set (kview a.panel.segment) = c.is_set-set.ensures (held a.panel.segment.cells) in
    let sound = c.sound.ensures.so c.if-not-sound.false in (
      good sound (by_family a.family a.panel.segment a.wanted a.out.now _ _ _ _ n t s.ensures.0),
      named_learns a.family a.panel a.wanted _ n s.result s.ensures.1 _ (record { segment = c.refreshed-then.result; character = a.panel.character }) c.in-Some.is
          (λ f. c.refreshed-then.ensures f, refl),
    )
