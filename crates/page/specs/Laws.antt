-- What is written is the page: the number of the answer tells which page it is.
use Rattle.std.specs.Prelude.{ℕ, zero, suc, ◌≡◌, refl, ◌++◌}
use Rattle.terms.specs.Part.{PartRead}
use Rattle.panel.specs.declared.Panel.{Panel}
use Rattle.answers.specs.Answer.{Answer, number, place}
use Rattle.refusals.specs.Refusal.{refused_at}
use Rattle.listing.specs.Memory.{memory}
use Rattle.page.specs.Page.{done_at, printed, page}

-- The page of a replay that is done, and of one that is refused.
pub page_done : (q : PartRead) (answer : Answer) (k : Panel) {p : ℕ} → number answer ≡ 0 → p ≡ place answer → page q answer k ≡ done_at p ++ memory q k
page_done q answer k e f = rw (e, f) refl

pub page_refused : (q : PartRead) (answer : Answer) (k : Panel) {n p : ℕ} → (n ≡ 0 → ⊥) → n ≡ number answer → p ≡ place answer → page q answer k ≡ refused_at n p
page_refused q answer k {n} {p} z e f = rw (← e, ← f) (go n z)
  where
    go : (n : ℕ) → (n ≡ 0 → ⊥) → printed q n p k ≡ refused_at n p
    go zero z = absurd (z refl)
    go (suc n) z = refl
