-- What the bytes of a run have in common.
use Rattle.std.specs.Prelude.{ℕ, suc, ◌+◌, ◌*◌, ◌<◌, ◌≡◌, refl, List, length, get_or}
use Rattle.std.proofs.Common.{arith, add-one, ap₂, ◌∙◌}
use Rattle.knowing.specs.Know.{join}
use Rattle.knowing.specs.Standing.{unknown}
use Rattle.lamps.specs.View.{shown, told, Wide, OfByte}
use Rattle.changes.specs.Change.{shared_by}
use Rattle.walks.specs.Run.{Run, byte_of, run_one, run_more}

-- The code is what n bytes from a place on have in common; there is one at least.
pub record Shares (wide : ℕ) (bytes : List ℕ) (from n code : ℕ) : Type 0 where
  pub others : ℕ
  pub counted : n ≡ suc others
  pub run : Run bytes from n
  pub common : (w : ℕ) → Wide w wide → (k : ℕ) → shown w code k ≡ shared_by w (byte_of bytes from) others k

pub shares_one : (wide : ℕ) (bytes : List ℕ) (from code : ℕ) → from + 1 < length bytes → get_or bytes from 0 ≡ 3
    → ((w : ℕ) → Wide w wide → OfByte w (get_or bytes (from + 1) 0) code) → Shares wide bytes from 1 code
shares_one wide bytes from code there kind o =
    let e : from + 1 ≡ from + 2 * 0 + 1 = omega arith in
    record { others = 0; counted = refl; run = run_one bytes from there kind; common = λ w W k. rw e at (o w W k) }

-- One byte more.
pub shares_more : (wide : ℕ) (bytes : List ℕ) (from n code one r : ℕ) → Shares wide bytes from n code → from + 2 * n + 1 < length bytes → get_or bytes (from + 2 * n) 0 ≡ 3
    → ((w : ℕ) → Wide w wide → OfByte w (byte_of bytes from n) one) → ((w k : ℕ) → shown w r k ≡ join (shown w code k) (shown w one k)) → Shares wide bytes from (n + 1) r
shares_more wide bytes from n code one r h there kind o both = record {
  others = n;
  counted = add-one n;
  run = run_more bytes from n h.run there kind;
  common = λ w W k. both w k ∙ ap₂ join (h.common w W k) (o w W k) ∙ again w k;
}
  where
    again : (w k : ℕ) → join (shared_by w (byte_of bytes from) h.others k) (told w (byte_of bytes from n) k unknown) ≡ shared_by w (byte_of bytes from) n k
    again w k = rw h.counted refl
