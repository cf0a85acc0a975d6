-- `read_on` meets its contract: what one call took stands behind what came before it, and a call that failed took nothing. Assumes nothing.
use Rattle.std.proofs.Common.{rules, arith, ◌≡◌, refl, ℕ, zero, suc, ◌+◌, ◌-◌, ◌≤◌, ◌<◌, length, length-take-le, List, [], ◌++◌, inl, inr, take, drop, drop_at, slice_range, sym, ap, ◌∙◌, subst}
use Rattle.std.proofs.lemmas.List.{take-append-le}
use Rattle.std.specs.Prelude.{Option, Result, None, Some, Ok, Err, MatchResult, IsErrAnd, IfOk}
use Rattle.std.specs.Counts.{IsPrefixLen}
use Rattle.std.specs.Io.KnownBytes.{Consumes, Keeps, ReadConsumes}
use Rattle.std.specs.declared.io.ErrorKind.{ErrorKind}
use Rattle.read_answer.specs.declared.Next.{Next}
use Rattle.read_answer.specs.Answer.{Fails, Tells}
use Rattle.input.specs.Bytes.{Hands}
use Rattle.input.proofs.reading.read_on.Goals as goal

keeps : (old new : Option (List ℕ)) → Keeps old new → Consumes old new []
keeps None new h = tt
keeps (Some xs) None h = h
keeps (Some xs) (Some ys) h = sym h

slotted : (xs ys rest : List ℕ) (a m : ℕ) → a ≤ length xs → m ≤ length ys → slice_range (take a xs ++ (ys ++ rest)) a (a + m) ≡ take m ys
slotted xs ys rest a m h l =
    let n : a + m - a ≡ m = omega arith in
    ap (λ k. take k (drop a (take a xs ++ (ys ++ rest)))) n ∙ ap (take m) (drop_at (take a xs) (ys ++ rest) a (length-take-le a xs h)) ∙ take-append-le m ys rest l

module _ (old new : Option (List ℕ)) (before : ℕ) (buf whole : List ℕ) (some : 0 < length buf)
    (stands : (m : ℕ) → m ≤ length buf → slice_range whole before (before + m) ≡ take m buf) where
  failed : (kind : ErrorKind) (n : Next) → Consumes old new [] → Fails kind n → Hands old new before n whole
  failed kind n none (inl (e, is)) = subst (λ x. Hands old new before x whole) (sym is) none
  failed kind n none (inr (e, is)) = subst (λ x. Hands old new before x whole) (sym is) none

  handed : {E : Type 0} (P : E → ErrorKind → Type 0) (r : Result ℕ E) (a : Result ℕ ErrorKind) (n : Next) → IfOk r (λ m. IsPrefixLen m buf) → ReadConsumes old new r buf
      → MatchResult r (λ x. a ≡ Ok x) (λ e. IsErrAnd a (P e)) → Tells a before n → Hands old new before n whole
  handed P (Ok zero) a n within (took, end) e t =
      subst (λ x. Hands old new before x whole) (sym (subst (λ x. Tells x before n) e t)) (took, end refl some)
  handed P (Ok (suc m)) a n within (took, end) e t =
      subst (λ x. Hands old new before x whole) (sym (subst (λ x. Tells x before n) e t)) (subst (Consumes old new) (sym (stands (suc m) within.0)) took)
  handed P (Err why) (Ok m) n within none e t = absurd e
  handed P (Err why) (Err kind) n within none e t = failed kind n (keeps old new none) t

pub returns-clause-bytes : goal.returns-clause-bytes
returns-clause-bytes g c =
    handed _ _ _ _ _ (search rules) (λ m h. slotted c.args.buffer.now c.read.new.buf _ c.args.before m (omega (arith, c.requires)) h) _ c.read.result c.map_err-answer.result c.told.result c.read.ensures.bound c.read.ensures.bytes
    c.map_err-answer.ensures.cases c.told.ensures
