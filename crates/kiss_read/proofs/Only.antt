-- No second answer or buffer satisfies the promise of a read, nor of its form for C.
-- Assumes nothing.
use mathlib.Core.Path.{◌≡◌, sym, ap, ◌∙◌}
use mathlib.Core.List.{List}
use Prim.Native.Nat.{ℕ}
use Rattle.std.proofs.Common.{Result, Ok, Err}
use Rattle.file_law.proofs.Answers.{never, same}
use Rattle.refusals.proofs.Only.{same_refusal}
use Rattle.refusals.specs.Number.{number_of}
use Rattle.refusals.specs.declared.Refusal.{Refusal}
use Rattle.kiss_law.specs.Kiss.{KissReads, kiss_code}
use Rattle.kiss_law.proofs.OneAnswer.{Ends, one-read}
use Rattle.kiss_read.specs.Meaning.{meaning, ReadCoded}

-- two answers with one meaning are one
pub one : (a b : Result ℕ (Refusal ℕ)) → meaning a ≡ meaning b → a ≡ b
one (Ok n) (Ok m) e = ap (λ x. Ok x) (same e)
one (Ok n) (Err r) e = absurd (never e)
one (Err r) (Ok n) e = absurd (never (sym e))
one (Err r) (Err q) e =
    let n : number_of r.cause ≡ number_of q.cause = cc in
    let p : r.place ≡ q.place = cc in
    ap (λ x. Err x) (same_refusal r q n p)

module _ (text buffer : List ℕ) {after other : List ℕ} where
  pub read_only : (a b : Result ℕ (Refusal ℕ)) → KissReads text buffer (meaning a) after → KissReads text buffer (meaning b) other → (a ≡ b) × (after ≡ other)
  read_only a b c d =
      let e = one-read text buffer c d in
      (one a b (ap (λ (x : Ends). x.0) e), ap (λ (x : Ends). x.1) e)

  pub code_only : {r q : ℕ} → ReadCoded text buffer r after → ReadCoded text buffer q other → (r ≡ q) × (after ≡ other)
  code_only c d =
      let e = one-read text buffer c.reads d.reads in
      (c.is ∙ ap kiss_code (ap (λ (x : Ends). x.0) e) ∙ sym d.is, ap (λ (x : Ends). x.1) e)
