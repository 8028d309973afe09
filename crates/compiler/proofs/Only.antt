-- No second answer, work area or file buffer satisfies the promise of compile, nor of its form for C, whose number tells the answer.
-- Assumes nothing.
use mathlib.Core.Path.{◌≡◌, sym, ap, ◌∙◌}
use mathlib.Core.List.{List}
use Prim.Native.Nat.{ℕ}
use Rattle.file_law.proofs.Answers.{never, same}
use Rattle.language.specs.Promise.{Made, Lent, Ended, Compiles}
use Rattle.language.proofs.OneAnswer.{one_answer}
use Rattle.refusals.specs.declared.Refusal.{Refusal}
use Rattle.refusals.specs.Number.{number_of}
use Rattle.refusals.proofs.Only.{same_refusal}
use Rattle.std.specs.Prelude.{Ok, Err}
use Rattle.compiler.specs.Answered.{Compiled, file_made, meaning, ended}
use Rattle.code_law.specs.Code.{code_of}
use Rattle.code_law.proofs.Compile as told
use Rattle.compiler.specs.Code.{Coded}

-- two answers with one meaning are one
pub one : (a b : Compiled) → meaning a ≡ meaning b → a ≡ b
one (Ok m) (Ok n) e = ap (λ (x : Made). file_made x.states x.blocks) (same e)
one (Ok m) (Err r) e = absurd (never e)
one (Err r) (Ok m) e = absurd (never (sym e))
one (Err r) (Err q) e =
    let n : number_of r.cause ≡ number_of q.cause = cc in
    let p : r.place ≡ q.place = cc in
    ap (λ (x : Refusal ℕ). Err x) (same_refusal r q n p)

module _ (l : Lent) {work other buffer another : List ℕ} where
  pub compile_only : (a b : Compiled) → Compiles l (ended a work buffer) → Compiles l (ended b other another) → (a ≡ b) × (work ≡ other) × (buffer ≡ another)
  compile_only a b c d =
      let e = one_answer c d in
      (one a b (ap (λ (x : Ended). x.answer) e), ap (λ (x : Ended). x.work) e, ap (λ (x : Ended). x.buffer) e)

  pub code_only : {r q : ℕ} → Coded l r work buffer → Coded l q other another → (r ≡ q) × (work ≡ other) × (buffer ≡ another)
  code_only c d =
      let e = one_answer c.compiles d.compiles in
      (c.is ∙ ap code_of (ap (λ (x : Ended). x.answer) e) ∙ sym d.is, ap (λ (x : Ended). x.work) e, ap (λ (x : Ended). x.buffer) e)

-- the number that C gets tells the answer, whatever was lent
pub code_read : {l k : Lent} {r : ℕ} {work other buffer another : List ℕ} (c : Coded l r work buffer) (d : Coded k r other another) → c.answer ≡ d.answer
code_read c d = told.code_read c.compiles d.compiles (sym c.is ∙ d.is)
