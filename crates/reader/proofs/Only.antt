-- No second answer meets a promise: two answers with one meaning are one.
-- Assumes nothing.
use mathlib.Core.Path.{◌≡◌, sym, ap, ◌∙◌}
use Prim.Native.Nat.{ℕ}
use mathlib.Core.List.{List}
use Rattle.std.proofs.Common.{Result, Ok, Err}
use Rattle.file_law.specs.Reading as law
use Rattle.file_law.specs.Reading.{open_answer}
use Rattle.file_law.specs.Stepping.{shape_answer}
use Rattle.file_law.proofs.Answers.{never, same}
use Rattle.refusals.proofs.Only.{same_refusal}
use Rattle.refusals.specs.Number.{number_of}
use Rattle.refusals.specs.declared.Refusal.{Refusal}
use Rattle.stream.specs.declared.sizes.Sizes.{Sizes}
use Rattle.reader.specs.Meaning.{meaning}

pub one : (a b : Result Sizes (Refusal ℕ)) → meaning a ≡ meaning b → a ≡ b
one (Ok z) (Ok z') e = ap (λ (x : law.Sizes). Ok (record { inputs = x.inputs; outputs = x.outputs; states = x.states })) (same e)
one (Ok z) (Err r) e = absurd (never e)
one (Err r) (Ok z) e = absurd (never (sym e))
one (Err r) (Err r') e =
    let n : number_of r.cause ≡ number_of r'.cause = cc in
    let p : r.place ≡ r'.place = cc in
    ap (λ x. Err x) (same_refusal r r' n p)

pub open_only : (f : List ℕ) (a b : Result Sizes (Refusal ℕ)) → meaning a ≡ open_answer f → meaning b ≡ open_answer f → a ≡ b
open_only f a b p q = one a b (p ∙ sym q)

pub shape_only : (f : List ℕ) (a b : Result Sizes (Refusal ℕ)) → meaning a ≡ shape_answer f → meaning b ≡ shape_answer f → a ≡ b
shape_only f a b p q = one a b (p ∙ sym q)
