-- No second answer satisfies a promise of the stepper: two answers with one meaning are one.
-- Assumes nothing.
use mathlib.Core.Path.{◌≡◌, sym, ap}
use Prim.Native.Nat.{ℕ}
use mathlib.Core.List.{List}
use Rattle.std.proofs.Common.{Result, Ok, Err}
use Rattle.file_law.specs.Table.{Running}
use Rattle.file_law.specs.Stepping.{step_answer, outputs_answer, start_answer}
use Rattle.file_law.proofs.Answers.{never, same}
use Rattle.refusals.proofs.Only.{same_refusal}
use Rattle.refusals.specs.Number.{number_of}
use Rattle.refusals.specs.declared.Refusal.{Refusal}
use Rattle.moves.specs.Meaning.{meaning}
use Rattle.moves.specs.declared.Stands.{Stands}

pub one : (a b : Result Stands (Refusal ℕ)) → meaning a ≡ meaning b → a ≡ b
one (Ok s) (Ok s') e = ap (λ (r : Running). Ok (record { state = r.state; outputs = r.outputs })) (same e)
one (Ok s) (Err r) e = absurd (never e)
one (Err r) (Ok s) e = absurd (never (sym e))
one (Err r) (Err r') e =
    let n : number_of r.cause ≡ number_of r'.cause = cc in
    let p : r.place ≡ r'.place = cc in
    ap (λ x. Err x) (same_refusal r r' n p)

module _ (f : List ℕ) (a b : Result Stands (Refusal ℕ)) where
  pub step_only : (state input : ℕ) → meaning a ≡ step_answer f state input → meaning b ≡ step_answer f state input → a ≡ b
  step_only state input p q = one a b (cc)

  pub outputs_only : (state : ℕ) → meaning a ≡ outputs_answer f state → meaning b ≡ outputs_answer f state → a ≡ b
  outputs_only state p q = one a b (cc)

  pub start_only : meaning a ≡ start_answer f → meaning b ≡ start_answer f → a ≡ b
  start_only p q = one a b (cc)
