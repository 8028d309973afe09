-- No second answer and no second record satisfies a promise of the controller.
-- Assumes nothing.
use mathlib.Core.Path.{◌≡◌, sym, ap, ◌∙◌}
use Prim.Native.Nat.{ℕ}
use Rattle.std.proofs.Common.{Result}
use Rattle.file_law.specs.Answer.{Answer}
use Rattle.file_law.specs.Table.{Running}
use Rattle.file_law.specs.Stepping.{after}
use Rattle.refusals.specs.declared.Refusal.{Refusal}
use Rattle.moves.specs.Meaning.{meaning}
use Rattle.moves.specs.declared.Stands.{Stands}
use Rattle.stepper.proofs.Only.{one}
use Rattle.controller.specs.Record.{running, Took}
use Rattle.controller.specs.declared.Controller.{Controller}

pub one_record : (c d : Controller) → running c ≡ running d → c ≡ d
one_record c d e = ap (λ (r : Running). record { state = r.state; outputs = r.outputs }) e

-- for whatever the call is to answer: step_answer for a step, start_answer for opening
pub took_only : {answer : Answer Running} {entry : Controller} {a b : Result Stands (Refusal ℕ)} {c d : Controller} → Took answer entry a c → Took answer entry b d → (a ≡ b) × (c ≡ d)
took_only {answer} {entry} {a} {b} {c} {d} p q =
    let e : meaning a ≡ meaning b = p.answers ∙ sym q.answers in
    (one a b e, one_record c d (p.keeps ∙ ap (λ (m : Answer Running). after m (running entry)) e ∙ sym q.keeps))
