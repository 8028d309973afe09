-- What a refusal with the rules' numbers tells, and what the calls promise by it.
-- Assumes nothing.
use Rattle.std.specs.Prelude.{◌≡◌, ℕ, Result, Ok, Err}
use Rattle.std.proofs.Common.{refl, ap, ◌∙◌}
use Rattle.file_law.specs.Answer.{Answer}
use Rattle.file_law.specs.Table.{Running}
use Rattle.file_law.specs.Stepping.{after}
use Rattle.refusals.specs.Number.{number_of}
use Rattle.refusals.specs.declared.Refusal.{Refusal}
use Rattle.moves.specs.Meaning.{meaning}
use Rattle.moves.specs.declared.Stands.{Stands}
use Rattle.controller.specs.Record.{running, told, Took}
use Rattle.controller.specs.declared.Controller.{Controller}

pub told_is_meaning : (r : Result Stands (Refusal ℕ)) → told (λ (q : Refusal ℕ). number_of q.cause) (λ (q : Refusal ℕ). q.place) r ≡ meaning r
told_is_meaning (Ok s) = refl
told_is_meaning (Err q) = refl

pub took : {answer : Answer Running} {entry exit : Controller} (r : Result Stands (Refusal ℕ)) → meaning r ≡ answer → ((m p : Refusal ℕ → ℕ) → running exit ≡ after (told m p r) (running entry)) → Took answer entry r exit
took {answer} {entry} r e f = record {
  answers = e;
  keeps = f (λ (q : Refusal ℕ). number_of q.cause) (λ (q : Refusal ℕ). q.place) ∙ ap (λ (m : Answer Running). after m (running entry)) (told_is_meaning r);
}
