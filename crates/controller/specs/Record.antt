-- The running controller in document 01's terms, and what a call that is lent it promises.
-- Assumes nothing.
use Rattle.std.specs.Prelude.{◌≡◌, ℕ, Result, Ok, Err}
use Rattle.file_law.specs.Answer.{Answer, gives, refuses}
use Rattle.file_law.specs.Table.{Running}
use Rattle.file_law.specs.Stepping.{after}
use Rattle.refusals.specs.declared.Refusal.{Refusal}
use Rattle.moves.specs.Meaning.{meaning}
use Rattle.moves.specs.declared.Stands.{Stands}
use Rattle.controller.specs.declared.Controller.{Controller}

-- "one small record changed in place: state number and present outputs"
abbrev pub running : Controller → Running
running c = record { state = c.state; outputs = c.outputs }

-- what a value or a refusal of any kind answers, if m is its number and p its place
abbrev pub told : {E : Type 0} → (E → ℕ) → (E → ℕ) → Result Stands E → Answer Running
told m p (Ok s) = gives (record { state = s.state; outputs = s.outputs })
told m p (Err r) = refuses (m r) (p r)

-- the call answers so, and the record at exit is what the answer says: "For a refusal the record stays."
pub record Took (answer : Answer Running) (entry : Controller) (r : Result Stands (Refusal ℕ)) (exit : Controller) : Type 0 where
  pub answers : meaning r ≡ answer
  pub keeps : running exit ≡ after (meaning r) (running entry)
