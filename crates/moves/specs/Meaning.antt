-- What each case of a step's answer says in document 01's terms.
-- Assumes nothing.
use Rattle.std.specs.Prelude.{ℕ, Result, Ok, Err}
use Rattle.file_law.specs.Answer.{Answer, gives, refuses}
use Rattle.file_law.specs.Table.{Running}
use Rattle.refusals.specs.Number.{number_of}
use Rattle.refusals.specs.declared.Refusal.{Refusal}
use Rattle.moves.specs.declared.Stands.{Stands}

abbrev pub meaning : Result Stands (Refusal ℕ) → Answer Running
meaning (Ok s) = gives (record { state = s.state; outputs = s.outputs })
meaning (Err r) = refuses (number_of r.cause) r.place
